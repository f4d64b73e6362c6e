-- Runs of integers, added up: one more at the end, one less at the front, values that are equal in the run, zeros about it, and the size of a sum.
-- Assumes nothing.
use mathlib.Core.Path.{◌≡◌, refl, sym, ap, ap₂, ◌∙◌}
use Prim.Native.Nat.{ℕ, zero, suc, ◌+◌, ◌-◌, ◌*◌, ◌≤◌, ◌<◌, min, zero-le}
use native.Mathlib.Nat.{add-suc}
use native.Mathlib.Numerals.{add-one}
use native.Mathlib.Omega.{arith}
use lib.IntN.{ℤ, pos, neg_ℤ, nat_abs, ◌+ℤ◌, ◌-ℤ◌, +ℤ_assoc, +ℤ_comm, +ℤ_invr, +ℤ_idr}
use Rattle.rules.specs.Window.{many}
use Rattle.rules.specs.Fold.{Σ}
use Rattle.rules.proofs.Fold.{Σ_split}
use Rattle.rules.proofs.Integers.{nat_abs-+}
use Rattle.sums.specs.Sum.{range_sum}

-- ---- a run

-- one more at the end
sum_last : (a n : ℕ) (f : ℕ → ℤ) → Σ ◌+ℤ◌ (pos 0) a (suc n) f ≡ Σ ◌+ℤ◌ (pos 0) a n f +ℤ f (a + n)
sum_last a n f =
    let e : suc n ≡ n + 1 = omega arith in
    ap (λ (k : ℕ). Σ ◌+ℤ◌ (pos 0) a k f) e
    ∙ Σ_split ◌+ℤ◌ (pos 0) +ℤ_assoc +ℤ_comm refl a n 1 f
    ∙ ap (λ (z : ℤ). Σ ◌+ℤ◌ (pos 0) a n f +ℤ z) (+ℤ_idr (f (a + n)))

-- values that are equal in the run
pub sum_same : (a n : ℕ) (f g : ℕ → ℤ) → ((i : ℕ) → a ≤ i → i < a + n → f i ≡ g i) → Σ ◌+ℤ◌ (pos 0) a n f ≡ Σ ◌+ℤ◌ (pos 0) a n g
sum_same a zero f g h = refl
sum_same a (suc n) f g h = ap₂ ◌+ℤ◌ (h a (omega arith) (omega arith)) (sum_same (suc a) n f g (λ i p q. h i (omega arith) (omega arith)))

-- n zeros
sum_none : (a n : ℕ) (f : ℕ → ℤ) → ((i : ℕ) → a ≤ i → i < a + n → f i ≡ pos 0) → Σ ◌+ℤ◌ (pos 0) a n f ≡ pos 0
sum_none a zero f h = refl
sum_none a (suc n) f h = ap₂ ◌+ℤ◌ (h a (omega arith) (omega arith)) (sum_none (suc a) n f (λ i p q. h i (omega arith) (omega arith)))

-- counted from k on
sum_shift : (k a n : ℕ) (f : ℕ → ℤ) → Σ ◌+ℤ◌ (pos 0) (k + a) n f ≡ Σ ◌+ℤ◌ (pos 0) a n (λ i. f (k + i))
sum_shift k a zero f = refl
sum_shift k a (suc n) f = ap (λ (z : ℤ). f (k + a) +ℤ z) (rw (← add-suc k a) (sum_shift k (suc a) n f))

-- n values of size at most B
pub sum_size : (a n : ℕ) (f : ℕ → ℤ) (B : ℕ) → ((i : ℕ) → a ≤ i → i < a + n → nat_abs (f i) ≤ B) → nat_abs (Σ ◌+ℤ◌ (pos 0) a n f) ≤ n * B
sum_size a zero f B h = zero-le
sum_size a (suc n) f B h =
    omega (
      arith,
      nat_abs-+ (f a) (Σ ◌+ℤ◌ (pos 0) (suc a) n f),
      h a (omega arith) (omega arith),
      sum_size (suc a) n f B (λ i p q. h i (omega arith) (omega arith)),
    )

-- ---- a run that slides

-- what is left when p is taken away
taken : (p s t : ℤ) → p +ℤ t ≡ s → t ≡ s -ℤ p
taken p s t e =
    sym (+ℤ_idr t)
    ∙ ap (λ (z : ℤ). t +ℤ z) (sym (+ℤ_invr p))
    ∙ sym (+ℤ_assoc t p (neg_ℤ p))
    ∙ ap (λ (z : ℤ). z +ℤ neg_ℤ p) (+ℤ_comm t p ∙ e)

-- one more at the end, and one less at the front
pub sum_slide : (a n : ℕ) (f : ℕ → ℤ) → Σ ◌+ℤ◌ (pos 0) (a + 1) n f ≡ Σ ◌+ℤ◌ (pos 0) a n f +ℤ (f (a + n) -ℤ f a)
sum_slide a n f =
    rw (add-one)
    (taken (f a) _ (Σ ◌+ℤ◌ (pos 0) (suc a) n f) (sum_last a n f) ∙ +ℤ_assoc (Σ ◌+ℤ◌ (pos 0) a n f) (f (a + n)) (neg_ℤ (f a)))

module _ (f : ℕ → ℤ) (a b : ℕ) where
  -- an empty range
  pub range_none : b ≤ a → range_sum f a b ≡ pos 0
  range_none h = let e : b - a ≡ 0 = omega arith in rw e refl

  -- b enters
  pub range_more : a ≤ b → range_sum f a (b + 1) ≡ range_sum f a b +ℤ f b
  range_more h =
      let e : b + 1 - a ≡ suc (b - a) = omega arith in
      let d : a + (b - a) ≡ b = omega arith in
      rw e (sum_last a (b - a) f ∙ ap (λ (k : ℕ). range_sum f a b +ℤ f k) d)

  -- a leaves
  pub range_less : a < b → range_sum f (a + 1) b ≡ range_sum f a b -ℤ f a
  range_less h = taken (f a) (range_sum f a b) (range_sum f (a + 1) b) all
    where
      all : f a +ℤ range_sum f (a + 1) b ≡ range_sum f a b
      all =
          let e : b - a ≡ suc (b - (a + 1)) = omega arith in
          rw (e, add-one) refl

  -- values of size at most B
  pub range_size : (B : ℕ) → ((i : ℕ) → a ≤ i → i < b → nat_abs (f i) ≤ B) → nat_abs (range_sum f a b) ≤ (b - a) * B
  range_size B h = sum_size a (b - a) f B (λ i p q. h i p (omega arith))

-- ---- a run in zeros

-- zeros before and after m values
sum_amid : (s a m b : ℕ) (c : ℕ → ℤ) → ((k : ℕ) → s ≤ k → k < s + a → c k ≡ pos 0) → ((k : ℕ) → s + (a + m) ≤ k → k < s + (a + m) + b → c k ≡ pos 0)
    → Σ ◌+ℤ◌ (pos 0) s (a + m + b) c ≡ Σ ◌+ℤ◌ (pos 0) (s + a) m c
sum_amid s a m b c before after =
    Σ_split ◌+ℤ◌ (pos 0) +ℤ_assoc +ℤ_comm refl s (a + m) b c
    ∙ ap₂ ◌+ℤ◌
    (Σ_split ◌+ℤ◌ (pos 0) +ℤ_assoc +ℤ_comm refl s a m c
    ∙ ap (λ (z : ℤ). z +ℤ Σ ◌+ℤ◌ (pos 0) (s + a) m c) (sum_none s a c before)
    ∙ +ℤ_comm (pos 0) (Σ ◌+ℤ◌ (pos 0) (s + a) m c)
    ∙ +ℤ_idr (Σ ◌+ℤ◌ (pos 0) (s + a) m c))
    (sum_none (s + (a + m)) b c after)
    ∙ +ℤ_idr (Σ ◌+ℤ◌ (pos 0) (s + a) m c)

-- the values g of n columns, with zeros before place p and after them
pub record Padded (c g : ℕ → ℤ) (p n : ℕ) : Type 0 where
  pub before : (k : ℕ) → k < p → c k ≡ pos 0
  pub is : (u : ℕ) → u < n → c (p + u) ≡ g u
  pub after : (k : ℕ) → p + n ≤ k → c k ≡ pos 0

-- the 2r + 1 places after x have the columns at most r from x
pub padded_sum : (c g : ℕ → ℤ) (w r x : ℕ) → x < w → Padded c g (r + 1) w → Σ ◌+ℤ◌ (pos 0) (x + 1) (2 * r + 1) c ≡ range_sum g (x - r) (min w (x + r + 1))
padded_sum c g w r x hx p =
    ap (λ (n : ℕ). Σ ◌+ℤ◌ (pos 0) (x + 1) n c) all
    ∙ sum_amid (x + 1) (r - x) (many w r x) (x + r + 1 - w) c (λ k lo hi. p.before k (omega arith)) (λ k lo hi. p.after k (omega arith))
    ∙ ap (λ (s : ℕ). Σ ◌+ℤ◌ (pos 0) s (many w r x) c) start
    ∙ sum_shift (r + 1) (x - r) (many w r x) c
    ∙ sum_same (x - r) (many w r x) (λ u. c (r + 1 + u)) g (λ u lo hi. p.is u (omega arith))
  where
    all : 2 * r + 1 ≡ r - x + many w r x + (x + r + 1 - w)
    all = omega arith

    start : x + 1 + (r - x) ≡ r + 1 + (x - r)
    start = omega arith
