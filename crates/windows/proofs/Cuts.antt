-- Laws of blocks, and THE LAW OF THE BLOCK METHOD: what is put together from the block minima is the window (`choose_is`), for any associative
-- operation. Assumes nothing.
use mathlib.Core.Path.{◌≡◌, sym, ap, ◌∙◌}
use mathlib.Core.Logic.{⊎_elim, ◌⊎◌, inl, inr}
use Prim.Native.Nat.{ℕ, zero, suc, ◌+◌, ◌-◌, ◌*◌, ◌/◌, ◌%◌, ◌≤◌, ◌<◌, zero-le, suc-le-suc}
use native.Mathlib.Nat.{div-mul-le_self, lt-div-mul-add, div-eq_of_lt-le, add-mul, one-mul, mod-eq-sub-div-mul}
use native.Mathlib.Omega.{arith}
use borrow.Author.Tests.{lt-ltb, le-ltb, eq-eqb, ne_eqb}
use Rattle.rules.specs.Count.{lo, hi}
use Rattle.windows.specs.Span.{span, windowed}
use Rattle.windows.specs.Blocks.{start, stop, choose}
use Rattle.windows.proofs.Spans.{span_split}

pub lt_or_ge : (a b : ℕ) → (a < b) ⊎ (b ≤ a)
lt_or_ge a zero = inr zero-le
lt_or_ge zero (suc b) = inl (suc-le-suc zero-le)
lt_or_ge (suc a) (suc b) = ⊎_elim (λ h. inl (suc-le-suc h)) (λ h. inr (suc-le-suc h)) (lt_or_ge a b)

pub ne_lt : (a c : ℕ) → c ≤ a → (a ≡ c → ⊥) → c < a
ne_lt a c l f = ⊎_elim (λ (h : c < a). h) (λ (h : a ≤ c). absurd (f (omega arith))) (lt_or_ge c a)

pub pos_of : (a : ℕ) → (a ≡ 0 → ⊥) → 0 < a
pos_of a f = ne_lt a 0 zero-le f

module _ (k : ℕ) (some : 0 < k) where
  -- a sample's place in its block
  pub start_mod : (i : ℕ) → i % k ≡ i - start k i
  unfolding start
  start_mod i = mod-eq-sub-div-mul i k

  pub start_le : (i : ℕ) → start k i ≤ i
  unfolding start
  start_le i = div-mul-le_self i k

  pub lt_start : (i : ℕ) → i < start k i + k
  unfolding start
  lt_start i = lt-div-mul-add some

  start_is : (m i : ℕ) → m * k ≤ i → i < m * k + k → start k i ≡ m * k
  unfolding start
  start_is m i l u =
      let e : (m + 1) * k ≡ m * k + k = omega (arith, add-mul m 1 k, one-mul k) in
      let d : i / k ≡ m = div-eq_of_lt-le k l (omega arith) in
      rw d

  pub start_zero : start k 0 ≡ 0
  start_zero = omega (arith, start_le 0)

  pub start_same : (c i : ℕ) → start k c ≡ c → c ≤ i → i < c + k → start k i ≡ c
  unfolding start
  start_same c i e l u = start_is (c / k) i (omega arith) (omega arith) ∙ e

  pub start_start : (i : ℕ) → start k (start k i) ≡ start k i
  unfolding start
  start_start i = start_is (i / k) (i / k * k) (omega arith) (omega arith)

  pub start_next : (c : ℕ) → start k c ≡ c → start k (c + k) ≡ c + k
  unfolding start
  start_next c e =
      let p : (c / k + 1) * k ≡ c / k * k + k = omega (arith, add-mul (c / k) 1 k, one-mul k) in
      start_is (c / k + 1) (c + k) (omega arith) (omega arith) ∙ omega arith

  -- the block before that of c
  pub start_prev : (c a : ℕ) → start k c ≡ c → a < c → c ≤ a + k → start k a + k ≡ c
  start_prev c a e u l =
      ⊎_elim
      (λ (h : c < start k a + k). absurd (omega (arith, start_le a, start_same (start k a) c (start_start a) (omega (arith, start_le a)) h)))
      (λ (h : start k a + k ≤ c). omega (arith, start_same (start k a + k) c (start_next (start k a) (start_start a)) h (omega (arith, lt_start a))))
      (lt_or_ge c (start k a + k))

module _ {A : Type 0} (op : A → A → A) where
  pub choose_two : (a c : ℕ) (x y : A) → a < c → choose op a c x y ≡ op x y
  unfolding choose
  choose_two a c x y h = rw (lt-ltb a c h)

  pub choose_start : (a c : ℕ) (x y : A) → a ≡ c → choose op a c x y ≡ y
  unfolding choose
  choose_start a c x y h = rw (le-ltb a c (omega arith), eq-eqb a c h)

  pub choose_end : (a c : ℕ) (x y : A) → c < a → choose op a c x y ≡ x
  unfolding choose
  choose_end a c x y h = rw (le-ltb a c (omega arith), ne_eqb a c (λ e. omega arith))

  choose_cases : (a c : ℕ) (x y z : A) → (a < c → op x y ≡ z) → (a ≡ c → y ≡ z) → (c < a → x ≡ z) → choose op a c x y ≡ z
  choose_cases a c x y z f g h =
      ⊎_elim
      (λ (l : a < c). choose_two a c x y l ∙ f l)
      (λ (l : c ≤ a).
      ⊎_elim
      (λ (m : c < a). choose_end a c x y m ∙ h m)
      (λ (m : a ≤ c). let e : a ≡ c = omega arith in choose_start a c x y e ∙ g e)
      (lt_or_ge c a))
      (lt_or_ge a c)

  module _ (assoc : (x y z : A) → op (op x y) z ≡ op x (op y z)) where
    module _ (f P Q : ℕ → A) (k n : ℕ) (some : 0 < k) (hp : (j : ℕ) → j < n → P j ≡ span op f (start k j) j)
        (hq : (j : ℕ) → j < n → Q j ≡ span op f j (stop k n j)) where
      -- the block method gives the run from a to b, at most k long, and shorter only at the line's ends
      choose_run : (a b : ℕ) → a ≤ b → b < n → b < a + k → (0 < a → b + 1 < n → b + 1 ≡ a + k)
          → choose op a (start k b) (Q a) (P b) ≡ span op f a b
      choose_run a b ab bn bk full = choose_cases a c (Q a) (P b) (span op f a b) two one end
        where
          c : ℕ
          c = start k b

          cb : start k b ≤ b
          cb = start_le k some b

          bc : b < start k b + k
          bc = lt_start k some b

          two : a < start k b → op (Q a) (P b) ≡ span op f a b
          two l =
              let e : start k a + k ≡ start k b = start_prev k some (start k b) a (start_start k some b) l (omega (arith, cb, bc)) in
              let t : stop k n a ≡ start k b - 1 = omega (arith, cb, bc) in
              let r : suc (start k b - 1) ≡ start k b = omega (arith, cb, bc) in
              rw (hq a (omega (arith, cb, bc)), hp b bn, t, span_split op assoc f a (start k b - 1) b (omega (arith, cb, bc)) (omega (arith, cb, bc)), r)

          one : a ≡ start k b → P b ≡ span op f a b
          one e = hp b bn ∙ ap (λ (z : ℕ). span op f z b) (sym e)

          end : start k b < a → Q a ≡ span op f a b
          end l =
              let e : start k a ≡ start k b = start_same k some (start k b) a (start_start k some b) (omega (arith, cb, bc)) (omega (arith, cb, bc)) in
              let t : stop k n a ≡ b =
              ⊎_elim (λ (h : b + 1 < n). absurd (omega (arith, cb, bc, full (omega (arith, cb, bc)) h))) (λ (h : n ≤ b + 1). omega (arith, cb, bc)) (lt_or_ge (b + 1) n)
              in
              hq a (omega (arith, cb, bc)) ∙ ap (span op f a) t

      -- so it gives each window
      pub choose_is : (s i : ℕ) → k ≡ 2 * s + 1 → i < n
          → choose op (lo s i) (start k (hi s n i)) (Q (lo s i)) (P (hi s n i)) ≡ windowed op f s n i
      choose_is s i e u = choose_run (lo s i) (hi s n i) (omega arith) (omega arith) (omega arith) (λ a b. omega arith)
