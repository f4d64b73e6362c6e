-- Laws of what is written into a line, and what a turn of each loop over a row does. Assumes nothing.
use mathlib.Core.Path.{◌≡◌, refl, sym, ap, ◌∙◌}
use mathlib.Core.List.{List}
use mathlib.Core.Logic.{⊎_elim}
use Prim.Native.Nat.{ℕ, suc, ◌+◌, ◌-◌, ◌*◌, ◌≤◌, ◌<◌, min}
use native.Mathlib.Nat.{add-zero}
use native.Mathlib.Omega.{arith}
use lib.ListN.{length, set}
use lib.Seq.{get_or-set_same, get_or-set_other}
use Rattle.rules.specs.Count.{in_blocks, samples}
use Rattle.rules.proofs.Count.{inner, inner_is, inner_none, inner_step, samples_length}
use Rattle.windows.specs.Span.{span}
use Rattle.windows.specs.Blocks.{start, stop}
use Rattle.windows.specs.Line.{entry, Written, Laid, fore, aft}
use Rattle.windows.proofs.Spans.{span_one, span_more, span_front}
use Rattle.windows.proofs.Cuts.{lt_or_ge, start_zero, start_same, start_next}

pub min_assoc : (x y z : ℕ) → min (min x y) z ≡ min x (min y z)
min_assoc x y z = omega arith

module _ (F : ℕ → ℕ) (l : List ℕ) where
  pub written_none : (a : ℕ) → Written F l l a a
  written_none a = record { is = λ i x y. absurd (omega arith); rest = λ i h. refl }

  -- one entry
  pub written_one : (i v : ℕ) → i < length l → v ≡ F i → Written F l (set l i v) i (i + 1)
  written_one i v h e =
      record {
        is = λ j x y. let z : j ≡ i = omega arith in rw z (get_or-set_same l i v 0 h ∙ e);
        rest = λ j x. get_or-set_other l i j v 0 (λ z. x (omega arith) (omega arith));
      }

  -- a stretch, and then the one after it
  pub written_on : (m n : List ℕ) (a b c : ℕ) → Written F l m a b → Written F m n b c → a ≤ b → b ≤ c → Written F l n a c
  written_on m n a b c d e ab bc =
      record {
        is = λ i x y. ⊎_elim (λ (g : i < b). e.rest i (λ p q. omega arith) ∙ d.is i x g) (λ (g : b ≤ i). e.is i g y) (lt_or_ge i b);
        rest = λ i h. e.rest i (λ x y. h (omega arith) y) ∙ d.rest i (λ x y. h x (omega arith));
      }

  -- a stretch, and then the one before it
  pub written_back : (m n : List ℕ) (a b c : ℕ) → Written F l m b c → Written F m n a b → a ≤ b → b ≤ c → Written F l n a c
  written_back m n a b c d e ab bc =
      record {
        is = λ i x y. ⊎_elim (λ (g : i < b). e.is i x g) (λ (g : b ≤ i). e.rest i (λ p q. omega arith) ∙ d.is i g y) (lt_or_ge i b);
        rest = λ i h. e.rest i (λ x y. h x (omega arith)) ∙ d.rest i (λ x y. h (omega arith) y);
      }

  -- the next entry
  pub written_more : (m : List ℕ) (a i v : ℕ) → Written F l m a i → a ≤ i → i < length m → v ≡ F i → Written F l (set m i v) a (i + 1)
  written_more m a i v d ai h e =
      record {
        is = λ j x y.
            ⊎_elim
            (λ (g : j < i). get_or-set_other m i j v 0 (λ z. omega arith) ∙ d.is j x g)
            (λ (g : i ≤ j). let z : j ≡ i = omega arith in rw z (get_or-set_same m i v 0 h ∙ e))
            (lt_or_ge j i);
        rest = λ j h. get_or-set_other m i j v 0 (λ z. h (omega arith) (omega arith)) ∙ d.rest j (λ x y. h x (omega arith));
      }

-- the same entries said otherwise
pub written_as : (F G : ℕ → ℕ) (l m : List ℕ) (a b : ℕ) → Written F l m a b → ((i : ℕ) → a ≤ i → i < b → F i ≡ G i) → Written G l m a b
written_as F G l m a b d e = record { is = λ i x y. d.is i x y ∙ e i x y; rest = d.rest }

-- ---- a run of n entries at `to`
module _ (G : ℕ → ℕ) (l : List ℕ) (to : ℕ) where
  pub laid_at : (m : List ℕ) (n x : ℕ) → Laid G l m to n → x < n → entry m (to + x) ≡ G x
  laid_at m n x d h =
      let y : to + x - to ≡ x = omega arith in
      rw y at (d.is (to + x) (omega arith) (omega arith))

-- ---- the least from a on, up to each sample of a stretch
module _ (line l : List ℕ) (a : ℕ) where
  pub ahead_first : (m : ℕ) → a < length l → m ≡ entry line a
      → (m ≡ span min (entry line) a (a + 0)) × Written (span min (entry line) a) l (set l a (entry line a)) a (a + 1)
  ahead_first m h e =
      let one = span_one min (entry line) a in
      (rw add-zero (e ∙ sym one), written_one _ l a _ h (sym one))

  -- a turn, with k samples before it after the first
  pub ahead_more : (p : List ℕ) (k i m v : ℕ) → k + a + 1 ≡ i → i < length p → m ≡ span min (entry line) a (a + k) → v ≡ min m (entry line i)
      → Written (span min (entry line) a) l p a i
      → (v ≡ span min (entry line) a (a + (k + 1))) × Written (span min (entry line) a) l (set p i v) a (i + 1)
  ahead_more p k i m v at h least ev d =
      let next : suc (a + k) ≡ i = omega arith in
      let more : span min (entry line) a i ≡ min (span min (entry line) a (a + k)) (entry line i) = rw next at (span_more min (entry line) a (a + k) (omega arith)) in
      let e : v ≡ span min (entry line) a i = omega arith in
      let z : a + (k + 1) ≡ i = omega arith in
      (rw z e, written_more _ l p a i v d (omega arith) h e)

-- ---- the least up to b, from each sample of a stretch
module _ (line l : List ℕ) (b end : ℕ) (last : b + 1 ≡ end) where
  pub behind_first : (m : ℕ) → b < length l → m ≡ entry line b
      → (m ≡ span min (entry line) b b) × Written (λ j. span min (entry line) j b) l (set l b (entry line b)) b end
  behind_first m h e =
      let one = span_one min (entry line) b in
      (e ∙ sym one, rw (← last) (written_one (λ j. span min (entry line) j b) l b _ h (sym one)))

  pub behind_more : (q : List ℕ) (i m v : ℕ) → 0 < i → i ≤ b → i - 1 < length q → m ≡ span min (entry line) i b → v ≡ min m (entry line (i - 1))
      → Written (λ j. span min (entry line) j b) l q i end
      → (v ≡ span min (entry line) (i - 1) b) × Written (λ j. span min (entry line) j b) l (set q (i - 1) v) (i - 1) end
  behind_more q i m v some ib h least ev d =
      let next : suc (i - 1) ≡ i = omega arith in
      let more : span min (entry line) (i - 1) b ≡ min (entry line (i - 1)) (span min (entry line) i b) =
      rw (span_front min min_assoc (entry line) (i - 1) b (omega arith), next)
      in
      let e : v ≡ span min (entry line) (i - 1) b = omega arith in
      let one : i - 1 + 1 ≡ i = omega arith in
      (e, written_back _ l q _ (i - 1) i end d (rw one at (written_one (λ j. span min (entry line) j b) q (i - 1) v h e)) (omega arith) (omega arith))

-- ---- all blocks
pub record HalvesTo (line p q : List ℕ) (n k first : ℕ) : Type 0 where
  pub begin : start k first ≡ first
  pub fores : (i : ℕ) → i < n → i < first → entry p i ≡ fore line k i
  pub afts : (i : ℕ) → i < n → i < first → entry q i ≡ aft line k n i

module _ (line : List ℕ) (n k : ℕ) (some : 0 < k) where
  pub halves_none : (p q : List ℕ) → HalvesTo line p q n k 0
  halves_none p q = record { begin = start_zero k some; fores = λ i h u. absurd (omega arith); afts = λ i h u. absurd (omega arith) }

  pub halves_more : (p u q v : List ℕ) (first end : ℕ) → HalvesTo line p q n k first → first < n → end ≡ min (first + k) n
      → Written (span min (entry line) first) p u first end → Written (λ i. span min (entry line) i (end - 1)) q v first end
      → HalvesTo line u v n k (first + k)
  halves_more p u q v first end t f e a b =
      record {
        begin = start_next k some first t.begin;
        fores = λ i h y.
            ⊎_elim
            (λ (o : i < first). a.rest i (λ x z. omega arith) ∙ t.fores i h o)
            (λ (o : first ≤ i). let s : start k i ≡ first = start_same k some first i t.begin o y in rw s (a.is i o (omega arith)))
            (lt_or_ge i first);
        afts = λ i h y.
            ⊎_elim
            (λ (o : i < first). b.rest i (λ x z. omega arith) ∙ t.afts i h o)
            (λ (o : first ≤ i).
            let s : start k i ≡ first = start_same k some first i t.begin o y in
            let z : stop k n i ≡ end - 1 = omega arith in
            rw z (b.is i o (omega arith)))
            (lt_or_ge i first);
      }

-- ---- what the blocks take
-- a block's comparisons one way
block_joins : (k n first end : ℕ) → 0 < k → first < n → end ≡ min (first + k) n → end - 1 - first ≡ min k (n - first) - 1
block_joins k n first end some l e = omega arith

left_over : (first n : ℕ) → first < n → 0 < n - first
left_over first n l = omega arith

sum_up : (count x y z d r₁ r₂ : ℕ) → r₁ ≡ d → r₂ ≡ d → x ≡ 2 * d + y → count + x ≡ z → count + r₁ + r₂ + y ≡ z
sum_up count x y z d r₁ r₂ e₁ e₂ e t = omega arith

pub count_more : (k n first end count r₁ r₂ : ℕ) → 0 < k → first < n → end ≡ min (first + k) n → r₁ ≡ end - 1 - first → r₂ ≡ end - 1 - first
    → count + inner k (n - first) ≡ inner k n → count + r₁ + r₂ + inner k (n - (first + k)) ≡ inner k n
count_more k n first end count r₁ r₂ some l e e₁ e₂ t =
    let z : n - first - k ≡ n - (first + k) = omega arith in
    let b = block_joins k n first end some l e in
    sum_up count _ _ _ (min k (n - first) - 1) r₁ r₂ (e₁ ∙ b) (e₂ ∙ b) (rw z at (inner_step k (n - first) some (left_over first n l))) t

pub count_done : (k n first count : ℕ) → n ≤ first → count + inner k (n - first) ≡ inner k n → count ≡ in_blocks k (samples n)
count_done k n first count h t =
    let z : n - first ≡ 0 = omega arith in
    let e : in_blocks k (samples n) ≡ inner k n = inner_is k (samples n) ∙ ap (inner k) (samples_length n) in
    omega (arith, rw z at t, inner_none k)
