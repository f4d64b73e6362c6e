-- Laws of the windows that are put together from block minima: those cut off at the line's ends, the whole ones, and a whole row. Assumes nothing.
use mathlib.Core.Path.{◌≡◌, refl, sym, ap, ◌∙◌}
use mathlib.Core.Bool.{cond}
use mathlib.Core.List.{List}
use Prim.Native.Nat.{ℕ, ◌+◌, ◌-◌, ◌*◌, ◌≤◌, ◌<◌, min, zero-le}
use native.Mathlib.Omega.{arith}
use native.Mathlib.Numerals.{add-one}
use borrow.Author.Tests.{lt-ltb, le-ltb}
use lib.Dec.{ltb}
use lib.ListN.{length, set}
use Rattle.rules.specs.Count.{lo, hi, in_blocks, crossing, tally, comparisons, samples}
use Rattle.rules.proofs.Count.{tally_suc, tally_ones, crossings_le, samples_length}
use Rattle.windows.specs.Span.{windowed}
use Rattle.windows.specs.Blocks.{start, choose}
use Rattle.windows.specs.Line.{entry, Written, fore, aft, met, Met}
use Rattle.windows.proofs.Spans.{span_one}
use Rattle.windows.proofs.Cuts.{start_zero, start_same, start_next, choose_two, choose_start, choose_is}
use Rattle.windows.proofs.Crossings.{crossing_is}
use Rattle.windows.proofs.Lines.{min_assoc, written_none, written_on, written_more, written_as}

module _ (l p q : List ℕ) (n s : ℕ) where
  pub met_none : (a : ℕ) → Met l l p q n s a a 0
  met_none a = record { mins = written_none _ l a; count = omega arith }

  -- windows, and then those after them
  pub met_on : (u v : List ℕ) (a b c r₁ r₂ : ℕ) → Met l u p q n s a b r₁ → Met u v p q n s b c r₂ → a ≤ b → b ≤ c → Met l v p q n s a c (r₁ + r₂)
  met_on u v a b c r₁ r₂ d e ab bc =
      record {
        mins = written_on _ l u v a b c d.mins e.mins ab bc;
        count = omega (arith, d.count, e.count);
      }

  -- no more comparisons than windows
  pub met_few : (u : List ℕ) (a b r : ℕ) → Met l u p q n s a b r → r ≤ b
  met_few u a b r d = omega (arith, d.count, crossings_le s n b)

-- ---- cut off at an end
-- where the last sample's block starts: the line's last block, or its first where the window begins the line
cut_last : (n s i : ℕ) → (s ≤ i → n ≤ i + s) → 0 < lo s i → start (2 * s + 1) (hi s n i) ≡ start (2 * s + 1) (n - 1)
cut_last n s i full h = let z : hi s n i ≡ n - 1 = omega (arith, full (omega arith)) in ap (start (2 * s + 1)) z

cut_first : (n s i : ℕ) → lo s i ≡ 0 → start (2 * s + 1) (hi s n i) ≡ 0
cut_first n s i h = start_same (2 * s + 1) (omega arith) 0 (hi s n i) (start_zero (2 * s + 1) (omega arith)) zero-le (omega arith)

pub cut_more : (l p q : List ℕ) (n s : ℕ) (m : List ℕ) (from i a b c count v r : ℕ) → Met l m p q n s from i count → from ≤ i → i < length m
    → (s ≤ i → n ≤ i + s)
    → ((d : ℕ) → (0 < a → d ≡ c) → (a ≡ 0 → d ≡ 0) → (v ≡ choose min a d (entry q a) (entry p b)) × (r ≡ cond (ltb a d) 1 0))
    → a ≡ lo s i → b ≡ hi s n i → c ≡ start (2 * s + 1) (n - 1) → Met l (set m i v) p q n s from (i + 1) (count + r)
cut_more l p q n s m from i a b c count v r t fi h full pick ea eb ec =
    let last : 0 < a → start (2 * s + 1) (hi s n i) ≡ c = λ o. cut_last n s i full (omega arith) ∙ sym ec in
    let first : a ≡ 0 → start (2 * s + 1) (hi s n i) ≡ 0 = λ o. cut_first n s i (omega arith) in
    let picked = pick (start (2 * s + 1) (hi s n i)) last first in
    let x : r ≡ crossing s n i = picked.1 ∙ rw (ea, crossing_is s n i) in
    record {
      mins = written_more _ l m from i v t.mins fi h (picked.0 ∙ rw (ea, eb));
      count = rw (add-one i, tally_suc (crossing s n) i) (omega (arith, t.count));
    }

-- ---- whole
-- the window from a + i on, as the loop counts
pub joined : (p q : List ℕ) (s a i v : ℕ) → v ≡ min (entry q (a + i)) (entry p (a + 2 * s + i)) → v ≡ min (entry q (a + s + i - s)) (entry p (a + s + i + s))
joined p q s a i v e =
    let x : a + s + i - s ≡ a + i = omega arith in
    let y : a + s + i + s ≡ a + 2 * s + i = omega arith in
    rw (x, y) e

module _ (p q : List ℕ) (n s a : ℕ) (begin : start (2 * s + 1) a ≡ a) where
  -- the window that is a block
  whole_first : a + 2 * s < n → (met p q n s (a + s) ≡ entry p (a + 2 * s)) × (crossing s n (a + s) ≡ 0)
  whole_first h =
      let x : lo s (a + s) ≡ a = omega arith in
      let y : hi s n (a + s) ≡ a + 2 * s = omega arith in
      let z : start (2 * s + 1) (a + 2 * s) ≡ a = start_same (2 * s + 1) (omega arith) a (a + 2 * s) begin (omega arith) (omega arith) in
      (rw (x, y, z) (choose_start min a a _ _ refl), rw (crossing_is s n (a + s), x, y, z, le-ltb a a (omega arith)))

  -- the others until the next such
  whole_next : (i : ℕ) → a + s < i → i < a + s + (2 * s + 1) → i + s < n → (met p q n s i ≡ min (entry q (i - s)) (entry p (i + s))) × (crossing s n i ≡ 1)
  whole_next i lo-i hi-i h =
      let y : hi s n i ≡ i + s = omega arith in
      let z : start (2 * s + 1) (i + s) ≡ a + (2 * s + 1) =
      start_same (2 * s + 1) (omega arith) (a + (2 * s + 1)) (i + s) (start_next (2 * s + 1) (omega arith) a begin) (omega arith) (omega arith)
      in
      let l : i - s < a + (2 * s + 1) = omega arith in
      (rw (y, z) (choose_two min (i - s) (a + (2 * s + 1)) _ _ l), rw (crossing_is s n i, y, z, lt-ltb (i - s) (a + (2 * s + 1)) l))

-- the whole windows of m before a, a block's start
pub record WholeTo (l u p q : List ℕ) (s m a r : ℕ) : Type 0 where
  pub size : length u ≡ length l
  pub begin : start (2 * s + 1) a ≡ a
  pub met_to : Met l u p q (m + 2 * s) s s (min a m + s) r

module _ (l p q : List ℕ) (s m : ℕ) where
  pub whole_none : WholeTo l l p q s m 0 0
  whole_none =
      let z : min 0 m + s ≡ s = omega arith in
      record { size = refl; begin = start_zero (2 * s + 1) (omega arith); met_to = rw z (met_none l p q (m + 2 * s) s s) }

  pub whole_done : (u : List ℕ) (n a r : ℕ) → n ≡ m + 2 * s → m ≤ a → WholeTo l u p q s m a r → Met l u p q n s s (n - s) r
  whole_done u n a r e h t =
      let z : min a m + s ≡ n - s = omega arith in
      let y : m + 2 * s ≡ n = omega arith in
      rw (z, y) at t.met_to

  pub whole_more : (u v : List ℕ) (a count some r : ℕ) → WholeTo l u p q s m a count → a < m → m + 2 * s ≤ length u → some ≡ min (m - a - 1) (2 * s)
      → length v ≡ length u → r ≡ count + some
      → Written (λ i. min (entry q (i - s)) (entry p (i + s))) (set u (a + s) (entry p (a + 2 * s))) v (a + 1 + s) (a + 1 + s + some)
      → WholeTo l v p q s m (a + (2 * s + 1)) r
  whole_more u v a count some r t am room es sz er w =
      let n : ℕ = m + 2 * s in
      let k : ℕ = 2 * s + 1 in
      let begin = t.begin in
      let at : min a m + s ≡ a + s = omega arith in
      let d : Met l u p q (m + 2 * s) s s (a + s) count = rw at at t.met_to in
      let one = whole_first p q (m + 2 * s) s a t.begin (omega arith) in
      let more : (i : ℕ) → a + s + 1 ≤ i → i < a + s + 1 + some → (met p q (m + 2 * s) s i ≡ min (entry q (i - s)) (entry p (i + s))) × (crossing s (m + 2 * s) i ≡ 1) =
      λ i x y. whole_next p q (m + 2 * s) s a t.begin i (omega arith) (omega arith) (omega arith)
      in
      let first = written_more (met p q (m + 2 * s) s) l u s (a + s) (entry p (a + 2 * s)) d.mins (omega arith) (omega arith) (sym one.0) in
      let from : a + 1 + s ≡ a + s + 1 = omega arith in
      let w' : Written (λ i. min (entry q (i - s)) (entry p (i + s))) (set u (a + s) (entry p (a + 2 * s))) v (a + s + 1) (a + s + 1 + some) = rw from at w in
      let then = written_as _ (met p q (m + 2 * s) s) _ v (a + s + 1) (a + s + 1 + some) w' (λ i x y. sym (more i x y).0) in
      let end : min (a + (2 * s + 1)) m + s ≡ a + s + 1 + some = omega arith in
      record {
        size = sz ∙ t.size;
        begin = start_next (2 * s + 1) (omega arith) a t.begin;
        met_to = rw (end, er)
            (record {
              mins = written_on (met p q (m + 2 * s) s) l _ v s (a + s + 1) (a + s + 1 + some) first then (omega arith) (omega arith);
              count = whole_count (crossing s (m + 2 * s)) s (a + s) count some d.count one.1 (λ i x y. (more i x y).1);
            });
      }
    where
      whole_count : (f : ℕ → ℕ) (s b count some : ℕ) → tally f s + count ≡ tally f b → f b ≡ 0 → ((i : ℕ) → b + 1 ≤ i → i < b + 1 + some → f i ≡ 1)
          → tally f s + (count + some) ≡ tally f (b + 1 + some)
      whole_count f s b count some e z h =
          let next : tally f (b + 1) ≡ tally f b + f b = rw (add-one b) (tally_suc f b) in
          omega (arith, tally_ones f (b + 1) some h)

-- ---- a row
module _ (l m p q : List ℕ) (n s r₂ : ℕ) (fores : (i : ℕ) → i < n → entry p i ≡ fore l (2 * s + 1) i)
    (afts : (i : ℕ) → i < n → entry q i ≡ aft l (2 * s + 1) n i) (b : Met l m p q n s 0 n r₂) where
  pub row_mins : (x : ℕ) → x < n → entry m x ≡ windowed min (entry l) s n x
  row_mins x h = b.mins.is x zero-le h ∙ choose_is min min_assoc (entry l) (entry p) (entry q) (2 * s + 1) n (omega arith) fores afts s x refl h

  pub row_count : (r₁ : ℕ) → r₁ ≡ in_blocks (2 * s + 1) (samples n) → r₁ + r₂ ≡ comparisons s (samples n)
  unfolding comparisons tally
  row_count r₁ e = rw (samples_length n) (omega (arith, b.count))

-- the windows cut off at the line's start, the whole ones, and those cut off at its end
pub meet_done : (l u v w p q : List ℕ) (n s r₁ r₂ r₃ : ℕ) → 2 * s < n → length u ≡ n → length v ≡ n → Met l u p q n s 0 s r₁
    → Met u v p q (length u) s s (length u - s) r₂ → Met v w p q (length v) s (n - s) n r₃ → Met l w p q n s 0 n (r₁ + r₂ + r₃)
meet_done l u v w p q n s r₁ r₂ r₃ h eu ev a b c =
    let b' : Met u v p q n s s (n - s) r₂ = rw eu at b in
    let c' : Met v w p q n s (n - s) n r₃ = rw ev at c in
    met_on l p q n s v w 0 (n - s) n (r₁ + r₂) r₃ (met_on l p q n s u v 0 s (n - s) r₁ r₂ a b' (omega arith) (omega arith)) c' (omega arith) (omega arith)

-- ---- a radius of 0
pub zero_mins : (f : ℕ → ℕ) (n x : ℕ) → x < n → f x ≡ windowed min f 0 n x
zero_mins f n x h =
    let z : hi 0 n x ≡ x = omega arith in
    let y : lo 0 x ≡ x = omega arith in
    rw (z, y) (sym (span_one min f x))
