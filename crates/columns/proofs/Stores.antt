-- Laws of a store's rows, which have n entries: one written, and all folded from the last back. Assumes nothing.
use mathlib.Core.Path.{◌≡◌, refl, sym, ◌∙◌}
use mathlib.Core.List.{List, ◌++◌}
use mathlib.Core.Logic.{⊎_elim}
use Prim.Native.Nat.{ℕ, suc, ◌+◌, ◌-◌, ◌*◌, ◌≤◌, ◌<◌, min, zero-le}
use native.Mathlib.Nat.{mul-le-mul_right, suc-mul}
use native.Mathlib.Omega.{arith}
use lib.ListN.{length, take, drop}
use borrow.Rule.Slice.PartMut.{put_mid}
use Rattle.std.proofs.Common.{rules}
use Rattle.std.proofs.lemmas.List.{places}
use Rattle.windows.specs.Span.{span}
use Rattle.windows.specs.Line.{entry, Written, Laid}
use Rattle.columns.specs.Down.{cell, Folded}
use Rattle.windows.proofs.Spans.{span_one, span_front}
use Rattle.windows.proofs.Cuts.{lt_or_ge}
use Rattle.windows.proofs.Lines.{min_assoc, laid_at}

-- a later row lies beyond the whole of an earlier one
pub row_apart : (n i j : ℕ) → i < j → i * n + n ≤ j * n
row_apart n i j l = omega (arith, suc-mul i n, mul-le-mul_right n l)

-- the other rows are as they were
pub row_kept : (G : ℕ → ℕ) (l m : List ℕ) (n j : ℕ) → Laid G l m (j * n) n → (i x : ℕ) → (i ≡ j → ⊥) → x < n → cell m n i x ≡ cell l n i x
row_kept G l m n j d i x ne h =
    d.rest (i * n + x)
    (λ a b.
    ⊎_elim
    (λ (o : i < j). omega (arith, row_apart n i j o))
    (λ (o : j ≤ i). ⊎_elim (λ (p : j < i). omega (arith, row_apart n j i p)) (λ (p : i ≤ j). ne (omega arith)) (lt_or_ge j i))
    (lt_or_ge i j))

module _ (l : List ℕ) (n last : ℕ) where
  pub folded_none : Folded l l n last last
  folded_none =
      record {
        is = λ j x a b h. let z : j ≡ last = omega arith in rw z (sym (span_one min (λ u. cell l n u x) last));
        rest = λ j h. refl;
      }

  pub folded_more : (m v : List ℕ) (i : ℕ) → Folded l m n i last → 0 < i → i ≤ last
      → Laid (λ x. min (entry m ((i - 1) * n + x)) (entry m ((i - 1) * n + n + x))) m v ((i - 1) * n) n → Folded l v n (i - 1) last
  folded_more m v i t some il d =
      let g : ℕ → ℕ = λ x. min (entry m ((i - 1) * n + x)) (entry m ((i - 1) * n + n + x)) in
      let next : suc (i - 1) ≡ i = omega arith in
      let down : (i - 1) * n + n ≡ i * n = rw next at (sym (suc-mul (i - 1) n)) in
      let room : i * n ≤ last * n = mul-le-mul_right n il in
      record {
        is = λ j x a b h.
            ⊎_elim
            (λ (o : j < i).
            let z : j ≡ i - 1 = omega arith in
            let this : entry m ((i - 1) * n + x) ≡ entry l ((i - 1) * n + x) = t.rest ((i - 1) * n + x) (λ p q. omega arith) in
            let that : entry m ((i - 1) * n + n + x) ≡ span min (λ u. cell l n u x) i last = rw down (t.is i x (omega arith) il h) in
            rw (z, laid_at g m ((i - 1) * n) v n x d h, this, that, span_front min min_assoc (λ u. cell l n u x) (i - 1) last (omega arith), next))
            (λ (o : i ≤ j). row_kept g m v n (i - 1) d j x (λ z. omega arith) h ∙ t.is j x o b h)
            (lt_or_ge j i);
        rest = λ j h. d.rest j (λ a b. h a (omega arith)) ∙ t.rest j (λ a b. h (omega arith) b);
      }

-- a row is copied to a
pub laid_copy : (m row w : List ℕ) (a k n : ℕ) → w ≡ row → k ≡ n → a + n ≤ length m → n ≡ length row → Laid (entry row) m (put_mid a k m w) a n
laid_copy m row w a k n ew kn am rn =
    record {
      is = λ i x y. rw ew (search (rules, places));
      rest = λ i h.
          ⊎_elim
          (λ (o : i < a). search (rules, places))
          (λ (o : a ≤ i). ⊎_elim (λ (u : i < a + n). absurd (h o u)) (λ (u : a + n ≤ i). rw ew (search (rules, places))) (lt_or_ge i (a + n)))
          (lt_or_ge i a);
    }

-- the row at a, the last of `front`, becomes the lesser of it and the next, the first of `back`
pub laid_lesser : (m front back row new : List ℕ) (a b k n : ℕ) → b ≡ a + n → b + n ≤ length m → front ≡ take b m → back ≡ drop b m → k ≡ length front - a
    → row ≡ take k (drop a front) → length new ≡ n → Written (λ x. min (entry row x) (entry (take n back) x)) row new 0 n
    → Laid (λ x. min (entry m (a + x)) (entry m (a + n + x))) m (put_mid a k front new ++ back) a n
laid_lesser m front back row new a b k n eb bn ef ek kk er en d =
    let long : length front ≡ b = rw ef (search (rules, places)) in
    record {
      is = λ i x y.
          let p : entry (put_mid a k front new ++ back) i ≡ entry new (i - a) = search (rules, places) in
          let q : entry row (i - a) ≡ entry m (a + (i - a)) = rw (er, ef) (search (rules, places)) in
          let r : entry (take n back) (i - a) ≡ entry m (a + n + (i - a)) = rw (ek, eb) (search (rules, places)) in
          p ∙ (d.is (i - a) zero-le (omega arith) ∙ rw (q, r));
      rest = λ i h.
          ⊎_elim
          (λ (o : i < a). rw (ef, ek) (search (rules, places)))
          (λ (o : a ≤ i). ⊎_elim (λ (u : i < a + n). absurd (h o u)) (λ (u : a + n ≤ i). rw (ef, ek) (search (rules, places))) (lt_or_ge i (a + n)))
          (lt_or_ge i a);
    }
