-- A header that is taken is one that the request allows: three gaps, three numbers of 1 to 6 digits and a white byte make it up. Assumes nothing.
use mathlib.Core.Path.{◌≡◌, sym, ap, ap₂, ◌∙◌}
use mathlib.Core.Bool.{true, false, ◌&&◌, true≢false}
use mathlib.Core.List.{List, [], ◌∷◌, ◌++◌}
use Prim.Native.Nat.{ℕ, suc, ◌-◌, ◌<◌}
use native.Mathlib.Omega.{arith}
use lib.Dec.{leb, ltb, eqb}
use lib.ListN.{length, get_or, take, drop, length-take, length-drop, take-append-drop}
use lib.Seq.{drop-drop, drop-cons}
use borrow.Author.Tests.{ltb-true, eqb-true}
use Rattle.fields.proofs.Every.{both}
use Rattle.fields.specs.Decimal.{figured}
use Rattle.pnm.specs.Header.{white, gap_in, run, from, figures, past, token, second, third, last, magic, closed, good}
use Rattle.pnm.specs.Gap.{joined, Gap, Parts, GoodParts, header}
use Rattle.fields.proofs.Decimal.{figured_some}
use Rattle.pnm.proofs.Headers.{from_second, from_third, grouped}
use Rattle.pnm.proofs.Passed.{Cut, cut_of}

-- ---- a number and the gap before it

-- what is passed over before the number at a place
abbrev pub before : List ℕ → ℕ → List ℕ
before s at = take (gap_in false (drop at s)) (drop at s)

module _ (s : List ℕ) (at : ℕ) (t : token s at ≡ true) where
  tests : (ltb at (from s at) ≡ true) × (figured (figures s at) ≡ true)
  unfolding token
  tests = both (ltb at (from s at)) (figured (figures s at)) t

  pub number_is : figured (figures s at) ≡ true
  number_is = tests.1

  some_gap : 0 < gap_in false (drop at s)
  unfolding from
  some_gap = let h : at < from s at = ltb-true at (from s at) tests.0 in omega arith

  begins : drop (from s at) s ≡ drop (gap_in false (drop at s)) (drop at s)
  unfolding from
  begins = sym (drop-drop (gap_in false (drop at s)) at s)

  some_number : 0 < length (drop (from s at) s)
  unfolding figures
  some_number =
      let h : 0 < length (figures s at) = figured_some (figures s at) number_is in
      omega (arith, length-take (run (drop (from s at) s)) (drop (from s at) s))

  some_behind : 0 < length (drop (gap_in false (drop at s)) (drop at s))
  some_behind = rw begins at some_number

  pub gap_is : Gap (before s at)
  gap_is = go (cut_of (drop at s) some_behind)
    where
      some_before : 0 < length (before s at)
      some_before =
          let h = some_gap in
          let l : length (drop (gap_in false (drop at s)) (drop at s)) ≡ length (drop at s) - gap_in false (drop at s) = length-drop (gap_in false (drop at s)) (drop at s) in
          omega (arith, some_behind, length-take (gap_in false (drop at s)) (drop at s))

      some_pieces : (ps : List (List ℕ)) → before s at ≡ joined ps → 0 < length ps
      some_pieces [] e = absurd (let z : length (before s at) ≡ 0 = ap length e in omega (arith, some_before))
      some_pieces (p ∷ ps) e = omega arith

      go : Cut (before s at) → Gap (before s at)
      go c = record { made = c.made; is = c.is; all = c.all; some = some_pieces c.made c.is }

  pub parts_are : drop at s ≡ before s at ++ (figures s at ++ drop (past s at) s)
  unfolding figures past
  parts_are =
      sym (take-append-drop (gap_in false (drop at s)) (drop at s))
      ∙ ap (λ (l : List ℕ). before s at ++ l)
      (sym begins
      ∙ sym (take-append-drop (run (drop (from s at) s)) (drop (from s at) s))
      ∙ ap (λ (l : List ℕ). figures s at ++ l) (drop-drop (run (drop (from s at) s)) (from s at) s))

-- ---- the whole

abbrev pub parts_of : List ℕ → Parts
parts_of s =
    record {
      gap1 = before s 2;
      wide = figures s 2;
      gap2 = before s (second s);
      tall = figures s (second s);
      gap3 = before s (third s);
      top = figures s (third s);
      close = get_or s (last s) 0;
    }

-- a file is made of a header of its kind by the request's rules, and of what stands behind it
pub record Made (kind : ℕ) (s : List ℕ) : Type 0 where
  pub good : GoodParts (parts_of s)
  pub is : s ≡ header kind (parts_of s) ++ drop (suc (last s)) s

magic_is : (kind : ℕ) (s : List ℕ) → magic kind s ≡ true → s ≡ 80 ∷ kind ∷ drop 2 s
unfolding magic
magic_is kind [] e = absurd (true≢false (sym e))
magic_is kind (x ∷ []) e = absurd (true≢false (sym e))
magic_is kind (x ∷ y ∷ l) e =
    let outer = both (leb 2 (suc (suc (length l))) && eqb x 80) (eqb y kind) e in
    let inner = both (leb 2 (suc (suc (length l)))) (eqb x 80) outer.0 in
    ap₂ (λ (a b : ℕ). a ∷ b ∷ l) (eqb-true x 80 inner.1) (eqb-true y kind outer.1)

-- the tests of a good header, one by one
record GoodHeader (kind : ℕ) (s : List ℕ) : Type 0 where
  begins : magic kind s ≡ true
  wide : token s 2 ≡ true
  tall : token s (second s) ≡ true
  top : token s (third s) ≡ true
  within : last s < length s
  close : white (get_or s (last s) 0) ≡ true

good_is : (kind : ℕ) (s : List ℕ) → good kind s ≡ true → GoodHeader kind s
unfolding good closed
good_is kind s e =
    let four = both (magic kind s && token s 2 && token s (second s) && token s (third s)) (closed s (last s)) e in
    let three = both (magic kind s && token s 2 && token s (second s)) (token s (third s)) four.0 in
    let two = both (magic kind s && token s 2) (token s (second s)) three.0 in
    let one = both (magic kind s) (token s 2) two.0 in
    let end = both (ltb (last s) (length s)) (white (get_or s (last s) 0)) four.1 in
    record { begins = one.0; wide = one.1; tall = two.1; top = three.1; within = ltb-true (last s) (length s) end.0; close = end.1 }

module _ (kind : ℕ) (s : List ℕ) (f : GoodHeader kind s) where
  good_parts : GoodParts (parts_of s)
  good_parts =
      record {
        gap1 = gap_is s 2 f.wide;
        wide = number_is s 2 f.wide;
        gap2 = gap_is s (second s) f.tall;
        tall = number_is s (second s) f.tall;
        gap3 = gap_is s (third s) f.top;
        top = number_is s (third s) f.top;
        close = f.close;
      }

  third_is : drop (third s) s ≡ from_third (parts_of s) (drop (suc (last s)) s)
  third_is =
      parts_are s (third s) f.top
      ∙ ap (λ (l : List ℕ). before s (third s) ++ (figures s (third s) ++ l)) (drop-cons s (last s) 0 f.within)

  second_is : drop (second s) s ≡ from_second (parts_of s) (drop (suc (last s)) s)
  second_is = parts_are s (second s) f.tall ∙ ap (λ (l : List ℕ). before s (second s) ++ (figures s (second s) ++ l)) third_is

  whole : s ≡ header kind (parts_of s) ++ drop (suc (last s)) s
  whole =
      magic_is kind s f.begins
      ∙ ap (λ (l : List ℕ). 80 ∷ kind ∷ l)
      (parts_are s 2 f.wide
      ∙ ap (λ (l : List ℕ). before s 2 ++ (figures s 2 ++ l)) second_is
      ∙ sym (grouped (before s 2) (figures s 2) (parts_of s) (drop (suc (last s)) s)))

pub header_only : (kind : ℕ) (s : List ℕ) → good kind s ≡ true → Made kind s
header_only kind s e = let f = good_is kind s e in record { good = good_parts kind s f; is = whole kind s f }
