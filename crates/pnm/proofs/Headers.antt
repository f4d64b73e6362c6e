-- A header that is put together from gaps and numbers is read as these numbers, and what stands behind it are the pixels. Assumes nothing.
use mathlib.Core.Path.{◌≡◌, refl, sym, ap, ap₂, ◌∙◌}
use mathlib.Core.Bool.{true, false}
use mathlib.Core.List.{List, [], ◌∷◌, ◌++◌, append_assoc}
use Prim.Native.Nat.{ℕ, suc, ◌+◌, ◌-◌, ◌≤◌}
use native.Mathlib.Nat.{add-zero}
use native.Mathlib.Numerals.{add-one}
use native.Mathlib.Omega.{arith}
use lib.ListN.{length, get_or, take, drop, length-append, length-drop}
use lib.Seq.{drop-drop, take_at, drop_at, get_or-drop}
use borrow.Author.Tests.{eq-eqb, lt-ltb, le-leb}
use Rattle.fields.specs.Decimal.{figured, value_from}
use Rattle.fields.proofs.Decimal.{figured_digits}
use Rattle.std.specs.Prelude.{Some}
use Rattle.pnm.specs.Header.{white, gap_in, run, from, figures, past, number, token, second, third, last, magic, closed, good, header_of}
use Rattle.pnm.specs.Gap.{Gap, Parts, GoodParts, header}
use Rattle.pnm.proofs.Gaps.{gap_taken, run_taken, number_ends_gap, white_ends_number, gap_ends_number, gap_some}

-- ---- a number d behind a gap, in front of t, which begins with no digit

pub record NumberIs (s : List ℕ) (at : ℕ) (d t : List ℕ) : Type 0 where
  pub figures : figures s at ≡ d
  pub rest : drop (past s at) s ≡ t
  pub token : token s at ≡ true

module _ (s : List ℕ) (at : ℕ) {g : List ℕ} (d t : List ℕ) (e : drop at s ≡ g ++ (d ++ t)) (gap : Gap g) (fig : figured d ≡ true) (stop : run t ≡ 0) where
  from_is : from s at ≡ at + length g
  unfolding from
  from_is = ap (λ (n : ℕ). at + n) (ap (gap_in false) e ∙ gap_taken (d ++ t) gap (number_ends_gap d t fig))

  begins : drop (from s at) s ≡ d ++ t
  begins = ap (λ (n : ℕ). drop n s) from_is ∙ sym (drop-drop (length g) at s) ∙ ap (drop (length g)) e ∙ drop_at g (d ++ t) (length g) refl

  runs : run (drop (from s at) s) ≡ length d
  runs = ap run begins ∙ run_taken d t (figured_digits d fig) stop

  figures_is : figures s at ≡ d
  unfolding figures
  figures_is = ap₂ take runs begins ∙ take_at d t (length d) refl

  rest_is : drop (past s at) s ≡ t
  unfolding past
  rest_is = sym (drop-drop (run (drop (from s at) s)) (from s at) s) ∙ ap₂ drop runs begins ∙ drop_at d t (length d) refl

  token_is : token s at ≡ true
  unfolding token
  token_is = rw (figures_is, fig, lt-ltb at (from s at) (omega (arith, from_is, gap_some gap)))

  pub number_is : NumberIs s at d t
  number_is = record { figures = figures_is; rest = rest_is; token = token_is }

-- ---- the byte b that ends the header

module _ (s : List ℕ) (at b : ℕ) (rest : List ℕ) (e : drop at s ≡ b ∷ rest) where
  start_is : suc at + length rest ≡ length s
  start_is = let z : length s - at ≡ suc (length rest) = sym (length-drop at s) ∙ ap length e in omega arith

  closed_is : white b ≡ true → closed s at ≡ true
  unfolding closed
  closed_is w =
      let byte : get_or s at 0 ≡ b = ap (λ (n : ℕ). get_or s n 0) (sym (add-zero at)) ∙ sym (get_or-drop at s 0 0) ∙ ap (λ (l : List ℕ). get_or l 0 0) e in
      rw (lt-ltb at (length s) (omega (arith, start_is)), byte, w)

  behind_is : drop (suc at) s ≡ rest
  behind_is = ap (λ (n : ℕ). drop n s) (sym (add-one at)) ∙ sym (drop-drop 1 at s) ∙ ap (drop 1) e

-- ---- the whole

-- what a file says whose header is good: its three numbers, and what stands behind the header
pub record Says (kind : ℕ) (s : List ℕ) (w h top : ℕ) (behind : List ℕ) : Type 0 where
  pub good : good kind s ≡ true
  pub wide : number s 2 ≡ w
  pub tall : number s (second s) ≡ h
  pub maximum : number s (third s) ≡ top
  pub rest : drop (suc (last s)) s ≡ behind
  pub start : suc (last s) + length behind ≡ length s

-- the parts of a header from the second gap on, and from the third
abbrev pub from_third : Parts → List ℕ → List ℕ
from_third p rest = p.gap3 ++ (p.top ++ p.close ∷ rest)

abbrev pub from_second : Parts → List ℕ → List ℕ
from_second p rest = p.gap2 ++ (p.tall ++ from_third p rest)

module _ (kind : ℕ) (s : List ℕ) (p : Parts) (ok : GoodParts p) (rest : List ℕ) (m : magic kind s ≡ true) (front : drop 2 s ≡ p.gap1 ++ (p.wide ++ from_second p rest)) where
  wide_is : NumberIs s 2 p.wide (from_second p rest)
  wide_is = number_is s 2 p.wide (from_second p rest) front ok.gap1 ok.wide (gap_ends_number (p.tall ++ from_third p rest) ok.gap2)

  tall_is : NumberIs s (second s) p.tall (from_third p rest)
  tall_is =
      number_is s (second s) p.tall (from_third p rest) wide_is.rest ok.gap2 ok.tall (gap_ends_number (p.top ++ p.close ∷ rest) ok.gap3)

  top_is : NumberIs s (third s) p.top (p.close ∷ rest)
  top_is = number_is s (third s) p.top (p.close ∷ rest) tall_is.rest ok.gap3 ok.top (white_ends_number p.close rest ok.close)

  all_good : good kind s ≡ true
  unfolding good
  all_good = rw (m, wide_is.token, tall_is.token, top_is.token, closed_is s (last s) p.close rest top_is.rest ok.close)

  parts_say : Says kind s (value_from 0 p.wide) (value_from 0 p.tall) (value_from 0 p.top) rest
  parts_say =
      record {
        good = all_good;
        wide = ap (value_from 0) wide_is.figures;
        tall = ap (value_from 0) tall_is.figures;
        maximum = ap (value_from 0) top_is.figures;
        rest = behind_is s (last s) p.close rest top_is.rest;
        start = start_is s (last s) p.close rest top_is.rest;
      }

pub grouped :
    (a b : List ℕ) (p : Parts) (rest : List ℕ)
    → a ++ b ++ p.gap2 ++ p.tall ++ p.gap3 ++ p.top ++ p.close ∷ [] ++ rest ≡ a ++ (b ++ from_second p rest)
grouped a b p rest = simp append_assoc

module _ (kind : ℕ) (p : Parts) (ok : GoodParts p) (rest : List ℕ) where
  magic_is : magic kind (header kind p ++ rest) ≡ true
  unfolding magic
  magic_is =
      let two : 2 ≤ length (header kind p ++ rest) = omega arith in
      rw (le-leb 2 (length (header kind p ++ rest)) two, eq-eqb kind kind refl)

  pub header_says : Says kind (header kind p ++ rest) (value_from 0 p.wide) (value_from 0 p.tall) (value_from 0 p.top) rest
  header_says = parts_say kind (header kind p ++ rest) p ok rest magic_is (grouped p.gap1 p.wide p rest)

  pub header_is : header_of kind (header kind p ++ rest) ≡ Some (record { width = value_from 0 p.wide; height = value_from 0 p.tall; maximum = value_from 0 p.top; start = length (header kind p) })
  unfolding header_of
  header_is =
      let start : suc (last (header kind p ++ rest)) ≡ length (header kind p) = omega (arith, header_says.start, length-append (header kind p) rest) in
      rw (header_says.good, header_says.wide, header_says.tall, header_says.maximum, start)
