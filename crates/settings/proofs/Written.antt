-- The good texts are those that are written from names and values, and no others. Assumes nothing.
use mathlib.Core.Path.{◌≡◌, refl, sym, ap, ap₂, subst, ◌∙◌}
use mathlib.Core.Bool.{true, false, ◌&&◌, true≢false}
use mathlib.Core.List.{List, [], ◌∷◌, ◌++◌}
use Prim.Native.Nat.{ℕ, zero, suc}
use native.Mathlib.Nat.{le_of_suc-le-suc}
use native.Mathlib.Omega.{arith}
use lib.Dec.{eqb}
use lib.ListN.{length, get_or, drop}
use Rattle.fields.specs.Words.{bytes}
use Rattle.fields.specs.Every.{every}
use Rattle.fields.specs.Fields.{split, field_of, same}
use Rattle.fields.specs.LaidOut.{laid}
use Rattle.fields.proofs.Alike.{same_eq}
use Rattle.fields.proofs.Every.{both}
use Rattle.fields.proofs.Lines.{some_part}
use Rattle.fields.proofs.Split.{Free, free_both, split_append, split_last}
use Rattle.fields.proofs.Places.{join, join_split}
use Rattle.settings.specs.Texts.{letter, word, kept, good_lines, good}
use Rattle.settings.specs.Written.{Pair, row, written, words}
use Rattle.settings.proofs.Words.{word_letters}
use Rattle.settings.proofs.Lines.{kept_line}
use Rattle.settings.proofs.Texts.{good_first}

-- ---- what is written is good

-- no letter is a separator
free_letters : (sep : ℕ) → letter sep ≡ false → (s : List ℕ) → every letter s ≡ true → Free sep s
free_letters sep n [] h k l q = let z : ⊥ = omega arith in z
free_letters sep n (b ∷ bs) h zero l q = true≢false (sym (both (letter b) (every letter bs) h).0 ∙ ap letter q ∙ n)
free_letters sep n (b ∷ bs) h (suc k) l q = free_letters sep n bs (both (letter b) (every letter bs) h).1 k (le_of_suc-le-suc l) q

module _ (p : Pair) (n : word p.0 ≡ true) (v : word p.1 ≡ true) where
  free : (sep : ℕ) → letter sep ≡ false → (Free sep (bytes "keep") × Free sep p.0) × Free sep p.1
  free sep h = ((free_letters sep h (bytes "keep") refl, free_letters sep h p.0 (word_letters p.0 n)), free_letters sep h p.1 (word_letters p.1 v))

  pub row_fields : split 9 (row p) ≡ bytes "keep" ∷ p.0 ∷ p.1 ∷ []
  row_fields =
      let f = free 9 refl in
      split_append 9 (bytes "keep") (p.0 ++ 9 ∷ p.1) f.0.0
      ∙ ap (λ (fs : List (List ℕ)). bytes "keep" ∷ fs) (split_append 9 p.0 p.1 f.0.1 ∙ ap (λ (fs : List (List ℕ)). p.0 ∷ fs) (split_last 9 p.1 f.1))

  row_kept : kept (row p) ≡ true
  unfolding laid field_of
  row_kept = ap (λ (fs : List (List ℕ)). same (get_or fs 0 []) (bytes "keep") && eqb (length fs) 3 && every word (drop 1 fs)) row_fields ∙ rw (n, v)

  pub row_line_lem : (rest : List ℕ) → split 10 (row p ++ 10 ∷ rest) ≡ row p ∷ split 10 rest
  row_line_lem rest =
      let f = free 10 refl in
      split_append 10 (row p) rest (free_both 10 (bytes "keep") (p.0 ++ 9 ∷ p.1) 9 f.0.0 (λ e. let z : ⊥ = omega arith in z)
      (free_both 10 p.0 p.1 9 f.0.1 (λ e. let z : ⊥ = omega arith in z) f.1))

-- the words of the first pair, and those of the others
pub first_words : (p : Pair) (ps : List Pair) → words (p ∷ ps) ≡ true → ((word p.0 ≡ true) × (word p.1 ≡ true)) × (words ps ≡ true)
first_words p ps h = let o = both (word p.0 && word p.1) (words ps) h in (both (word p.0) (word p.1) o.0, o.1)

pub written_good : (ps : List Pair) → words ps ≡ true → good (written ps) ≡ true
unfolding good
written_good [] h = refl
written_good (p ∷ ps) h =
    let w = first_words p ps h in
    ap good_lines (row_line_lem p w.0.0 w.0.1 (written ps))
    ∙ good_first (row p) (split 10 (written ps)) (some_part 10 (written ps))
    ∙ rw (row_kept p w.0.0 w.0.1, written_good ps w.1)

-- ---- what is good is written

pub record Written (text : List ℕ) : Type 0 where
  pub pairs : List Pair
  pub sound : words pairs ≡ true
  pub is : text ≡ written pairs

lines_written : (ls : List (List ℕ)) → good_lines ls ≡ true → Written (join 10 ls)
lines_written [] g = record { pairs = []; sound = refl; is = refl }
lines_written (l ∷ []) g = record { pairs = []; sound = refl; is = same_eq l [] g }
lines_written (l ∷ m ∷ ls) g =
    let k = both (kept l) (good_lines (m ∷ ls)) g in
    let f = kept_line l k.0 in
    let w = lines_written (m ∷ ls) k.1 in
    record {
      pairs = (field_of 9 l 1, field_of 9 l 2) ∷ w.pairs;
      sound = rw (f.name, f.value, w.sound);
      is = ap₂ (λ (a b : List ℕ). a ++ 10 ∷ b) (sym (join_split 9 l) ∙ ap (join 9) f.fields) w.is;
    }

pub good_written : (text : List ℕ) → good text ≡ true → Written text
unfolding good
good_written text g = subst Written (join_split 10 text) (lines_written (split 10 text) g)
