-- A line: the tests in their order, and what is known of a line that is well formed. Assumes nothing.
use mathlib.Core.Path.{◌≡◌, refl, sym, ap, ◌∙◌}
use mathlib.Core.Bool.{Bool, true, false, ◌&&◌, and-true}
use mathlib.Core.List.{List, [], ◌∷◌}
use Prim.Native.Nat.{ℕ}
use native.Mathlib.Omega.{arith}
use lib.ListN.{length, get_or, drop}
use Rattle.fields.specs.declared.Class.{Class}
use Rattle.fields.specs.declared.Class.TheVariants.{Digit, Lower, Tab, LineEnd, Other}
use Rattle.fields.specs.Words.{bytes}
use Rattle.fields.specs.Bytes.{class_of, usual, plain}
use Rattle.fields.specs.Every.{every}
use Rattle.fields.specs.Fields.{split, field_of, same}
use Rattle.fields.proofs.Every.{both, every_also}
use Rattle.fields.proofs.LaidOut.{laid_fields, laid_known, rough_unlaid}
use Rattle.settings.specs.Texts.{in_word, letter, word, kept}
use Rattle.settings.proofs.Words.{word_letters}

-- ---- the name, then the value, where the first field is `keep` and there are three

three_parts : (fs : List (List ℕ)) → length fs ≡ 3 → fs ≡ get_or fs 0 [] ∷ get_or fs 1 [] ∷ get_or fs 2 [] ∷ []
three_parts [] h = absurd (let z : ⊥ = omega arith in z)
three_parts (a ∷ []) h = absurd (let z : ⊥ = omega arith in z)
three_parts (a ∷ b ∷ []) h = absurd (let z : ⊥ = omega arith in z)
three_parts (a ∷ b ∷ c ∷ []) h = refl
three_parts (a ∷ b ∷ c ∷ d ∷ fs) h = absurd (let z : ⊥ = omega arith in z)

module _ (line : List ℕ) (first : same (field_of 9 line 0) (bytes "keep") ≡ true) (three : length (split 9 line) ≡ 3) where
  two : (word (field_of 9 line 1) && word (field_of 9 line 2)) ≡ kept line
  unfolding field_of
  two =
      ap (λ (b : Bool). word (get_or (split 9 line) 1 []) && b) (sym (and-true (word (get_or (split 9 line) 2 []))))
      ∙ sym (ap (λ (fs : List (List ℕ)). every word (drop 1 fs)) (three_parts (split 9 line) three))
      ∙ laid_fields word (bytes "keep") line 2 first three

  pub kept_name : word (field_of 9 line 1) ≡ false → false ≡ kept line
  kept_name e = sym (ap (λ (b : Bool). b && word (field_of 9 line 2)) e) ∙ two

  pub kept_is : word (field_of 9 line 1) ≡ true → word (field_of 9 line 2) ≡ kept line
  kept_is e = sym (ap (λ (b : Bool). b && word (field_of 9 line 2)) e) ∙ two

-- ---- a line that is well formed: its three fields

pub record Kept (line : List ℕ) : Type 0 where
  pub fields : split 9 line ≡ bytes "keep" ∷ field_of 9 line 1 ∷ field_of 9 line 2 ∷ []
  pub name : word (field_of 9 line 1) ≡ true
  pub value : word (field_of 9 line 2) ≡ true

pub kept_line : (line : List ℕ) → kept line ≡ true → Kept line
unfolding field_of
kept_line line k =
    let l = laid_known word (bytes "keep") line 2 k in
    let three = three_parts (split 9 line) l.count in
    let words = both (word (get_or (split 9 line) 1 [])) (word (get_or (split 9 line) 2 []) && true) (sym (ap (λ (fs : List (List ℕ)). every word (drop 1 fs)) three) ∙ l.others) in
    record {
      fields = three ∙ ap (λ (f : List ℕ). f ∷ get_or (split 9 line) 1 [] ∷ get_or (split 9 line) 2 [] ∷ []) l.first;
      name = words.0;
      value = (both (word (get_or (split 9 line) 2 [])) true words.1).0;
    }

-- ---- a line with a byte of the class other is not well formed

usual_letter : (k : Class) → in_word k ≡ true → usual k ≡ true
usual_letter Digit h = refl
usual_letter Lower h = refl
usual_letter Tab h = refl
usual_letter LineEnd h = refl
usual_letter Other h = h

plain_word : (s : List ℕ) → word s ≡ true → plain s ≡ true
plain_word s w = every_also letter (λ b. usual (class_of b)) (λ b. usual_letter (class_of b)) s (word_letters s w)

pub rough_unkept : (line : List ℕ) → plain line ≡ false → kept line ≡ false
rough_unkept line h = rough_unlaid word (bytes "keep") line 2 refl plain_word h
