-- What answers, test by test. Assumes nothing.
use mathlib.Core.Path.{◌≡◌, refl, sym, ap, ap₂, ◌∙◌}
use mathlib.Core.Bool.{true, false}
use mathlib.Core.List.{List}
use Prim.Native.Nat.{ℕ}
use denote.Ref.{Bor}
use Rattle.std.specs.Prelude.{Option, Result, Ok, Err}
use Rattle.std.specs.Result.{result_err}
use Rattle.settings.specs.declared.Source.{Source}
use Rattle.rules.specs.declared.Refusal.{Refusal}
use Rattle.rules.specs.declared.Refusal.TheVariants.{Layout, Name}
use Rattle.rules.specs.Answers.{said}
use Rattle.settings.specs.Texts.{word, good, first_with}
use Rattle.settings.specs.Promise.{over, source_of, bytes_of, memory_of, why_said, refusal_of, Setting}

module _ (field house name : List ℕ) where
  pub field_bad : good field ≡ false → Err Layout ≡ source_of field house name
  unfolding source_of
  field_bad f = rw f

  module _ (f : good field ≡ true) where
    pub house_bad : good house ≡ false → Err Layout ≡ source_of field house name
    unfolding source_of
    house_bad h = rw (f, h)

    module _ (h : good house ≡ true) where
      pub name_bad : word name ≡ false → Err Name ≡ source_of field house name
      unfolding source_of
      name_bad n = rw (f, h, n)

      -- the two texts as they were found to have the name
      pub name_good : word name ≡ true → (a b : Option ℕ) → first_with field name ≡ a → first_with house name ≡ b → over a b ≡ source_of field house name
      unfolding source_of
      name_good n a b p q = rw (f, h, n) (ap₂ over (sym p) (sym q))

-- the part, by what answers
pub answers : (field house : Bor (List ℕ)) (name : List ℕ) (r : Bor (List ℕ)) (s : Result Source Refusal) → source_of field.now house.now name ≡ s
    → r.now ≡ bytes_of field.now house.now s → r.ref_ptr ≡ memory_of field house s → Setting field house name r
answers field house name r s e b m = record { bytes = cc; memory = cc }

-- the number, by what answers
pub numbers : (field house name : List ℕ) (s : Result Source Refusal) → source_of field house name ≡ s → said s ≡ refusal_of field house name
unfolding refusal_of
numbers field house name s e = ap said (sym e)

said_err : (s : Result Source Refusal) → why_said (result_err s) ≡ said s
said_err (Ok s) = refl
said_err (Err e) = refl

-- what is said of why, by what answers
pub why_is : (field house name : List ℕ) (s : Result Source Refusal) (w : Option Refusal) → s ≡ source_of field house name → w ≡ result_err s → why_said w ≡ refusal_of field house name
why_is field house name s w e f = ap why_said f ∙ said_err s ∙ numbers field house name s (sym e)
