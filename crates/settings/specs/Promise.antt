-- What the two calls promise, for every input: the number, and the part with the memory it lies in. Assumes nothing.
use Rattle.std.specs.Prelude.{◌≡◌, not, cond, ◌&&◌, ◌||◌, List, [], ◌∷◌, ℕ, Option, Some, None, Result, Ok, Err}
use Rattle.std.specs.Borrow.{Bor}
use Rattle.rules.specs.declared.Refusal.{Refusal}
use Rattle.rules.specs.declared.Refusal.TheVariants.{Layout, Name}
use Rattle.rules.specs.Answers.{number, said}
use Rattle.rules.specs.Refusals.{Tests}
use Rattle.fields.specs.Parts.{on}
use Rattle.settings.specs.declared.Source.{Source}
use Rattle.settings.specs.declared.Source.TheVariants.{Field, House}
use Rattle.settings.specs.Texts.{word, good, had, first_with, value_in, value_at}

-- ---- what answers: a line of the field text, otherwise one of the house text, or a refusal

-- 15: neither has the name
abbrev pub over : Option ℕ → Option ℕ → Result Source Refusal
over (Some k) house = Ok (Field k)
over None (Some k) = Ok (House k)
over None None = Err Name

-- 9: a malformed line in either text; then 15: the name is ill-formed
unfoldable pub source_of : List ℕ → List ℕ → List ℕ → Result Source Refusal
source_of field house name =
    cond (good field && good house)
    (cond (word name) (over (first_with field name) (first_with house name)) (Err Name))
    (Err Layout)

-- the same as numbered tests

abbrev pub tests_setting : List ℕ → List ℕ → List ℕ → Tests
tests_setting field house name =
    (9, not (good field) || not (good house))
    ∷ (15, not (word name) || not (had (first_with field name) || had (first_with house name)))
    ∷ []

-- ---- what is answered, case by case

abbrev pub bytes_of : List ℕ → List ℕ → Result Source Refusal → List ℕ
bytes_of field house (Ok (Field k)) = value_in field k
bytes_of field house (Ok (House k)) = value_in house k
bytes_of field house (Err e) = []

-- a refused call's empty part lies at the beginning of the field text
abbrev pub memory_of : Bor (List ℕ) → Bor (List ℕ) → Result Source Refusal → ℕ × ℕ
memory_of field house (Ok (Field k)) = on field.ref_ptr (value_at field.now k)
memory_of field house (Ok (House k)) = on house.ref_ptr (value_at house.now k)
memory_of field house (Err e) = on field.ref_ptr 0

-- ---- the promises

-- the number that `setting_refusal` says, 0 for none
abbrev pub why_said : Option Refusal → ℕ
why_said None = 0
why_said (Some e) = number e

-- the number of the refusal, 0 where the call is answered
unfoldable pub refusal_of : List ℕ → List ℕ → List ℕ → ℕ
refusal_of field house name = said (source_of field house name)

-- w is what `setting_refusal` returns
abbrev pub Refuses : List ℕ → List ℕ → List ℕ → Option Refusal → Type 0
Refuses field house name w = why_said w ≡ refusal_of field house name

-- r is the part that `setting` returns
pub record Setting (field house : Bor (List ℕ)) (name : List ℕ) (r : Bor (List ℕ)) : Type 0 where
  pub bytes : r.now ≡ bytes_of field.now house.now (source_of field.now house.now name)
  pub memory : r.ref_ptr ≡ memory_of field house (source_of field.now house.now name)

-- the value of line k, in the text's own memory
pub record ValueOf (text : Bor (List ℕ)) (k : ℕ) (r : Bor (List ℕ)) : Type 0 where
  pub bytes : r.now ≡ value_in text.now k
  pub memory : r.ref_ptr ≡ on text.ref_ptr (value_at text.now k)
