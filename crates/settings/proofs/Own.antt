-- The returned part is the caller's own: it lies in the text that answers, and its bytes are those that stand there. Assumes nothing.
use mathlib.Core.Path.{◌≡◌, refl, sym, ap, subst, ◌∙◌}
use mathlib.Core.Bool.{true, false, true≢false}
use mathlib.Core.List.{List, [], ◌++◌}
use Prim.Native.Nat.{ℕ}
use native.Mathlib.Omega.{arith}
use denote.Ref.{Bor}
use Rattle.std.specs.Prelude.{Result, Ok, Err}
use Rattle.fields.specs.Parts.{on}
use Rattle.fields.proofs.Places.{Stands}
use Rattle.settings.specs.declared.Source.{Source}
use Rattle.settings.specs.declared.Source.TheVariants.{Field, House}
use Rattle.rules.specs.declared.Refusal.{Refusal}
use Rattle.rules.specs.declared.Refusal.TheVariants.{Layout, Name}
use Rattle.settings.specs.Texts.{had, first_with, value_in, value_at}
use Rattle.settings.specs.Promise.{source_of, bytes_of, memory_of, refusal_of, Setting}
use Rattle.rules.specs.Answers.{said}
use Rattle.rules.proofs.Answers.{number_some}
use Rattle.settings.proofs.Found.{value_stands}
use Rattle.settings.proofs.Exactly.{Came, of_field, of_house, refused, came}

pub record Own (text r : Bor (List ℕ)) : Type 0 where
  pub place : ℕ
  pub memory : r.ref_ptr ≡ on text.ref_ptr place
  pub stands : Stands r.now text.now place

module _ (field house : Bor (List ℕ)) (name : List ℕ) (r : Bor (List ℕ)) (p : Setting field house name r) where
  value_own : (text : Bor (List ℕ)) (k : ℕ) → r.now ≡ value_in text.now k → r.ref_ptr ≡ on text.ref_ptr (value_at text.now k) → Own text r
  value_own text k b m =
      let at = value_at text.now k in
      record { place = at; memory = m; stands = subst (λ (l : List ℕ). Stands l text.now at) (sym b) (value_stands text.now k) }

  -- where the field text has the name, the part is the field text's own
  pub field_own : had (first_with field.now name) ≡ true → Own field r
  field_own h = go (source_of field.now house.now name) (came field.now house.now name) p.bytes p.memory
    where
      go : (s : Result Source Refusal) → Came field.now house.now name s → r.now ≡ bytes_of field.now house.now s → r.ref_ptr ≡ memory_of field house s → Own field r
      go (Ok (Field k)) c b m = value_own field k b m
      go (Ok (House k)) (of_house g n e) b m = absurd (true≢false (sym h ∙ ap had n))
      go (Err e) c b m = record { place = 0; memory = m; stands = record { before = []; after = field.now; from = refl; all = ap (λ (l : List ℕ). l ++ field.now) (sym b) } }

  -- where it has not and the call is not refused, the part is the house text's own
  pub house_own : had (first_with field.now name) ≡ false → refusal_of field.now house.now name ≡ 0 → Own house r
  unfolding refusal_of
  house_own h z = go (source_of field.now house.now name) (came field.now house.now name) z p.bytes p.memory
    where
      go : (s : Result Source Refusal) → Came field.now house.now name s → said s ≡ 0 → r.now ≡ bytes_of field.now house.now s → r.ref_ptr ≡ memory_of field house s → Own house r
      go (Ok (Field k)) (of_field g e) z b m = absurd (true≢false (sym (ap had e) ∙ h))
      go (Ok (House k)) c z b m = value_own house k b m
      go (Err e) refused z b m = absurd (number_some e z)
