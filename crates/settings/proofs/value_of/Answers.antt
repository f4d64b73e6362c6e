-- `settings::value_of` meets its contract: the field of a part, in the part's memory, so in the text's. Assumes nothing.
use mathlib.Core.Path.{ap, ap₂, ◌∙◌}
use mathlib.Core.List.{List}
use Prim.Native.Nat.{ℕ}
use Rattle.fields.proofs.Places.{on_on}
use Rattle.fields.specs.Fields.{field_of, field_at}
use Rattle.fields.specs.Parts.{on}
use Rattle.settings.proofs.value_of.Goals as goal

pub returns : goal.returns
returns c =
    let line = c.part.ensures in
    let value = c.field.ensures in
    let a = c.args in
    record {
      bytes = value.field ∙ ap (λ (l : List ℕ). field_of 9 l 2) line.field;
      memory =
          value.lies
          ∙ ap₂ (λ (p : ℕ × ℕ) (l : List ℕ). on p (field_at 9 l 2)) line.lies line.field
          ∙ on_on a.text.ref_ptr (field_at 10 a.text.now a.k) (field_at 9 (field_of 10 a.text.now a.k) 2);
    }
