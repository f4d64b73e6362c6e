-- `records::is_number` meets its contract. Assumes nothing.
use mathlib.Core.Path.{ap, ◌∙◌}
use Rattle.std.specs.Prelude.{is_some}
use Rattle.fields.specs.Decimal.{number_of}
use Rattle.records.proofs.Records.{some_numeral}
use Rattle.records.proofs.is_number.Goals as goal

pub returns : goal.returns
returns c = c.is_some.ensures ∙ ap is_some (c.read_number.ensures ∙ ap number_of c.field.ensures.field) ∙ some_numeral _
