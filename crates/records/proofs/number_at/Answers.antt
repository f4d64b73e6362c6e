-- `records::number_at` meets its contract. Assumes nothing.
use mathlib.Core.Path.{ap, ◌∙◌}
use Rattle.fields.specs.Decimal.{number_of, value_in}
use Rattle.records.specs.Records.{number_at}
use Rattle.records.proofs.number_at.Goals as goal

pub returns : goal.returns
unfolding number_at
returns c = c.unwrap_or.ensures ∙ ap value_in (c.read_number.ensures ∙ ap number_of c.field.ensures.field)
