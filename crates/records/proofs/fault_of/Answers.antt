-- `records::fault_of` meets its contract, kind by kind. Assumes nothing.
use mathlib.Core.Path.{sym, ap, ◌∙◌}
use Rattle.records.specs.declared.Kind.{Kind}
use Rattle.records.specs.Records.{fault}
use Rattle.records.proofs.fault_of.Goals as goal

pub returns-in-Size : goal.returns-in-Size
returns-in-Size c = c.fault_of_size.ensures ∙ sym (ap (λ (k : Kind). fault k c.args.line.now) c.in-Size.is)

pub returns-in-Set : goal.returns-in-Set
returns-in-Set c = c.fault_of_set.ensures ∙ sym (ap (λ (k : Kind). fault k c.args.line.now) c.in-Set.is)

pub returns-in-Px : goal.returns-in-Px
returns-in-Px c = c.fault_of_px.ensures ∙ sym (ap (λ (k : Kind). fault k c.args.line.now) c.in-Px.is)
