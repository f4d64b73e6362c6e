-- `records::all_numbers` meets its contract. The invariant: all fields are numbers exactly if those from i on are. Assumes nothing.
use mathlib.Core.Path.{◌≡◌}
use lib.ListN.{drop}
use Rattle.fields.specs.Every.{every}
use Rattle.fields.specs.Fields.{split}
use Rattle.fields.specs.Decimal.{numeral}
use Rattle.records.proofs.all_numbers.Given as goal

abbrev pub invariant-loop-i : goal.invariant-loop-i
invariant-loop-i l = every numeral (drop 1 (split 9 l.line)) ≡ every numeral (drop l.i (split 9 l.line))
