-- `depth::thresholds::stored` makes a table: that in the code is that of the rule, by computing both. Assumes nothing.
use mathlib.Core.Path.{refl}
use Rattle.depth.specs.Table.{thresholds}
use Rattle.depth.proofs.thresholds.stored.Goals as goal

pub invariant_of-result : goal.invariant_of-result
unfolding thresholds
invariant_of-result c = record { whole = refl }
