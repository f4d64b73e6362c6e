-- `sizes::WindowSizes::new` meets its contract: no reciprocal is known, and the columns are those of nothing. Assumes nothing.
use mathlib.Core.Path.{refl}
use Rattle.sums.proofs.Lent.{zeros}
use Rattle.sizes.proofs.Counts.{table_none}
use Rattle.sizes.proofs.WindowSizes.new.Goals as goal

pub invariant_of-result : goal.invariant_of-result
invariant_of-result c = record { known = table_none }

pub returns-clause-blank : goal.returns-clause-blank
returns-clause-blank c = record { long = refl; zero = zeros 1152 }
