-- `sums::SquareSums::new` meets its contract: the columns are those of nothing. Assumes nothing.
use mathlib.Core.Path.{refl}
use Rattle.sums.proofs.Lent.{zeros}
use Rattle.sums.proofs.SquareSums.new.Goals as goal

pub returns-clause-blank : goal.returns-clause-blank
returns-clause-blank c = (record { long = refl; zero = zeros 1152 }, record { long = refl; zero = zeros 1152 })
