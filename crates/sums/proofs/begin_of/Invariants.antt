-- `sums::begin_of` meets its contract. The loop's invariant: the columns are those of the rows above y. Assumes nothing.
use Rattle.sums.specs.Sum.{Columns}
use Rattle.sums.proofs.begin_of.Given as goal

abbrev pub invariant-loop-y : goal.invariant-loop-y
invariant-loop-y g l = Columns l.cols (g.S.Source.plane l.source) l.v.w l.y l.r l.v.top
