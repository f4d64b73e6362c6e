-- `coarse::prepare` meets its contract. The loop's invariant is `Going`: the columns have taken i rows, i - s rows of samples stand in the work area, and
-- the comparisons so far are counted. Assumes nothing.
use Rattle.coarse.proofs.Going.{Going}
use Rattle.coarse.proofs.prepare.Given as goal

abbrev pub invariant-loop-i : goal.invariant-loop-i
invariant-loop-i l = Going l.v l.k l.a l.mask l.frame l.initial.work l.work l.columns.store l.columns.ahead l.columns.h l.columns.s l.count l.i
