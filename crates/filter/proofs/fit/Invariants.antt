-- `filter::fit` meets its contract. Before each row the loop's invariant is `Going`. Assumes nothing.
use Rattle.filter.proofs.Going.{Going}
use Rattle.filter.proofs.fit.Given as goal

abbrev pub invariant-loop-y : goal.invariant-loop-y
invariant-loop-y l = Going l.b l.v l.r l.e l.mask l.initial.work l.work l.sums l.sizes l.y
