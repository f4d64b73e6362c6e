-- `sizes::size_row` meets its contract. The loop's invariant: s holds the sum before window i, and the sizes of the first i windows are there. Assumes nothing.
use Rattle.sums.proofs.Turns.{Holds}
use Rattle.sizes.specs.Sizes.{Counted}
use Rattle.sizes.proofs.size_row.Given as goal

abbrev pub invariant-loop-i : goal.invariant-loop-i
invariant-loop-i l = Holds l.cols l.x l.d l.i l.s × Counted l.cols l.x l.d l.i l.ns
