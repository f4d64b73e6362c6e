-- `sums::across` meets its contract. The loop's invariant: both running sums have gone i places. Assumes nothing.
use lib.ListN.{length}
use Rattle.sums.proofs.Turns.{Running}
use Rattle.sums.proofs.across.Given as goal

abbrev pub invariant-loop-i : goal.invariant-loop-i
invariant-loop-i l = Running (length l.initial.out) l.out l.cols l.x l.d l.i l.s × Running (length l.initial.second) l.second l.other l.x l.d l.i l.t
