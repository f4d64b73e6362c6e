-- `sums::enter` meets its contract. The loop's invariant is the contract at i columns. Assumes nothing.
use Rattle.sums.specs.Sum.{Rewritten, entered}
use Rattle.sums.proofs.enter.Given as goal

abbrev pub invariant-loop-i : goal.invariant-loop-i
invariant-loop-i g l = Rewritten l.initial.cols l.cols l.to l.i (entered l.initial.cols l.to (g.S.Source.entries l.source) l.at)
