-- `light::join` meets its contract. The loop's invariant: the counts before v are joined. Assumes nothing.
use Rattle.light.specs.Steps.{Starts, joined}
use Rattle.light.proofs.join.Given as goal

abbrev pub invariant-loop-v : goal.invariant-loop-v
invariant-loop-v l = Starts (joined l.apart) l.v l.counts
