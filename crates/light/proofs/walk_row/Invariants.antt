-- `light::walk_row` meets its contract. The loop's invariant: the walk has come to p. Assumes nothing.
use Rattle.light.specs.Steps as steps
use Rattle.light.proofs.walk_row.Given as goal

abbrev pub invariant-loop-p : goal.invariant-loop-p
invariant-loop-p l = steps.Walked l.frame l.work (record { value = l.value; ties = l.ties }) l.p (record { leader = l.leader; seen = l.seen })
