-- `light::choose` meets its contract. The loop's invariant: the walk has come to row y. Assumes nothing.
use Prim.Native.Nat.{◌*◌}
use Rattle.light.specs.Steps.{Walked}
use Rattle.light.proofs.choose.Given as goal

abbrev pub invariant-loop-y : goal.invariant-loop-y
invariant-loop-y l = Walked l.frame l.work l.cut (l.y * l.w) l.b
