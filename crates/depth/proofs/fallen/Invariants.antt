-- `depth::fallen` meets its contract. The loop's invariant: the depth is no more than `at`. Assumes nothing.
use Prim.Native.Nat.{◌≤◌}
use Rattle.depth.specs.Table.{depth_of}
use Rattle.depth.proofs.fallen.Given as goal

abbrev pub invariant-loop-at : goal.invariant-loop-at
invariant-loop-at l = depth_of l.t ≤ l.at
