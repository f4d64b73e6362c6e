-- `depth::write` meets its contract. The loop's invariant: the entries passed have their depths. Assumes nothing.
use mathlib.Core.Path.{◌≡◌}
use Prim.Native.Nat.{ℕ, ◌<◌}
use lib.ListN.{get_or}
use Rattle.depth.specs.Table.{depth_of}
use Rattle.depth.proofs.write.Given as goal

abbrev pub invariant-loop-p : goal.invariant-loop-p
invariant-loop-p l = (k : ℕ) → k < l.p → get_or l.out k 0 ≡ depth_of (get_or l.map k 0)
