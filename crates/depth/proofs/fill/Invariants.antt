-- `depth::fill` meets its contract. The loop's invariant: each t passed has its depth, and that of the next is no more than d. Assumes nothing.
use mathlib.Core.Path.{◌≡◌}
use Prim.Native.Nat.{ℕ, ◌≤◌, ◌<◌}
use lib.ListN.{get_or}
use Rattle.depth.specs.Table.{depth_of}
use Rattle.depth.proofs.fill.Given as goal

abbrev pub invariant-loop-t : goal.invariant-loop-t
invariant-loop-t l = record { falls : depth_of l.t ≤ l.d; most : l.d ≤ 918; passed : (k : ℕ) → k < l.t → get_or l.every k 0 ≡ depth_of k }
