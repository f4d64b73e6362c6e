-- `windows::halves` meets its contract. The invariant: the minima stand in the blocks before `first`, which is a block's start, and the count
-- lacks what the rest of the line takes. Assumes nothing.
use mathlib.Core.Path.{◌≡◌}
use Prim.Native.Nat.{◌+◌, ◌-◌}
use lib.ListN.{length}
use Rattle.rules.proofs.Count.{inner}
use Rattle.windows.proofs.Lines.{HalvesTo}
use Rattle.windows.proofs.halves.Given as goal

abbrev pub invariant-loop-first : goal.invariant-loop-first
invariant-loop-first l = HalvesTo l.line l.p l.q (length l.line) l.k l.first × (l.count + inner l.k (length l.line - l.first) ≡ inner l.k (length l.line))

abbrev pub decreases-loop-first : goal.decreases-loop-first
decreases-loop-first l = length l.line - l.first
