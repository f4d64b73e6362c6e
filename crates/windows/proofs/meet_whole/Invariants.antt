-- `windows::meet_whole` meets its contract. The invariant: a is a block's start, and the whole windows before it are put together. Assumes nothing.
use Prim.Native.Nat.{◌-◌, ◌*◌}
use lib.ListN.{length}
use Rattle.windows.proofs.Windows.{WholeTo}
use Rattle.windows.proofs.meet_whole.Given as goal

abbrev pub invariant-loop-a : goal.invariant-loop-a
invariant-loop-a l = WholeTo l.initial.line l.line l.p l.q l.s (length l.initial.line - 2 * l.s) l.a l.count

abbrev pub decreases-loop-a : goal.decreases-loop-a
decreases-loop-a l = length l.line - 2 * l.s - l.a
