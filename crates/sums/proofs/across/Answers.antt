-- `sums::across` meets its contract. The loop's invariant: both running sums have gone i places. Assumes nothing.
use native.Mathlib.Omega.{arith}
use Prim.Native.Nat.{◌+◌}
use Rattle.sums.proofs.Turns.{running_more, differs, moves}
use Rattle.sums.proofs.across.Goals as goal

pub overflow_add-s-in-loop-i : goal.overflow_add-s-in-loop-i
overflow_add-s-in-loop-i c = (moves c.requires.0 c.requires.2 c.loop-i.invariant.0.holds).fit

pub overflow_sub-t : goal.overflow_sub-t
overflow_sub-t c = (differs c.args.other.now c.requires.1 (c.args.x + c.loop-i.i) c.args.d).fit

pub overflow_add-t-in-loop-i : goal.overflow_add-t-in-loop-i
overflow_add-t-in-loop-i c = (moves c.requires.1 c.requires.2 c.loop-i.invariant.1.holds).fit

pub loop-i-preserved : goal.loop-i-preserved
loop-i-preserved c =
    (running_more c.requires.0 c.requires.2 c.loop-i.invariant.0 (omega arith), running_more c.requires.1 c.requires.2 c.loop-i.invariant.1 (omega arith))
