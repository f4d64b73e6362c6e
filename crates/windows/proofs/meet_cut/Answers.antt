-- `windows::meet_cut` meets its contract. Assumes nothing.
use Prim.Native.Nat.{◌+◌}
use native.Mathlib.Omega.{arith}
use lib.ListN.{length, set}
use Rattle.windows.specs.Line.{Met}
use Rattle.windows.proofs.Windows.{met_few, cut_more}
use Rattle.windows.proofs.meet_cut.Goals as goal
use Rattle.windows.proofs.meet_cut.Goals.{After-pick-least}

-- a turn
turned : (c : After-pick-least) →
    Met c.args.line.now (set c.loop-i.line c.loop-i.i c.pick-least.result.value) c.args.p.now c.args.q.now (length c.args.line.now) c.args.s c.args.from (c.loop-i.i + 1)
    (c.loop-i.count + c.pick-least.result.comparisons)
turned c =
    cut_more _ _ _ (length c.args.line.now) c.args.s _ c.args.from c.loop-i.i _ _ _ c.loop-i.count _ _ c.loop-i.invariant (omega arith) (omega arith)
    (c.requires.7 c.loop-i.i (omega arith) (omega arith))
    c.pick-least.ensures
    (omega arith)
    c.high.ensures
    c.last_block-c.ensures

pub overflow_add-count : goal.overflow_add-count
overflow_add-count c =
    omega (arith, met_few _ _ _ _ _ _ _ (c.loop-i.i + 1) _ (turned (goal.at.overflow_add-count c).After-pick-least))

pub loop-i-preserved : goal.loop-i-preserved
loop-i-preserved c = turned (goal.at.loop-i-preserved c).After-pick-least
