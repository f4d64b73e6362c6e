-- `windows::meet` meets its contract: all windows are cut off, or the two ends and the whole ones between them. Assumes nothing.
use Prim.Native.Nat.{◌+◌}
use native.Mathlib.Omega.{arith}
use lib.ListN.{length}
use Rattle.windows.specs.Line.{Met}
use Rattle.windows.proofs.Windows.{met_few, meet_done}
use Rattle.windows.proofs.meet.Goals as goal
use Rattle.windows.proofs.meet.Goals.{After-meet_cut-c}

-- the three parts together
done : (c : After-meet_cut-c) →
    Met c.args.line.now c.meet_cut-c.new.line c.args.p.now c.args.q.now (length c.args.line.now) c.args.s 0 (length c.args.line.now)
    (c.meet_cut-a.result + c.meet_whole-b.result + c.meet_cut-c.result)
done c =
    meet_done _ _ _ _ _ _ _ _ _ _ _ c.if-n-s.false (omega arith) (omega arith) c.meet_cut-a.ensures c.meet_whole-b.ensures c.meet_cut-c.ensures

pub overflow_add-result : goal.overflow_add-result
overflow_add-result c =
    omega (arith, met_few _ _ _ _ _ _ 0 _ _ (done (goal.at.overflow_add-result c).After-meet_cut-c))

pub overflow_add-result-2 : goal.overflow_add-result-2
overflow_add-result-2 c =
    omega (arith, met_few _ _ _ _ _ _ 0 _ _ (done (goal.at.overflow_add-result-2 c).After-meet_cut-c))

pub returns : goal.returns
returns c = done (goal.at.returns c).After-meet_cut-c
