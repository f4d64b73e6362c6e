-- `windows::meet_whole` meets its contract. Assumes nothing.
use mathlib.Core.Path.{◌≡◌, ◌∙◌}
use Prim.Native.Nat.{ℕ, ◌+◌, ◌-◌, ◌*◌, min}
use native.Mathlib.Omega.{arith}
use lib.ListN.{length, length-set}
use Rattle.windows.proofs.Windows.{WholeTo, whole_none, whole_more, whole_done, met_few}
use Rattle.windows.proofs.meet_whole.Goals as goal
use Rattle.windows.proofs.meet_whole.Goals.{After-join_run-count}

pub loop-a-init : goal.loop-a-init
loop-a-init c = whole_none _ _ _ _ _

pub overflow_add-count : goal.overflow_add-count
overflow_add-count c =
    omega (arith, met_few _ _ _ _ _ _ _ (min c.loop-a.a (length c.args.line.now - 2 * c.args.s) + c.args.s) _ c.loop-a.invariant.met_to)

-- a turn
turned : (c : After-join_run-count) (r : ℕ) → r ≡ c.loop-a.count + c.min-some.result
    → WholeTo c.args.line.now c.join_run-count.new.line c.args.p.now c.args.q.now c.args.s (length c.args.line.now - 2 * c.args.s) (c.loop-a.a + (2 * c.args.s + 1)) r
turned c r counted =
    whole_more _ _ _ _ _ _ _ c.loop-a.a c.loop-a.count _ r c.loop-a.invariant c.loop-a-test.true (omega (arith, c.loop-a.invariant.size)) c.min-some.ensures (c.join_run-count.auto.line ∙ simp length-set) counted c.join_run-count.ensures.1

pub loop-a-preserved : goal.loop-a-preserved
loop-a-preserved c =
    turned (goal.at.loop-a-preserved c).After-join_run-count _ (omega (arith, c.join_run-count.ensures.0))

-- after the last block
pub returns-2 : goal.returns-2
returns-2 c =
    whole_done _ _ _ _ _ _ _ (c.loop-a.a + (2 * c.args.s + 1)) _ (omega arith) (omega arith) (turned (goal.at.returns-2 c).After-join_run-count _ (omega (arith, c.join_run-count.ensures.0)))
