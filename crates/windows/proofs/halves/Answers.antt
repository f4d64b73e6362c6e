-- `windows::halves` meets its contract. Assumes nothing.
use mathlib.Core.Path.{◌≡◌}
use Prim.Native.Nat.{◌+◌, ◌-◌}
use native.Mathlib.Omega.{arith}
use lib.ListN.{length}
use Rattle.rules.proofs.Count.{inner, inner_le_two}
use Rattle.windows.proofs.Lines.{HalvesTo, halves_none, halves_more, count_more, count_done}
use Rattle.windows.proofs.halves.Goals as goal
use Rattle.windows.proofs.halves.Goals.{After-behind-count}

pub loop-first-init : goal.loop-first-init
loop-first-init c = let z : length c.args.line.now - 0 ≡ length c.args.line.now = omega arith in (halves_none _ _ _ c.requires.0 _ _, rw z (omega arith))

pub overflow_add-count : goal.overflow_add-count
overflow_add-count c =
    omega (arith, inner_le_two c.args.k (length c.args.line.now) c.requires.0)

pub overflow_add-count-in-loop-first : goal.overflow_add-count-in-loop-first
overflow_add-count-in-loop-first c =
    omega (arith, inner_le_two c.args.k (length c.args.line.now) c.requires.0)

-- a turn
halved : (c : After-behind-count) →
    HalvesTo c.args.line.now c.ahead-count.new.p c.behind-count.new.q (length c.args.line.now) c.args.k (c.loop-first.first + c.args.k)
halved c =
    halves_more _ _ _ c.requires.0 _ _ _ _ c.loop-first.first _ c.loop-first.invariant.0 c.loop-first-test.true c.min-end.ensures c.ahead-count.ensures.1 c.behind-count.ensures.1

counted : (c : After-behind-count) →
    c.loop-first.count + c.ahead-count.result + c.behind-count.result + inner c.args.k (length c.args.line.now - (c.loop-first.first + c.args.k)) ≡ inner c.args.k (length c.args.line.now)
counted c =
    count_more _ (length c.args.line.now) c.loop-first.first _ c.loop-first.count _ _ c.requires.0 c.loop-first-test.true c.min-end.ensures c.ahead-count.ensures.0 c.behind-count.ensures.0 c.loop-first.invariant.1

pub loop-first-preserved : goal.loop-first-preserved
loop-first-preserved c =
    let after = (goal.at.loop-first-preserved c).After-behind-count in
    (halved after, counted after)

pub returns : goal.returns
returns c = (
  count_done _ (length c.args.line.now) c.loop-first.first _ (omega arith) c.loop-first.invariant.1,
  λ i h. c.loop-first.invariant.0.fores i h (omega arith),
  λ i h. c.loop-first.invariant.0.afts i h (omega arith),
)

-- after the last block
pub returns-2 : goal.returns-2
returns-2 c =
    let after = (goal.at.returns-2 c).After-behind-count in
    let halves = halved after in (
      count_done _ (length c.args.line.now) (c.loop-first.first + c.args.k) _ (omega arith) (counted after),
      λ i h. halves.fores i h (omega arith),
      λ i h. halves.afts i h (omega arith),
    )
