-- `sums::first` meets its contract. Each turn adds a column. Assumes nothing.
use Prim.Native.Nat.{◌+◌, ◌-◌}
use mathlib.Core.Path.{ap, ◌≡◌, ◌∙◌}
use native.Mathlib.Omega.{arith}
use lib.IntN.{◌+ℤ◌}
use mir.Syntax.{w64}
use mir.Val.{to_z}
use Rattle.rules.proofs.Integers.{rd}
use Rattle.sums.specs.Sum.{column_most, entry, range_sum}
use Rattle.sums.proofs.Turns.{Computes, span_most, adds, span_back}
use Rattle.sums.proofs.first.Goals as goal
use Rattle.sums.proofs.first.Goals.{In-loop-i}

-- a turn adds the column i
turn : (c : In-loop-i) →
    Computes (to_z w64 c.loop-i.s-bits +ℤ rd (entry c.args.cols.now c.loop-i.i)) (range_sum (entry c.args.cols.now) c.args.from (c.loop-i.i + 1)) (span_most + column_most)
turn c =
    adds c.args.cols.now c.requires.0 c.args.from c.loop-i.i (to_z w64 c.loop-i.s-bits) (omega arith) (omega (arith, c.requires.2)) c.loop-i.invariant

pub overflow_add-s : goal.overflow_add-s
overflow_add-s c = (turn (goal.at.overflow_add-s c).In-loop-i).fit

pub loop-i-preserved : goal.loop-i-preserved
loop-i-preserved c = ap rd (turn (goal.at.loop-i-preserved c).In-loop-i).is

pub returns : goal.returns
returns c =
    let e : c.loop-i.i ≡ c.args.end = omega arith in
    (rw e at c.loop-i.invariant) ∙ span_back c.args.cols.now c.requires.0 c.args.from (c.args.end - c.args.from) (omega (arith, c.requires.2))
