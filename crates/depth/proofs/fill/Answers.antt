-- `depth::fill` meets its contract. The loop's invariant: each t passed has its depth, and that of the next is no more than d. Assumes nothing.
use mathlib.Core.Path.{ap}
use Prim.Native.Nat.{◌+◌}
use native.Mathlib.Omega.{arith}
use lib.ListN.{length}
use Rattle.rules.proofs.Buffers.{wrote}
use Rattle.depth.specs.Table.{depth_of}
use Rattle.depth.proofs.Table.{count}
use Rattle.depth.proofs.Meaning.{falls, bounds}
use Rattle.depth.proofs.Written.{every_of}
use Rattle.depth.proofs.fill.Goals as goal

pub loop-t-init : goal.loop-t-init
loop-t-init c =
    let b = (bounds 0).most in
    let e = ap length c.args.table.now.whole in
    record { falls = omega (arith, count); most = omega (arith, count); passed = λ k h. absurd (omega arith) }

pub fallen-d-requires : goal.fallen-d-requires
fallen-d-requires c = (omega arith, c.loop-t.invariant.falls, c.loop-t.invariant.most)

pub overflow_cast-place : goal.overflow_cast-place
overflow_cast-place c = let b = (bounds c.loop-t.t).most in omega arith

pub loop-t-preserved : goal.loop-t-preserved
loop-t-preserved c =
    let l = c.loop-t in
    let e = c.fallen-d.ensures in
    let next = falls l.t (l.t + 1) (omega arith) in
    let b = (bounds l.t).most in
    record { falls = omega arith; most = omega arith; passed = wrote depth_of l.every l.t _ (omega arith) l.invariant.passed e }

pub returns : goal.returns
returns c = every_of c.loop-t.every (omega arith) (λ k h. c.loop-t.invariant.passed k (omega arith))
