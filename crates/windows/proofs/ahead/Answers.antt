-- `windows::ahead` meets its contract. Assumes nothing.
use Prim.Native.Nat.{ℕ}
use lib.ListN.{length-set}
use native.Mathlib.Omega.{arith}
use Rattle.windows.proofs.Lines.{ahead_first, ahead_more}
use Rattle.windows.proofs.ahead.Goals as goal

pub loop-i-init : goal.loop-i-init
loop-i-init c =
    let first = ahead_first c.args.line.now c.args.p.now c.args.first _ (omega arith) c.from-least.ensures in
    (omega arith, omega (arith, c.type_inv.line c.args.first), first.0, first.1)

pub loop-i-preserved : goal.loop-i-preserved
loop-i-preserved c =
    let i = c.loop-i.i in
    let more = ahead_more c.args.line.now c.args.p.now c.args.first c.loop-i.p c.loop-i.count i _ c.min-least.result c.loop-i.invariant.0 (omega (arith, length-set {A = ℕ})) c.loop-i.invariant.2 (omega arith) c.loop-i.invariant.3 in
    (omega arith, omega arith, more.0, more.1)
