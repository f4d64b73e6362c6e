-- `windows::behind` meets its contract. Assumes nothing.
use mathlib.Core.Path.{◌≡◌}
use lib.ListN.{length-set}
use Prim.Native.Nat.{ℕ, ◌-◌}
use native.Mathlib.Omega.{arith}
use Rattle.windows.proofs.Lines.{behind_first, behind_more}
use Rattle.windows.proofs.behind.Goals as goal

pub loop-i-init : goal.loop-i-init
loop-i-init c =
    let first = behind_first c.args.line.now c.args.q.now (c.args.end - 1) c.args.end (omega arith) _ (omega arith) c.from-least.ensures in
    (omega arith, omega arith, omega (arith, c.type_inv.line (c.args.end - 1)), first.0, first.1)

pub loop-i-preserved : goal.loop-i-preserved
loop-i-preserved c =
    let i = c.loop-i.i in
    let more = behind_more c.args.line.now c.args.q.now (c.args.end - 1) c.args.end (omega arith) c.loop-i.q i _ c.min-least.result (omega arith) (omega arith) (omega (arith, length-set {A = ℕ})) c.loop-i.invariant.3 (omega arith) c.loop-i.invariant.4 in
    (omega arith, omega arith, omega arith, more.0, more.1)

pub returns : goal.returns
returns c =
    let z : c.loop-i.i ≡ c.args.first = omega arith in
    (omega arith, rw z at c.loop-i.invariant.4)
