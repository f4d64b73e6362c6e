-- `light::cutoff` meets its contract. The loop's invariant: `above`, fewer than m, are at least v. Assumes nothing.
use mathlib.Core.Path.{◌≡◌, refl, sym, ap}
use Prim.Native.Nat.{ℕ, ◌-◌, ◌+◌}
use native.Mathlib.Omega.{arith}
use Rattle.light.specs.Steps.{at_least}
use Rattle.light.proofs.Counts.{at_least_last, at_least_more}
use Rattle.light.proofs.cutoff.Goals as goal
use Rattle.light.proofs.cutoff.Goals.{In-loop-v}

pub loop-v-init : goal.loop-v-init
loop-v-init c = (sym (at_least_last c.args.counts.now _ refl), omega arith)

-- those above the level that is looked at
over : (c : In-loop-v) → c.loop-v.above ≡ at_least c.args.counts.now (c.loop-v.v - 1 + 1)
over c =
    let e : c.loop-v.v - 1 + 1 ≡ c.loop-v.v = omega arith in
    rw e c.loop-v.invariant.0

pub loop-v-preserved : goal.loop-v-preserved
loop-v-preserved c =
    let e = at_least_more c.args.counts.now (c.loop-v.v - 1) (omega arith) in
    (omega (arith, e, over (goal.at.loop-v-preserved c).In-loop-v), omega arith)

pub returns-then-m-next : goal.returns-then-m-next
returns-then-m-next c =
    let o = over (goal.at.returns-then-m-next c).In-loop-v in
    let e = at_least_more c.args.counts.now (c.loop-v.v - 1) (omega arith) in
    record { small = omega arith; low = omega (arith, o); high = omega (arith, e, o); ties = ap (λ (k : ℕ). c.args.m - k) o }
