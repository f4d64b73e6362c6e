-- `light::walk_row` meets its contract. The loop's invariant: the walk has come to p. Assumes nothing.
use mathlib.Core.Path.{refl}
use native.Mathlib.Omega.{arith}
use Rattle.light.specs.Steps as steps
use Rattle.light.proofs.Positions.{hits_le}
use Rattle.light.proofs.Keeping.{turn}
use Rattle.light.proofs.walk_row.Goals as goal

pub seen_now-seen-requires : goal.seen_now-seen-requires
seen_now-seen-requires c =
    let l = c.loop-p in
    omega (arith, l.invariant.level, hits_le (steps.value c.args.work.now) l.p c.args.cut.value)

pub loop-p-preserved : goal.loop-p-preserved
loop-p-preserved c =
    let l = c.loop-p in
    let a = c.args in
    turn a.frame.now a.work.now a.cut l.p (record { leader = l.leader; seen = l.seen }) _ _ _ _ _ l.invariant
    c.level-d.ensures refl c.admits-ok.ensures c.better-leader.ensures c.seen_now-seen.ensures
