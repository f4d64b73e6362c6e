-- `adding::add` meets its contract. The loop's invariant: the bytes of the pixels passed are those of the hazed frame. Assumes nothing.
use mathlib.Core.Path.{◌≡◌}
use Prim.Native.Nat.{◌+◌, ◌*◌, ◌≤◌}
use native.Mathlib.Omega.{arith}
use lib.ListN.{length}
use Rattle.rules.specs.Shape.{described}
use Rattle.adding.proofs.Laws.{added_more, added_all}
use Rattle.adding.proofs.add.Goals as goal

pub loop-p-preserved : goal.loop-p-preserved
loop-p-preserved c =
    let room : 3 * c.loop-p.p + 3 ≤ length c.loop-p.out = omega (arith, c.requires.clean_len) in
    added_more c.args.a c.args.clean.now c.args.map.now c.loop-p.out c.loop-p.p room c.loop-p.invariant _ _ _
    (rw c.from-t.ensures at c.hazed.ensures) (rw c.from-t.ensures at c.hazed-in-loop-p.ensures) (rw c.from-t.ensures at c.hazed-in-loop-p-2.ensures)

pub returns : goal.returns
returns c =
    let z = c.args.z in
    let e : c.loop-p.p ≡ z.w * z.h = omega (arith, c.requires.clean_len) in
    added_all (described z) c.args.a c.args.clean.now c.args.map.now c.loop-p.out (omega (arith, c.requires.clean_len)) (rw e at c.loop-p.invariant)
