-- `writer::recover_row` meets its contract: after x turns the run is x pixels long. Assumes nothing.
use Prim.Native.Nat.{◌+◌, ◌*◌, ◌≤◌}
use native.Mathlib.Omega.{arith}
use lib.ListN.{length}
use Rattle.writer.proofs.Recovered.{recover_more}
use Rattle.writer.proofs.recover_row.Goals as goal

pub loop-x-preserved : goal.loop-x-preserved
loop-x-preserved c =
    let l = c.loop-x in
    let d = c.args in
    let less = c.loop-x-test.true in
    let room : 3 * l.x + 3 ≤ length l.picture = omega arith in
    λ T fl sc.
    recover_more d.a c.pixel_at-i.result d.frame.now d.p (length d.scales.now) l.x _ _ _ T d.scales.now d.picture.now l.picture
    c.pixel_at-i.ensures c.recovered.ensures c.recovered-in-loop-x.ensures c.recovered-in-loop-x-2.ensures fl sc less room
    (l.invariant T fl sc)
