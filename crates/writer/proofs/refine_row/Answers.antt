-- `writer::refine_row` meets its contract: after i turns the run is i entries long. Assumes nothing.
use native.Mathlib.Omega.{arith}
use lib.ListN.{length}
use Rattle.writer.proofs.Runs.{run_more}
use Rattle.writer.proofs.Refined.{entry_is}
use Rattle.writer.proofs.refine_row.Goals as goal

pub loop-i-preserved : goal.loop-i-preserved
loop-i-preserved c =
    let d = c.args in
    let l = c.loop-i in
    let e =
    entry_is (length d.map.now) d.sums.now.first d.sums.now.second d.sizes.now.ns d.sizes.now.inverses c.requires.2 l.i c.loop-i-test.true d.mask.now d.frame.now d.p
    c.pixel_at.result c.guide_of.result c.refined-t.result c.seen_or.result
    c.pixel_at.ensures c.guide_of.ensures.0 c.refined-t.ensures.0 c.seen_or.ensures in
    run_more _ d.p l.i c.seen_or.result d.map.now l.map l.invariant (omega (arith, l.invariant.same)) e
