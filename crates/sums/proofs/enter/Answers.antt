-- `sums::enter` meets its contract: each turn writes one column. Assumes nothing.
use Rattle.sums.specs.Sum.{entered}
use Rattle.sums.proofs.Turns.{Turn, enters, turned}
use Rattle.sums.proofs.enter.Goals as goal

pub loop-i-preserved : goal.loop-i-preserved
loop-i-preserved g c =
    let a = c.args in
    let values = g.S.Source.entries a.source in
    let t : Turn a.cols.now c.loop-i.cols a.to values a.at a.n c.loop-i.i (entered a.cols.now a.to values a.at) =
    record { pre = c.requires; less = c.loop-i-test.true; long = c.loop-i.auto.cols; out = c.loop-i.invariant } in
    turned t _ (enters t _ c.read.ensures)
