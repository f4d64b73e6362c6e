-- `sums::slide` meets its contract: each turn writes one column. Assumes nothing.
use Rattle.sums.specs.Sum.{slid}
use Rattle.sums.proofs.Turns.{Turn, slides, turned}
use Rattle.sums.proofs.slide.Goals as goal

pub overflow_sub-cols : goal.overflow_sub-cols
overflow_sub-cols g c =
    let a = c.args in
    let values = g.S.Source.entries a.source in
    let t : Turn a.cols.now c.loop-i.cols a.to values a.at a.n c.loop-i.i (slid a.cols.now a.to values a.at a.old) =
    record { pre = c.requires.0; less = c.loop-i-test.true; long = c.loop-i.auto.cols; out = c.loop-i.invariant } in
    (slides t _ c.requires.1 _ _ c.read.ensures c.read-in-loop-i.ensures).fit

pub loop-i-preserved : goal.loop-i-preserved
loop-i-preserved g c =
    let a = c.args in
    let values = g.S.Source.entries a.source in
    let t : Turn a.cols.now c.loop-i.cols a.to values a.at a.n c.loop-i.i (slid a.cols.now a.to values a.at a.old) =
    record { pre = c.requires.0; less = c.loop-i-test.true; long = c.loop-i.auto.cols; out = c.loop-i.invariant } in
    turned t _ (slides t _ c.requires.1 _ _ c.read.ensures c.read-in-loop-i.ensures)
