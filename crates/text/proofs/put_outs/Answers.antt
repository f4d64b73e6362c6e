-- `text::put_outs` meets its contract. The invariant is `Listed`: writing the lines that are left from the present place on gives what writing all of
-- them gives. Assumes nothing.
use native.Mathlib.Omega.{arith}
use lib.ListN.{length}
use Rattle.text.specs.Text.{out_at, outs}
use Rattle.text.proofs.Writing.{listed_none, listed_more, listed_done}
use Rattle.text.proofs.put_outs.Goals as goal

pub loop-p-init : goal.loop-p-init
loop-p-init c =
    listed_none (out_at c.args.map.now c.args.picture.now) (length c.args.map.now) c.args.at c.args.out.now c.requires.0

pub put_out-next-requires : goal.put_out-next-requires
put_out-next-requires c = omega (arith, c.loop-p.invariant, c.loop-p-test.true)

pub loop-p-preserved : goal.loop-p-preserved
loop-p-preserved c =
    let a = c.args in
    let l = c.loop-p in
    let w = c.put_out-next in
    listed_more (out_at a.map.now a.picture.now) (length a.map.now) a.at a.out.now l.out l.next l.p l.invariant w.new.out w.result c.loop-p-test.true w.auto.out w.ensures.0 w.ensures.1

pub returns : goal.returns
unfolding outs
returns c =
    let a = c.args in
    let l = c.loop-p in
    listed_done (out_at a.map.now a.picture.now) (length a.map.now) a.at a.out.now l.out l.next l.p l.invariant c.loop-p-test.false
