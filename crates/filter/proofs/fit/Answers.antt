-- `filter::fit` meets its contract. Before each row the loop's invariant is `Going`. Assumes nothing.
use native.Mathlib.Omega.{arith}
use Rattle.planes.specs.Stage.{Sampled, box_seen}
use Rattle.filter.proofs.Going.{going_start, going_more, going_end, going_sampled, Own, own, own_part, part_long, row_in}
use Rattle.filter.proofs.Samples.{first_summable, second_summable}
use Rattle.filter.proofs.fit.Goals as goal
use Rattle.filter.proofs.fit.Goals.{After-own_place-at, In-loop-y}

pub begin-requires-2 : goal.begin-requires-2
begin-requires-2 c =
    let p = c.requires.in_plane in
    let s = c.requires.sampling.0.sampled in
    (first_summable c.args.v c.args.r p.0 p.2 s, second_summable c.args.v c.args.r p.0 p.2 s, c.new-sums.ensures.blank.0, c.new-sums.ensures.blank.1)

pub loop-y-init : goal.loop-y-init
loop-y-init c = going_start c.begin-2.ensures.before c.begin.ensures.before

-- the samples stand as they did at the start
sampled : (t : In-loop-y) → Sampled t.loop-y.work t.args.v.w t.args.v.h (box_seen t.args.b t.args.mask.now) t.requires.sampling.0.S
sampled t = going_sampled t.loop-y.invariant t.requires.in_plane.0 t.requires.in_plane.2 t.loop-y-test.true t.loop-y.auto.work t.requires.sampling.0.sampled

pub next-requires-clause-summable : goal.next-requires-clause-summable
next-requires-clause-summable c =
    let v = c.args.v in
    let p = c.requires.in_plane in
    let s = sampled (goal.at.next-requires-clause-summable c).In-loop-y in
    (first_summable v c.args.r p.0 p.2 s, second_summable v c.args.r p.0 p.2 s, c.loop-y-test.true)

-- the row's pixels in the mask
placed : (c : After-own_place-at) → Own c.args.v (box_seen c.args.b c.args.mask.now) c.args.mask.now c.own_place-at.result c.loop-y.y
placed c = own c.requires.in_plane.0 c.requires.in_plane.1 c.loop-y.y c.loop-y-test.true c.own_place-at.result c.own_place-at.ensures

pub slice_bounds-own-end : goal.slice_bounds-own-end
slice_bounds-own-end c = omega (arith, (placed (goal.at.slice_bounds-own-end c).After-own_place-at).room)

pub fit_row-requires : goal.fit_row-requires
fit_row-requires c =
    let p = c.requires.in_plane in
    let t = goal.at.fit_row-requires c in
    let o = t.After-own_place-at in
    let at = c.own_place-at.result in
    let long = part_long c.args.mask.now at c.args.v.wide (placed o).room in
    (rw long (row_in p.0 p.2 c.loop-y-test.true (own_part at (placed o)) c.next.ensures.about c.resize.ensures.about (sampled t.In-loop-y) (omega (arith, c.requires.sampling.1))), p.3, p.4)

pub loop-y-preserved : goal.loop-y-preserved
loop-y-preserved c =
    let p = c.requires.in_plane in
    let o = (goal.at.loop-y-preserved c).After-own_place-at in
    let at = c.own_place-at.result in
    let long = part_long c.args.mask.now at c.args.v.wide (placed o).room in
    going_more c.loop-y.invariant p.0 p.2 c.loop-y-test.true c.loop-y.auto.work (own_part at (placed o)) c.next.ensures.about c.resize.ensures.about c.next.ensures.before
    c.resize.ensures.before (rw long at c.fit_row.ensures)

pub returns-clause-lines : goal.returns-clause-lines
returns-clause-lines c = going_end c.requires.in_plane.0 c.loop-y.invariant (omega arith) (omega (arith, c.requires.sampling.1))
