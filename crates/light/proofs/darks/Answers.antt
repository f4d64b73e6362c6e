-- `light::darks` meets its contract. The loop's invariant is `Going`: the columns have taken i rows, i - s rows are given, and the comparisons are counted. Assumes nothing.
use mathlib.Core.Path.{◌≡◌, refl, ◌∙◌}
use Prim.Native.Nat.{ℕ, ◌+◌, ◌-◌, ◌*◌, ◌≤◌, min}
use native.Mathlib.Nat.{zero-sub}
use native.Mathlib.Omega.{arith}
use lib.ListN.{length}
use Rattle.std.proofs.Common.{rules}
use Rattle.rules.specs.Shape.{described}
use Rattle.windows.specs.Span.{windowed}
use Rattle.columns.specs.Down.{RowIs, down_count}
use Rattle.columns.proofs.Counted.{Counted, counted_none, counted_more, counted_all}
use Rattle.columns.proofs.Steps.{down_start}
use Rattle.light.specs.Steps.{lane, least_along, level_at}
use Rattle.light.proofs.Counts.{hits_below}
use Rattle.light.proofs.Minima.{level_is, out_le}
use Rattle.light.proofs.Areas.{roomy, dark_none, dark_all}
use Rattle.light.proofs.darks.Goals as goal
use Rattle.light.proofs.darks.Goals.{After-down-count, After-take_row-count}

pub loop-i-init : goal.loop-i-init
loop-i-init c =
    let a = c.args in
    record {
      rows = refl;
      radius = refl;
      columns = down_start _ _ _ _ _ _;
      given = rw zero-sub (dark_none (described a.z) (level_at (described a.z) a.k.s a.mask.now a.frame.now) a.work.now _ _ c.requires.3);
      counted = counted_none _ _ _;
    }

-- the comparisons so far, with d down the columns
more : (c : After-take_row-count) (d : ℕ) → let a = c.args in let l = c.loop-i in let n = l.count + c.take_row-count.result + d in
    d ≡ a.z.w * down_count a.k.s a.z.h l.i → Counted a.k.s a.z.w a.z.h n (l.i + 1) × (n ≤ 6 * 262144)
more c d e =
    let l = c.loop-i in
    let z = c.args.z in
    let g = c.requires.0.size in
    let o = counted_more c.args.k.s z.w z.h l.count l.i c.take_row-count.result d g.down l.invariant.counted (omega arith) c.take_row-count.ensures.count e in
    (o.0, omega (arith, o.1, g.area))

pub overflow_add-count : goal.overflow_add-count
overflow_add-count c = omega (arith, (more (goal.at.overflow_add-count c).After-take_row-count _ refl).1)

-- the row is as long as the frame is wide
wide : (c : After-down-count) → length c.take_row-count.new.row ≡ c.args.z.w
wide c = search rules

-- what goes down the columns is counted
down : (c : After-down-count) → let a = c.args in c.down-count.result ≡ a.z.w * down_count a.k.s a.z.h c.loop-i.i
down c =
    let i = c.loop-i.invariant in
    rw (wide c, i.radius, i.rows) at c.down-count.ensures.count

pub overflow_add-count-in-loop-i : goal.overflow_add-count-in-loop-i
overflow_add-count-in-loop-i c =
    let s = goal.at.overflow_add-count-in-loop-i c in
    omega (arith, (more s.After-take_row-count _ (down s.After-down-count)).1)

-- the minima that come out of the columns, from step s on
mins : (c : After-down-count) → let a = c.args in let i = c.loop-i.i in let z = described a.z in a.k.s ≤ i
    → RowIs c.down-count.new.out (λ r x. windowed min (λ u. least_along z a.k.s a.mask.now a.frame.now u x) a.k.s z.h r) (i - a.k.s) z.w
mins c le =
    let i = c.loop-i.invariant in
    (rw (wide c, i.radius, i.rows) at c.down-count.ensures.mins) _ i.columns c.take_row-count.ensures.mins le

pub give_row-requires-clause-good_size : goal.give_row-requires-clause-good_size
give_row-requires-clause-good_size c =
    let g = c.requires.0 in
    (g.size, omega arith, omega (arith, roomy (described c.args.z), g.space), g.shown, search rules, omega arith, omega arith)

pub give_row-requires-clause-w_in_bounds : goal.give_row-requires-clause-w_in_bounds
give_row-requires-clause-w_in_bounds c =
    let a = c.args in
    let l = c.loop-i in
    let z = described a.z in
    let m = mins (goal.at.give_row-requires-clause-w_in_bounds c).After-down-count in (
      search rules,
      λ le. out_le z a.k.s a.mask.now a.frame.now (λ i. omega (arith, c.type_inv.frame i)) _ (l.i - a.k.s) (omega arith) (m le),
      hits_below (lane (level_at z a.k.s a.mask.now a.frame.now)) ((l.i - a.k.s) * a.z.w) l.apart l.invariant.given.counts,
    )

pub loop-i-preserved : goal.loop-i-preserved
loop-i-preserved c =
    let i = c.loop-i.invariant in
    let a = c.args in
    let z = described a.z in
    let s = goal.at.loop-i-preserved c in
    record {
      rows = c.down-count.ensures.kept.0 ∙ i.rows;
      radius = c.down-count.ensures.kept.1 ∙ i.radius;
      columns = (rw (wide s.After-down-count, i.radius, i.rows) at c.down-count.ensures.state) _ i.columns c.take_row-count.ensures.mins;
      given =
          c.give_row.ensures (level_at z a.k.s a.mask.now a.frame.now) a.work.now i.given
          (λ le. level_is z a.k.s a.mask.now a.frame.now (λ i. omega (arith, c.type_inv.frame i)) _ (c.loop-i.i - a.k.s) (omega arith) (mins s.After-down-count le));
      counted = (more s.After-take_row-count _ (down s.After-down-count)).0;
    }

pub returns : goal.returns
returns c =
    let l = c.loop-i in
    let a = c.args in
    let e : l.i - a.k.s ≡ a.z.h = omega arith in
    record {
      dark = dark_all a.z a.k a.mask.now a.frame.now a.work.now l.work l.apart l.tops (rw e at l.invariant.given);
      rest = l.invariant.given.rest;
      count = counted_all (described a.z) a.k.s l.count l.i c.requires.0.size.down l.invariant.counted (omega arith);
    }
