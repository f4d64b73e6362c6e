-- `coarse::prepare` meets its contract. The loop's invariant is `Going`: the columns have taken i rows, i - s rows of samples stand in the work area, and
-- the comparisons so far are counted. Assumes nothing.
use mathlib.Core.Path.{◌≡◌, refl, ◌∙◌}
use Prim.Native.Nat.{ℕ, ◌+◌, ◌-◌, ◌*◌, ◌≤◌, min}
use native.Mathlib.Nat.{mul-le-mul, zero-sub}
use native.Mathlib.Omega.{arith}
use lib.ListN.{length}
use Rattle.std.proofs.Common.{rules}
use Rattle.rules.specs.Transmission.{sample}
use Rattle.planes.specs.View.{box_of}
use Rattle.planes.specs.Stage.{box_pixels}
use Rattle.windows.specs.Span.{windowed}
use Rattle.columns.specs.Down.{RowIs, down_count}
use Rattle.columns.proofs.Counted.{Counted, counted_none, counted_more, counted_all}
use Rattle.columns.proofs.Steps.{down_start}
use Rattle.coarse.specs.Rows.{least_along}
use Rattle.coarse.proofs.Minima.{ratio_le, sample_by}
use Rattle.coarse.proofs.Planes.{sampled_none}
use Rattle.coarse.proofs.Going.{samples_end}
use Rattle.coarse.proofs.prepare.Goals as goal
use Rattle.coarse.proofs.prepare.Goals.{After-down-count, After-take_row-count}

pub loop-i-init : goal.loop-i-init
loop-i-init c = record { rows = refl; radius = refl; columns = down_start _ _ _ _ _ _; samples = rw zero-sub (sampled_none _ _ _ _); counted = counted_none _ _ _ }

-- the comparisons so far, with n down the columns
more : (c : After-take_row-count) (n : ℕ) → let d = c.args in let l = c.loop-i in let e = l.count + c.take_row-count.result + n in
    n ≡ d.v.wide * down_count d.k.s d.v.tall l.i → Counted d.k.s d.v.wide d.v.tall e (l.i + 1) × (e ≤ 6 * (1024 * 1024))
more c n e =
    let v = c.args.v in
    let g = c.requires.given_view in
    let l = c.loop-i in
    let m : v.wide * v.tall ≤ 1024 * 1024 = mul-le-mul {n₂ = 1024} {m₂ = 1024} (omega arith) (omega arith) in
    let o =
    counted_more c.args.k.s v.wide v.tall l.count l.i c.take_row-count.result n g.down l.invariant.counted (omega arith) c.take_row-count.ensures.count e in
    (o.0, omega (arith, o.1))

pub overflow_add-count : goal.overflow_add-count
overflow_add-count c = omega (arith, (more (goal.at.overflow_add-count c).After-take_row-count _ refl).1)

-- the row is as long as the box is wide
wide : (c : After-down-count) → length c.take_row-count.new.row ≡ c.args.v.wide
wide c = search rules

-- what goes down the columns is counted
down : (c : After-down-count) → let d = c.args in c.down-count.result ≡ d.v.wide * down_count d.k.s d.v.tall c.loop-i.i
down c =
    let i = c.loop-i.invariant in
    rw (wide c, i.radius, i.rows) at c.down-count.ensures.count

pub overflow_add-count-in-loop-i : goal.overflow_add-count-in-loop-i
overflow_add-count-in-loop-i c =
    let a = goal.at.overflow_add-count-in-loop-i c in
    omega (arith, (more a.After-take_row-count _ (down a.After-down-count)).1)

-- the minima that come out of the columns, from step s on
mins : (c : After-down-count) → let d = c.args in let i = c.loop-i.i in d.k.s ≤ i
    → RowIs c.down-count.new.out (λ r x. windowed min (λ u. least_along d.v d.a d.k.s d.mask.now d.frame.now u x) d.k.s d.v.tall r) (i - d.k.s) d.v.wide
mins c le =
    let i = c.loop-i.invariant in
    (rw (wide c, i.radius, i.rows) at c.down-count.ensures.mins) _ i.columns c.take_row-count.ensures.mins le

pub give_row-requires-clause-wide_in_bounds : goal.give_row-requires-clause-wide_in_bounds
give_row-requires-clause-wide_in_bounds c =
    let d = c.args in
    let a = (goal.at.give_row-requires-clause-wide_in_bounds c).After-down-count in
    (search rules, λ le. ratio_le d.v d.k d.a d.mask.now d.frame.now _ (c.loop-i.i - d.k.s) (omega arith) (mins a le))

pub loop-i-preserved : goal.loop-i-preserved
loop-i-preserved c =
    let i = c.loop-i.invariant in
    let d = c.args in
    let a = goal.at.loop-i-preserved c in
    record {
      rows = c.down-count.ensures.kept.0 ∙ i.rows;
      radius = c.down-count.ensures.kept.1 ∙ i.radius;
      columns = (rw (wide a.After-down-count, i.radius, i.rows) at c.down-count.ensures.state) _ i.columns c.take_row-count.ensures.mins;
      samples =
          c.give_row.ensures d.work.now (sample (box_of d.v) d.k d.a (box_pixels d.v d.mask.now d.frame.now)) i.samples
          (λ le. sample_by d.v d.k d.a d.mask.now d.frame.now _ (c.loop-i.i - d.k.s) (omega arith) (mins a.After-down-count le));
      counted = (more a.After-take_row-count _ (down a.After-down-count)).0;
    }

pub returns-clause-samples : goal.returns-clause-samples
returns-clause-samples c =
    let l = c.loop-i in
    let d = c.args in
    samples_end d.v d.k d.a d.mask.now d.frame.now d.work.now l.work (l.i - d.k.s) (omega arith) (λ i. omega (arith, c.type_inv.frame i)) (omega arith)
    l.invariant.samples

pub returns-clause-count : goal.returns-clause-count
returns-clause-count c = counted_all (box_of c.args.v) _ _ _ c.requires.given_view.down c.loop-i.invariant.counted (omega arith)
