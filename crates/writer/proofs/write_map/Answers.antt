-- `writer::write_map` meets its contract: after y turns the first y rows are in the map. Assumes nothing.
use mathlib.Core.Path.{◌≡◌, ap₂, ◌∙◌}
use Prim.Native.Nat.{ℕ, ◌+◌, ◌-◌, ◌*◌, ◌≤◌}
use native.Mathlib.Omega.{arith}
use mathlib.Core.List.{List}
use lib.ListN.{length, take, drop, length-drop}
use lib.Seq.{length-take-le}
use Rattle.rules.specs.Buffers.{pixels}
use Rattle.planes.specs.View.{whole, rect_of, row_start}
use Rattle.planes.specs.Stage.{box_seen}
use Rattle.planes.proofs.Tails.{rest}
use Rattle.sums.specs.Sum.{Summable}
use Rattle.writer.proofs.Runs.{run_to}
use Rattle.writer.proofs.Rows.{entries_none, entries_more, upto_entries}
use Rattle.writer.proofs.Sliding.{slopes_summable, offsets_summable}
use Rattle.writer.proofs.Refined.{windows, row_entries, map_held}
use Rattle.writer.proofs.write_map.Goals as goal
use Rattle.writer.proofs.write_map.Goals.{After-row_start-p, Start}

-- slopes and offsets can be summed
slopes_given : (s : Start) → let d = s.args in Summable (rest d.work.now d.lines) d.v d.r
slopes_given s =
    let d = s.args in
    let l = s.requires.map_len.2 in
    slopes_summable d.v d.r d.work.now d.lines (box_seen d.b d.mask.now) l.F l.lined s.requires.in_plane.1 s.requires.in_plane.4

offsets_given : (s : Start) → let d = s.args in Summable (rest d.work.now (d.lines + d.v.w * d.v.h)) d.v d.r
offsets_given s =
    let d = s.args in
    let l = s.requires.map_len.2 in
    offsets_summable d.v d.r d.work.now d.lines (box_seen d.b d.mask.now) l.F l.lined s.requires.in_plane.1 s.requires.in_plane.4

pub begin-requires-2 : goal.begin-requires-2
begin-requires-2 c =
    let s = (goal.at.begin-requires-2 c).Start in
    (slopes_given s, offsets_given s, c.new-sums.ensures.blank.0, c.new-sums.ensures.blank.1)

pub loop-y-init : goal.loop-y-init
loop-y-init c =
    let d = c.args in
    record { written = λ F lined. entries_none d.to.w (rect_of d.to) _ _; sums = c.begin-2.ensures.before; sizes = c.begin.ensures.before }

pub next-requires-clause-summable : goal.next-requires-clause-summable
next-requires-clause-summable c =
    let s = (goal.at.next-requires-clause-summable c).Start in
    (slopes_given s, offsets_given s, c.loop-y-test.true)

-- the row lies in the map
place : (c : After-row_start-p) →
    let d = c.args in
    let from = c.row_start-p.result in
    (from ≡ row_start d.to c.loop-y.y)
    × (from + d.to.wide ≤ d.to.w * d.to.h)
    × (d.v.wide ≡ d.to.wide)
    × (length c.loop-y.map ≡ d.to.w * d.to.h)
    × (length d.frame.now ≡ 3 * (d.to.w * d.to.h))
    × (length d.mask.now ≡ d.to.w * d.to.h)
place c =
    let area = ap₂ (λ (i j : ℕ). i * j) c.requires.in_plane.6.w c.requires.in_plane.6.h in
    (c.row_start-p.ensures.0, c.row_start-p.ensures.1, c.requires.in_plane.2, c.loop-y.auto.map ∙ c.requires.map_len.0, c.requires.map_len.1, c.requires.in_plane.5.bytes ∙ area)

-- as long as the part that it is written through
part_long : (l : List ℕ) (a n : ℕ) → a + n ≤ length l → length (take (a + n - a) (drop a l)) ≡ n
part_long l a n h = length-take-le (a + n - a) (drop a l) (simp length-drop (omega arith)) ∙ omega arith

pub refine_row-requires : goal.refine_row-requires
refine_row-requires c =
    let d = c.args in
    let l = c.loop-y in
    let t = (goal.at.refine_row-requires c).After-row_start-p in
    let p = place t in
    let long = part_long l.map c.row_start-p.result d.v.wide (omega (arith, p)) in
    let lines = c.requires.map_len.2 in (
      omega (arith, p, long),
      omega (arith, p, long),
      rw long (windows d.b d.v d.r l.y d.mask.now d.work.now d.lines c.next.new.self c.resize.new.self c.next.ensures.about c.resize.ensures.about lines.F lines.lined
          c.requires.in_plane.1 c.requires.in_plane.4 c.loop-y-test.true),
    )

pub loop-y-preserved : goal.loop-y-preserved
loop-y-preserved c =
    let d = c.args in
    let v = d.v in
    let l = c.loop-y in
    let t = (goal.at.loop-y-preserved c).After-row_start-p in
    let p = place t in
    let from = c.row_start-p.result in
    let m = c.next in
    let n = c.resize in
    let i = c.requires.in_plane in
    let long = part_long l.map from v.wide (omega (arith, p)) in
    let across : d.to.left + d.to.wide ≤ d.to.w = i.0.fits.columns in record {
      written = λ F lined.
          entries_more d.to.w (rect_of d.to) (omega (arith, across, i.0.across)) across l.y _ d.map.now l.map c.refine_row.new.map from (from + v.wide - from) (l.invariant.written F lined) p.0
          (row_entries d.b v d.r l.y d.mask.now d.work.now d.lines m.new.self n.new.self c.next.ensures.about c.resize.ensures.about F lined i.1 i.4 c.loop-y-test.true d.to across i.2 i.6
          d.frame.now from _ c.refine_row.new.map p.0 (run_to _ _ long c.refine_row.ensures))
          (omega (arith, p)) (omega (arith, p));
      sums = m.ensures.before;
      sizes = n.ensures.before;
    }

pub returns : goal.returns
returns c =
    let d = c.args in
    let l = c.loop-y in
    let lines = c.requires.map_len.2 in
    let e : l.y ≡ d.to.tall = omega (arith, c.requires.in_plane.3) in record {
      map = λ F lined. upto_entries (whole d.to) (rect_of d.to) _ d.map.now l.map c.requires.map_len.0 (rw e at (l.invariant.written F lined));
      held = map_held d.to d.v d.r (pixels (whole d.to) d.frame.now) lines.F d.map.now l.map c.requires.in_plane.0 c.requires.map_len.0 (rw e at (l.invariant.written lines.F lines.lined));
    }
