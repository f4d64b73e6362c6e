-- `writer::write_picture` meets its contract: after y turns the first y rows are in the picture. Assumes nothing.
use mathlib.Core.Path.{◌≡◌, ◌∙◌}
use Prim.Native.Nat.{ℕ, ◌-◌, ◌*◌, ◌≤◌, ◌<◌}
use native.Mathlib.Omega.{arith}
use lib.ListN.{length, get_or, replicate, length-replicate, get_or-replicate}
use lib.Seq.{length-take-le}
use Rattle.planes.specs.View.{whole, rect_of}
use Rattle.planes.proofs.Tails.{rest, rest_at}
use Rattle.writer.specs.Row.{Known, floored_at}
use Rattle.writer.proofs.Rows.{bytes_none, bytes_more, upto_bytes}
use Rattle.writer.proofs.Recovered.{row_floored, row_bytes}
use Rattle.writer.proofs.write_picture.Goals as goal

-- no scale is known yet
known_none : Known (replicate 10001 0)
known_none = record { long = length-replicate {A = ℕ} 10001 0; is = λ t h l. absurd (none t h l) }
  where
    none : (t : ℕ) → t ≤ 10000 → 0 < get_or (replicate 10001 0) t 0 → ⊥
    none t h l = omega (arith, get_or-replicate {A = ℕ} 10001 t 0 0 (omega arith))

pub loop-y-init : goal.loop-y-init
loop-y-init c = record { written = bytes_none c.args.to.w (rect_of c.args.to) _ _; known = known_none }

pub loop-y-preserved : goal.loop-y-preserved
loop-y-preserved c =
    let d = c.args in
    let l = c.loop-y in
    let less : l.y < d.to.tall = c.loop-y-test.true in
    let from = c.row_start-from.result in
    let i = c.requires.in_plane in
    let row = c.row_start-from.ensures in
    let across = i.0.fits.columns in
    -- the row's entries are transmissions
    let held : (k : ℕ) → k < d.to.wide → get_or (rest d.map.now from) k 0 ≤ 10000 =
    λ k h. rw (rest_at d.map.now from k 0, row.0) (i.4.most l.y k less h) in
    let full : length c.scale_row.new.scales ≡ d.to.wide = c.scale_row.auto.scales ∙ length-take-le d.to.wide l.scales (omega (arith, i.0.short)) in
    let run =
    row_bytes d.t0 d.map.now (whole d.to) d.a d.frame.now from d.to.wide _ c.recover_row.new.picture
    (rw full at (c.recover_row.ensures (floored_at (rest d.map.now from) d.t0) (rw full (row_floored d.t0 d.map.now from d.to.wide i.1 i.2 held)) (rw c.scale_row.auto.scales c.scale_row.ensures.scales))) in
    let long : length l.picture ≡ 3 * (d.to.w * d.to.h) = l.auto.picture ∙ c.requires.frame_len.1 in record {
      written =
          bytes_more d.to.w (rect_of d.to) (omega (arith, across, i.0.across)) across l.y _ d.picture.now l.picture c.recover_row.new.picture (3 * from) (length l.picture - 3 * from)
          l.invariant.written (omega (arith, row.0)) run (omega (arith, row.1, long)) (omega (arith, row.1, long));
      known = c.scale_row.ensures.known;
    }

pub returns : goal.returns
returns c =
    let d = c.args in
    let l = c.loop-y in
    let e : l.y ≡ d.to.tall = omega arith in
    upto_bytes (whole d.to) (rect_of d.to) _ d.picture.now l.picture c.requires.frame_len.1 (rw e at l.invariant.written)
