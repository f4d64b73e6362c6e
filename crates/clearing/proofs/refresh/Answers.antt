-- `clearing::refresh` meets its contract: what is written by way of the lines is the frame's. Assumes nothing.
use mathlib.Core.Path.{refl, ◌∙◌}
use Prim.Native.Nat.{◌+◌, ◌*◌, ◌≤◌}
use native.Mathlib.Omega.{arith}
use Rattle.rules.specs.Shape.{described, room}
use Rattle.rules.specs.Buffers.{masked}
use Rattle.rules.specs.Promise.{wiped}
use Rattle.planes.proofs.Wiped.{wiped_same}
use Rattle.clearing.proofs.Fresh.{box_lines, planes_le, rect_view, lines_view, entries_view, entries_framed, entries_placed, box_given, lines_left, map_left, picture_left}
use Rattle.clearing.proofs.refresh.Goals as goal
use Rattle.clearing.proofs.refresh.Goals.{Start}

room_for : (s : Start) → 2 * (s.args.f.w * s.args.f.h) + 2 * (s.args.p.w * s.args.p.h) ≤ room (described s.args.z)
room_for s = planes_le (described s.args.z) s.args.f s.args.p s.requires.given.1.box s.requires.given.1.part

pub lines-count-requires : goal.lines-count-requires
lines-count-requires c =
    let d = c.args in
    let z = described d.z in
    let g = c.requires.given.0 in
    let n = c.requires.given.1 in
    rw (c.view.ensures, c.within.ensures) (record {
      given_view = (box_given g n, lines_view g n, refl, refl);
      tall_in_bounds = omega (arith, room_for (goal.at.lines-count-requires c).Start, c.requires.loan.space);
    })

pub write_map-requires : goal.write_map-requires
write_map-requires c =
    let d = c.args in
    let z = described d.z in
    let g = c.requires.given.0 in
    let n = c.requires.given.1 in
    let l = c.lines-count in
    let v = c.view in
    let w = c.within in
    rw (c.view-to.ensures, c.view-2.ensures, c.within-2.ensures) (record {
      in_plane = (
        rect_view g n,
        entries_view g n,
        refl,
        refl,
        g.settings.r_most,
        entries_framed g n,
        entries_placed g n,
      );
      map_len = (
        c.requires.loan.entries,
        g.bytes,
        record {
          F = box_lines d.a (masked z d.mask.now d.frame.now) n;
          lined = lines_left g n l.new.work v.result w.result v.ensures w.ensures l.ensures.lines;
        },
      );
    })

pub write_picture-requires : goal.write_picture-requires
write_picture-requires c =
    let d = c.args in
    let z = described d.z in
    let g = c.requires.given.0 in
    let n = c.requires.given.1 in
    let m = c.write_map in
    let t = c.view-to in record {
      in_plane = (rw t.ensures (rect_view g n), g.settings.floor_some, g.settings.floor_most, rw t.ensures (m.auto.map ∙ c.requires.loan.entries), m.ensures.held);
      frame_len = rw t.ensures (g.bytes, c.requires.loan.bytes);
    }

pub returns : goal.returns
unfolding wiped
returns c =
    let d = c.args in
    let z = described d.z in
    let g = c.requires.given.0 in
    let n = c.requires.given.1 in
    let l = c.lines-count in
    let t = c.view-to in
    let b = c.view in
    let w = c.within in
    let o = c.view-2 in
    let v = c.within-2 in
    let m = c.write_map in
    let x = c.write_picture in
    let lined = lines_left g n l.new.work b.result w.result b.ensures w.ensures l.ensures.lines in
    let written = m.ensures.map (box_lines d.a (masked z d.mask.now d.frame.now) n) (rw (o.ensures, v.ensures) lined) in
    let map = map_left g n t.result v.result t.ensures v.ensures d.map.now m.new.map written in record {
      map = map;
      picture = picture_left g n t.result t.ensures d.map.now m.new.map d.picture.now x.new.picture map x.ensures;
      work = c.wipe.ensures
          ∙ wiped_same z d.work.now l.new.work (2 * (d.f.w * d.f.h) + 2 * (d.p.w * d.p.h)) l.auto.work (room_for (goal.at.returns c).Start) (rw (b.ensures, w.ensures) at l.ensures.rest);
      count = rw b.ensures at l.ensures.count;
    }
