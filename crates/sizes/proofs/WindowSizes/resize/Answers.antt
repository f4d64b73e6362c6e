-- `sizes::WindowSizes::resize` meets its contract: the sizes and reciprocals are worked out, or they are those of the row before, as the columns are. Assumes nothing.
use Prim.Native.Nat.{◌+◌, ◌-◌, ◌*◌, ◌≤◌, ◌<◌}
use lib.ListN.{length}
use mathlib.Core.Path.{◌≡◌, refl}
use native.Mathlib.Omega.{arith}
use Rattle.planes.specs.Stage.{box_seen}
use Rattle.sums.proofs.Strips.{readable_small, spannable}
use Rattle.sizes.proofs.Bits.{readable}
use Rattle.sizes.proofs.Rows.{still}
use Rattle.sizes.proofs.Before.{before_next}
use Rattle.sizes.proofs.Spanned.{counts, countable, sizes_all, sizes_same}
use Rattle.sizes.proofs.WindowSizes.resize.Goals as goal
use Rattle.sizes.proofs.WindowSizes.resize.Goals.{Start}

-- the row lies in the plane
inside : (s : Start) → s.args.v.top + s.args.y < s.args.v.h
inside s = omega (arith, s.requires.in_plane.0.fits.rows, s.requires.in_plane.3)

pub returns-then-unchanged : goal.returns-then-unchanged
returns-then-unchanged c =
    let a = c.args in
    let v = a.v in
    let before = c.requires.before in
    let old = before.sizes c.if-y-gt0.true in
    let next = still (c.unchanged.ensures c.if-unchanged.true) before.columns in
    let e : v.top + a.y ≡ v.top + (a.y - 1) + 1 = omega (arith, c.if-y-gt0.true) in
    let sizes =
    sizes_same (box_seen a.b a.mask.now) c.requires.in_plane.0 e (inside (goal.at.returns-then-unchanged c).Start) before.columns next old.sizes in
    record {
      before = before_next a.y next sizes old.ns_long old.inverses_long;
      about = record { sizes = sizes; ns_long = old.ns_long; inverses_long = old.inverses_long };
    }

pub size_row-requires : goal.size_row-requires
size_row-requires c =
    let a = c.args in
    let v = a.v in
    let p = c.requires.in_plane.0 in
    let cols = c.advance.ensures in record {
      spannable = (
        spannable (readable_small (readable a.b a.mask.now p c.requires.in_plane.1 c.requires.in_plane.2)) cols (omega arith),
        omega (arith, c.requires.in_plane.2),
        omega (arith, c.requires.in_plane.2, p.fits.columns, p.short),
        omega (arith, p.fits.columns, p.short),
      );
      by_index = λ i q. counts (box_seen a.b a.mask.now) cols (inside (goal.at.size_row-requires c).Start) v.left (2 * a.r + 1) i refl (omega (arith, p.fits.columns));
    }

pub inverse_row-requires : goal.inverse_row-requires
inverse_row-requires c =
    let a = c.args in
    let p = c.requires.in_plane.0 in (
      a.self.now.known,
      countable (box_seen a.b a.mask.now) c.advance.ensures (inside (goal.at.inverse_row-requires c).Start) c.size_row.ensures refl p.fits.columns c.requires.in_plane.2
          (omega (arith, c.size_row.auto.ns, p.fits.columns, p.short)),
      omega (arith, p.fits.columns, p.short),
    )

pub returns : goal.returns
returns c =
    let a = c.args in
    let p = c.requires.in_plane.0 in
    let short = p.short in
    let sizes = sizes_all (box_seen a.b a.mask.now) p c.advance.ensures (inside (goal.at.returns c).Start) refl c.size_row.ensures c.inverse_row.ensures.over in
    let ns : a.v.wide ≤ length c.size_row.new.ns = omega (arith, c.size_row.auto.ns, p.fits.columns) in
    let inverses : a.v.wide ≤ length c.inverse_row.new.inverses = omega (arith, c.inverse_row.auto.inverses, p.fits.columns) in
    record { before = before_next a.y c.advance.ensures sizes ns inverses; about = record { sizes = sizes; ns_long = ns; inverses_long = inverses } }
