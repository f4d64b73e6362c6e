-- `sums::SquareSums::next` meets its contract: both planes' columns go on by a row, and the sums along them are those over the squares. Assumes nothing.
use Prim.Native.Nat.{◌+◌}
use native.Mathlib.Omega.{arith}
use Rattle.sums.proofs.Strips.{summable_small, spannable, along}
use Rattle.sums.proofs.SquareSums.next.Goals as goal

pub across-requires : goal.across-requires
across-requires c =
    let p = c.requires.summable.0 in
    let short = p.in_plane.short in (
      spannable (summable_small p) c.advance.ensures (omega arith),
      spannable (summable_small c.requires.summable.1) c.advance-2.ensures (omega arith),
      omega (arith, p.r_most),
      omega (arith, p.r_most, p.in_plane.fits.columns, short),
      omega (arith, p.in_plane.fits.columns, short),
      omega (arith, p.in_plane.fits.columns, short),
    )

pub returns-clause-about : goal.returns-clause-about
returns-clause-about c =
    let v = c.args.v in
    let i = c.requires.summable.0.in_plane in
    let p = i.fits.columns in
    let short = i.short in
    let e = c.across.ensures in record {
      first = along v.w v.h c.args.r (v.top + c.args.y) v.left _ v.wide c.advance.ensures p (omega arith) e.0;
      second = along v.w v.h c.args.r (v.top + c.args.y) v.left _ v.wide c.advance-2.ensures p (omega arith) e.1;
      first_long = omega (arith, c.across.auto.out);
      second_long = omega (arith, c.across.auto.second);
    }
