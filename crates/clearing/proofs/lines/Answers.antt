-- `clearing::lines` meets its contract: the samples of the box, then the lines that fit them. Assumes nothing.
use mathlib.Core.Path.{sym}
use Prim.Native.Nat.{◌+◌, ◌*◌}
use Rattle.rules.specs.Box.{part}
use Rattle.planes.proofs.Shown.{given_in}
use Rattle.rules.specs.Transmission.{sample}
use Rattle.planes.specs.View.{box_of}
use Rattle.planes.specs.Stage.{box_seen, box_pixels}
use native.Mathlib.Omega.{arith}
use Rattle.clearing.proofs.Fresh.{same_after, lines_fit}
use Rattle.clearing.proofs.lines.Goals as goal

pub fit-requires : goal.fit-requires
fit-requires c =
    let g = c.requires.given_view in
    let p = c.prepare-count in
    let k = g.0.settings in record { in_plane = (g.1, record { box = given_in g.0; wide = sym g.2; tall = sym g.3; bytes = g.0.shown }, k.r_most, k.e_some, k.e_most); sampling = (record { S = sample (box_of c.args.v) c.args.k c.args.a (box_pixels c.args.v c.args.mask.now c.args.frame.now); sampled = rw (g.2, g.3) p.ensures.samples }, rw (g.2, g.3) (omega (arith, c.requires.tall_in_bounds, p.auto.work))) }

pub returns : goal.returns
returns c =
    let f = c.fit in
    let p = c.prepare-count in
    let d = c.args in
    let g = c.requires.given_view in
    let n = 2 * (d.v.wide * d.v.tall) + 2 * (d.p.wide * d.p.tall) in record {
      lines = lines_fit f.new.work d.v d.p d.k d.a (part d.p.top d.p.left (box_seen d.v d.mask.now)) (box_pixels d.v d.mask.now d.frame.now) g.2 g.3 (f.ensures.lines _ (rw (g.2, g.3) p.ensures.samples));
      rest = same_after d.work.now p.new.work f.new.work (2 * (d.v.wide * d.v.tall)) (2 * (d.p.w * d.p.h) + 2 * (d.p.wide * d.p.tall)) n
          p.ensures.rest f.ensures.rest (omega arith) (rw (g.2, g.3) (omega arith));
      count = p.ensures.count;
    }
