-- `coarse::give_row` meets its contract: before step s no row is written, and from it on row i - s is. Assumes nothing.
use mathlib.Core.Path.{◌≡◌, refl, sym, ap, ◌∙◌}
use Prim.Native.Nat.{◌+◌, ◌-◌}
use native.Mathlib.Omega.{arith}
use lib.ListN.{length, get_or}
use Rattle.rules.specs.declared.Rgb.{Rgb}
use Rattle.rules.specs.Window.{Shown}
use Rattle.coarse.specs.Rows.{sample_of}
use Rattle.coarse.proofs.Rows.{puts_as}
use Rattle.coarse.proofs.Minima.{pixel_of}
use Rattle.coarse.proofs.Planes.{sampled_more}
use Rattle.coarse.proofs.give_row.Goals as goal

pub returns : goal.returns
returns c l S was given =
    let d = c.args in
    let y = d.i - d.s in
    let e : d.i + 1 - d.s ≡ y + 1 = omega arith in
    let wide : length d.d.now ≡ d.v.wide = c.requires.wide_in_bounds.0 in
    rw e
    (sampled_more d.v.wide d.v.tall S l d.work.now _ y (omega arith) was
    (puts_as _ _ _ _ _ (S y) d.v.wide
    (λ x h.
    given (omega arith) x h
    ∙ ap (λ (i : Shown Rgb). sample_of d.omega i (get_or d.d.now x 0)) (sym (pixel_of d.v d.mask.now d.frame.now y _ _ _ _ x c.row_start-from.ensures.0 refl (omega arith) (omega arith))))
    (rw wide at c.sample_row.ensures)))
