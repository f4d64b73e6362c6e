-- `light::give_row` meets its contract: before step s no row is given, and from it on row i - s is. Assumes nothing.
use mathlib.Core.Path.{◌≡◌, ap, ◌∙◌}
use Prim.Native.Nat.{ℕ, ◌+◌, ◌-◌, ◌*◌, ◌<◌}
use native.Mathlib.Omega.{arith}
use lib.ListN.{length, get_or, drop}
use Rattle.std.proofs.lemmas.List.{get_or-take, get_or-drop}
use Rattle.rules.specs.Shape.{described}
use Rattle.light.specs.Steps.{level_by}
use Rattle.light.proofs.Areas.{dark_more}
use Rattle.light.proofs.give_row.Goals as goal

pub returns : goal.returns
returns c D l was given =
    let a = c.args in
    let y = a.i - a.s in
    let e : a.i + 1 - a.s ≡ y + 1 = omega arith in
    let wide : length c.level_row.new.levels ≡ a.z.w = omega arith in
    let levels : (x : ℕ) → x < a.z.w → get_or c.level_row.new.levels x 0 ≡ D (y * a.z.w + x) =
    λ x h.
    c.level_row.ensures x (omega arith)
    ∙ ap (λ (m : ℕ). level_by m (get_or a.d.now x 0)) (get_or-take _ (drop (y * a.z.w) a.mask.now) x 0 (omega arith) ∙ get_or-drop (y * a.z.w) a.mask.now x 0)
    ∙ given (omega arith) x h
    in
    rw e
    (dark_more (described a.z) D l a.work.now _ a.apart.now _ a.tops.now y (λ x. get_or c.level_row.new.levels x 0) _ (omega arith) levels was (rw wide at c.store_row.ensures)
    ((rw wide at c.tally_row.ensures) D was.counts levels) (omega arith) (rw wide at c.greatest.ensures))
