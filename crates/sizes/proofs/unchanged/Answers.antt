-- `sizes::unchanged` meets its contract. Assumes nothing.
use Prim.Native.Nat.{◌+◌, ◌-◌, ◌<◌}
use mathlib.Core.Path.{sym, ◌∙◌}
use native.Mathlib.Omega.{arith}
use borrow.Author.Tests.{ltb-true}
use Rattle.sizes.proofs.Bits.{alike_rows}
use Rattle.sizes.proofs.unchanged.Goals as goal
use Rattle.sizes.proofs.unchanged.Goals.{then-r-y, else-r-y}

pub returns-then-y-r : goal.returns-then-y-r
returns-then-y-r c t =
    let a = c.args in
    let above : a.r < a.y = elim c.if-r-y.branch [ then-r-y w ↦ w.if-r-y.true | else-r-y w ↦ ltb-true _ _ (sym w.value-is ∙ c.if-y-r.true) ] in
    let below : a.y + a.r < a.v.h = elim c.if-r-y.branch [ then-r-y w ↦ omega (arith, ltb-true _ _ (sym w.value-is ∙ c.if-y-r.true)) | else-r-y w ↦ absurd (omega (arith, above)) ] in
    record {
      above = above;
      below = below;
      slid = alike_rows a.b a.mask.now (a.y + a.r) (a.y - a.r - 1) _ _ a.v.w c.row_start.ensures.0 c.row_start-then-y-r.ensures.0 (λ z. c.alike.ensures t);
    }
