-- `coarse::ratio_row` meets its contract. The loop's invariant is the contract at x pixels. Assumes nothing.
use mathlib.Core.Path.{ap, ◌∙◌}
use mathlib.Core.Bool.{cond}
use Prim.Native.Nat.{ℕ}
use native.Mathlib.Omega.{arith}
use Rattle.rules.specs.Transmission.{least_ratio}
use Rattle.planes.specs.Stage.{seen_at, masked_at}
use Rattle.coarse.specs.Rows.{ratio_at}
use Rattle.coarse.proofs.Rows.{row_more}
use Rattle.coarse.proofs.ratio_row.Goals as goal

pub loop-x-preserved : goal.loop-x-preserved
loop-x-preserved c =
    let l = c.loop-x in
    let d = c.args in
    row_more (λ i. ratio_at d.a (masked_at d.mask.now d.frame.now i)) l.row l.x _ (omega arith)
    (c.seen_or.ensures ∙ ap (λ (i : ℕ). cond (seen_at d.mask.now l.x) i 10000) (c.least_ratio-ratio.ensures ∙ ap (least_ratio d.a) c.pixel_at.ensures))
    l.invariant
