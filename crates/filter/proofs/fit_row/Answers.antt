-- `filter::fit_row` meets its contract. The loop's invariant is the contract at i pixels. Assumes nothing.
use mathlib.Core.Path.{◌≡◌, ap, ◌∙◌}
use mathlib.Core.List.{List}
use Prim.Native.Nat.{ℕ, ◌+◌}
use native.Mathlib.Nat.{zero-add}
use lib.ListN.{length, get_or}
use native.Mathlib.Omega.{arith}
use Rattle.filter.specs.Row.{flat_line, row_line}
use Rattle.filter.proofs.Rows.{row_turn, hidden_line, read_moments, read_line}
use Rattle.filter.proofs.fit_row.Goals as goal
use Rattle.filter.proofs.fit_row.Goals.{then-mask-i-eq0, else-mask-i-eq0}

-- the pixel's byte in the part
here : (mask : List ℕ) (i : ℕ) → get_or mask (0 + i) 0 ≡ get_or mask i 0
here mask i = ap (λ (k : ℕ). get_or mask k 0) (zero-add i)

pub fit_pixel-requires : goal.fit_pixel-requires
fit_pixel-requires c =
    let g = c.requires.0 in
    let i = c.loop-i.i in
    let less = c.loop-i-test.true in
    let shown : get_or c.args.mask.now (0 + i) 0 ≡ 0 → ⊥ = λ z. c.if-mask-i-eq0.false (omega (arith, z, here c.args.mask.now i)) in
    (omega (arith, g.apart, g.room, c.loop-i.auto.work), omega (arith, g.room, c.loop-i.auto.work), read_moments g i less shown, g.over i less, c.requires.1, c.requires.2)

-- a line more stands there: of a hidden pixel none, of a seen one that of its sums
pub loop-i-preserved : goal.loop-i-preserved
loop-i-preserved c =
    let a = c.args in
    let w = c.loop-i in
    let g = c.requires.0 in
    let less = c.loop-i-test.true in
    let F = row_line a.sums.now.first a.sums.now.second a.sizes.now.ns a.e a.mask.now 0 in
    let turn = row_turn a.work.now w.work a.slopes a.offsets (length a.mask.now) w.i F g.apart (omega (arith, g.room, w.auto.work)) less w.invariant c.if-mask-i-eq0.work in
    elim c.if-mask-i-eq0.branch [
      | then-mask-i-eq0 k ↦
          turn flat_line (hidden_line a.sums.now.first a.sums.now.second a.sizes.now.ns a.e a.mask.now 0 w.i (omega (arith, k.if-mask-i-eq0.true, here a.mask.now w.i))) (k.work-is ∙ k.put_line.ensures) (omega arith, omega arith)
      | else-mask-i-eq0 k ↦
          turn _ (read_line g w.i less (λ z. k.if-mask-i-eq0.false (omega (arith, z, here a.mask.now w.i))) a.e) (k.work-is ∙ k.fit_pixel.ensures.line) k.fit_pixel.ensures.small
    ]
