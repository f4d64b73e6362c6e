-- Rows of the mask that are seen alike leave the columns as they are. Assumes nothing.
use mathlib.Core.Path.{◌≡◌, sym, ap, ap₂, ◌∙◌}
use mathlib.Core.Bool.{Bool}
use mathlib.Core.List.{List}
use Prim.Native.Nat.{ℕ, ◌+◌, ◌-◌, ◌*◌, ◌≤◌, ◌<◌, min}
use native.Mathlib.Omega.{arith}
use lib.IntN.{ℤ, pos, ◌+ℤ◌, ◌-ℤ◌, +ℤ_invr, +ℤ_idr}
use Rattle.rules.specs.Window.{Plane}
use Rattle.rules.specs.Fold.{Σ}
use Rattle.sums.specs.Sum.{Columns, range_sum}
use Rattle.sums.proofs.Runs.{sum_slide}
use Rattle.sizes.specs.Sizes.{Unchanged, bit}

-- how many rows the squares about row y - 1 have, away from the edges
rows : (h r y : ℕ) → r < y → y + r ≤ h → min h (y + r) - (y - (r + 1)) ≡ 2 * r + 1
rows h r y above below = omega arith

pub still : {M : Plane Bool} {cols : List ℤ} {w h r y : ℕ} → Unchanged M w h r y → Columns cols (λ v u. bit (M v u)) w h r y → Columns cols (λ v u. bit (M v u)) w h r (y + 1)
still {M} {cols} {w} {h} {r} {y} k c = record { long = c.long; before = c.before; is = λ x q. c.is x q ∙ sym (same x q); after = c.after }
  where
    -- the same number of rows, one further down
    same : (x : ℕ) → x < w → range_sum (λ v. bit (M v x)) (y + 1 - (r + 1)) (min h (y + 1 + r)) ≡ range_sum (λ v. bit (M v x)) (y - (r + 1)) (min h (y + r))
    same x q =
        let a = y - r - 1 in
        let n = 2 * r + 1 in
        let top : y + 1 - (r + 1) ≡ y - r - 1 + 1 = omega (arith, k.above) in
        let first : y - (r + 1) ≡ y - r - 1 = omega arith in
        let last : y - r - 1 + (2 * r + 1) ≡ y + r = omega (arith, k.above) in
        ap₂ (λ (p m : ℕ). Σ ◌+ℤ◌ (pos 0) p m (λ v. bit (M v x))) top (rows h r (y + 1) (omega (arith, k.above)) (omega (arith, k.below)))
        ∙ sum_slide a n (λ v. bit (M v x))
        ∙ ap (λ (z : ℤ). Σ ◌+ℤ◌ (pos 0) a n (λ v. bit (M v x)) +ℤ z)
        (ap (λ (p : ℕ). bit (M p x) -ℤ bit (M a x)) last ∙ ap (λ (t : Bool). bit t -ℤ bit (M a x)) (k.slid x q) ∙ +ℤ_invr (bit (M a x)))
        ∙ +ℤ_idr (Σ ◌+ℤ◌ (pos 0) a n (λ v. bit (M v x)))
        ∙ sym (ap₂ (λ (p m : ℕ). Σ ◌+ℤ◌ (pos 0) p m (λ v. bit (M v x))) first (rows h r y k.above (omega (arith, k.below))))
