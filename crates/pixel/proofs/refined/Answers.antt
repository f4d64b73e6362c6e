-- `pixel::refined` meets its contract: the sum fits, and what is held of it is at most ten thousand for each of the n. Assumes nothing.
use Prim.Native.Nat.{ℕ, ◌≤◌, ◌*◌, ◌/◌}
use mathlib.Core.Path.{◌≡◌, ap, ap₂, ◌∙◌}
use lib.IntN.{ℤ, pos, ◌+ℤ◌, ◌*ℤ◌}
use native.Mathlib.Omega.{arith}
use Rattle.rules.specs.Transmission.{held}
use Rattle.rules.proofs.Integers.{rd, rd_is}
use Rattle.pixel.proofs.Sizes.{refined_top, held_le, refined_le, refined_first}
use Rattle.pixel.proofs.Scaled.{inverse_fits, inverse_is}
use Rattle.pixel.proofs.refined.Goals as goal
use Rattle.pixel.proofs.refined.Goals.{After-hold-v, Start}

module _ (s : Start) where
  abbrev n : ℕ
  n = s.args.n

  abbrev g : ℕ
  g = s.args.g

  abbrev sa : ℤ
  sa = s.args.sa

  abbrev sb : ℤ
  sb = s.args.sb

  -- what is held
  abbrev sum : ℤ
  sum = sa *ℤ pos g +ℤ sb

-- what is handed over is what was given
given : (s : Start) → rd (sa s) *ℤ pos (g s) +ℤ rd (sb s) ≡ sum s
given s = ap₂ (λ (x y : ℤ). x *ℤ pos (g s) +ℤ y) (rd_is (sa s) (omega (arith, s.requires.4, s.requires.1))) (rd_is (sb s) (omega (arith, s.requires.5, s.requires.1)))

v_is : (c : After-hold-v) → c.hold-v.result ≡ held (10240000 * c.args.n) (sum (goal.at.After-hold-v c).Start)
v_is c =
    let e = rd_is (sum (goal.at.After-hold-v c).Start) (omega (arith, refined_top c.args.n c.args.g c.args.sa c.args.sb c.requires.3 c.requires.4 c.requires.5, c.requires.1)) in
    c.hold-v.ensures ∙ ap (λ (z : ℤ). held (10240000 * c.args.n) (rd z)) (c.unheld.ensures ∙ given (goal.at.After-hold-v c).Start) ∙ ap (held (10240000 * c.args.n)) e

v_le : (c : After-hold-v) → c.hold-v.result ≤ 10240000 * c.args.n
v_le c = rw (v_is c) (held_le (10240000 * c.args.n) (sum (goal.at.After-hold-v c).Start))

pub over-requires : goal.over-requires
over-requires c =
    inverse_fits c.args.n c.args.inverse c.requires.0 c.requires.1 c.requires.2 (c.hold-v.result / 1024) (omega (arith, v_le (goal.at.over-requires c).After-hold-v))

pub returns : goal.returns
returns c =
    let quotient = inverse_is c.args.n c.args.inverse c.requires.0 c.requires.1 c.requires.2 (c.hold-v.result / 1024) (omega (arith, v_le (goal.at.returns c).After-hold-v)) in
    let held = ap (λ (v : ℕ). v / 1024 / c.args.n) (v_is (goal.at.returns c).After-hold-v) in
    let r = c.over.ensures ∙ quotient ∙ held ∙ refined_first c.args.n c.args.sa c.args.sb c.args.g c.requires.0 in
    (r, rw r (refined_le c.args.n c.args.sa c.args.sb c.args.g))
