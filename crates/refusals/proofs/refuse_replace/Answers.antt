-- `refusals::refuse_replace` meets its contract: its tests are Clear's, then those of the rectangle, and the product is formed only of a rectangle inside
-- the frame. Assumes nothing.
use mathlib.Core.Path.{◌≡◌, refl, sym, ap, ◌∙◌}
use Prim.Native.Nat.{ℕ, ◌*◌, ◌≤◌}
use native.Mathlib.Omega.{arith}
use Rattle.rules.specs.declared.Size.{Size}
use Rattle.rules.specs.declared.Settings.{Settings}
use Rattle.rules.specs.declared.Rgb.{Rgb}
use Rattle.rules.specs.Shape.{described}
use Rattle.rules.specs.Good.{GoodSize}
use Rattle.rules.specs.Answers.{said}
use Rattle.rules.specs.Refusals.{tests_clear, refuse_clear}
use Rattle.rules.proofs.Good.{size_good}
use Rattle.rules.proofs.Exactly.{accepted}
use Rattle.refusals.proofs.Passed.{passed, rect_small}
use Rattle.refusals.proofs.refuse_replace.Goals as goal
use Rattle.refusals.proofs.refuse_replace.Goals.{In_ok-refuse}

good : (z : Size) (k : Settings) (a : Rgb) (mask frame map picture work : ℕ) → refuse_clear z k a mask frame map picture work ≡ 0 → GoodSize (described z)
unfolding refuse_clear
good z k a mask frame map picture work e = size_good z (accepted (tests_clear z k a mask frame map picture work) refl e).0

small : (c : In_ok-refuse) → let s = c.args in s.c.w * s.c.h ≤ 262144
small c =
    let free = sym c.refuse_clear.ensures ∙ ap said c.in_ok-refuse_clear.was in
    rect_small _ _ (good _ _ _ _ _ _ _ _ free) (sym c.wrong_rect.ensures ∙ passed _ _ _ (sym c.refuse.ensures ∙ c.in_ok-refuse.was))

pub overflow_mul-c : goal.overflow_mul-c
overflow_mul-c c = omega (arith, small (goal.at.overflow_mul-c c).In_ok-refuse)

pub overflow_mul-c-2 : goal.overflow_mul-c-2
overflow_mul-c-2 c = omega (arith, small (goal.at.overflow_mul-c-2 c).In_ok-refuse)
