-- `ppm::length` meets its contract: nothing overflows for a size that is not refused. Assumes nothing.
use mathlib.Core.Path.{sym, ◌∙◌}
use native.Mathlib.Omega.{arith}
use Prim.Native.Nat.{◌≤◌}
use Rattle.rules.specs.Shape.{described}
use Rattle.rules.specs.Good.{GoodSize}
use Rattle.rules.proofs.Good.{size_good}
use Rattle.fields.proofs.Written.{most}
use Rattle.ppm.proofs.length.Goals as goal
use Rattle.ppm.proofs.length.Goals.{After-digits, After-digits-2, Else-wrong_size}

good : (c : Else-wrong_size) → GoodSize (described c.args.z)
good c = size_good _ (sym c.wrong_size.ensures ∙ c.if-wrong_size.false)

pub digits-requires : goal.digits-requires
digits-requires c = omega (arith, (good (goal.at.digits-requires c).Else-wrong_size).wide)

-- width and height have four digits at the most
across : (c : After-digits) → c.digits.result ≤ 4
across c = let n = c.args.z.w in omega (arith, most 3 n (omega (arith, (good (goal.at.After-digits c).Else-wrong_size).wide)))

pub overflow_add-result : goal.overflow_add-result
overflow_add-result c = omega (arith, across (goal.at.overflow_add-result c).After-digits)

pub digits-requires-2 : goal.digits-requires-2
digits-requires-2 c = omega (arith, (good (goal.at.digits-requires-2 c).Else-wrong_size).tall)

down : (c : After-digits-2) → c.digits-2.result ≤ 4
down c = let n = c.args.z.h in omega (arith, most 3 n (omega (arith, (good (goal.at.After-digits-2 c).Else-wrong_size).tall)))

pub overflow_add-result-2 : goal.overflow_add-result-2
overflow_add-result-2 c = omega (arith, across (goal.at.overflow_add-result-2 c).After-digits, down (goal.at.overflow_add-result-2 c).After-digits-2)

pub overflow_mul-result : goal.overflow_mul-result
overflow_mul-result c = omega (arith, (good (goal.at.overflow_mul-result c).Else-wrong_size).area)

pub overflow_mul-result-2 : goal.overflow_mul-result-2
overflow_mul-result-2 c = omega (arith, (good (goal.at.overflow_mul-result-2 c).Else-wrong_size).area)

pub overflow_add-result-3 : goal.overflow_add-result-3
overflow_add-result-3 c = omega (arith, across (goal.at.overflow_add-result-3 c).After-digits, down (goal.at.overflow_add-result-3 c).After-digits-2, (good (goal.at.overflow_add-result-3 c).Else-wrong_size).area)
