-- `budget::comparisons` meets its contract. Assumes nothing.
use mathlib.Core.Path.{◌≡◌, sym, ◌∙◌}
use mathlib.Core.Bool.{false}
use Prim.Native.Nat.{ℕ, ◌*◌, ◌≤◌}
use native.Mathlib.Nat.{mul-le-mul}
use native.Mathlib.Omega.{arith}
use borrow.Author.Tests.{le-ltb}
use Rattle.rules.specs.declared.Size.{Size}
use Rattle.rules.specs.Shape.{described}
use Rattle.rules.specs.Good.{GoodSize}
use Rattle.rules.specs.Refusals.{bad_size}
use Rattle.rules.specs.Count.{comparisons, samples, frame_comparisons}
use Rattle.rules.specs.Promise.{Budgets}
use Rattle.rules.proofs.Good.{size_good}
use Rattle.rules.proofs.Count.{samples_at_most}
use Rattle.budget.proofs.comparisons.Goals as goal
use Rattle.budget.proofs.comparisons.Goals.{After-line, After-line-2, Else-wrong_size}

-- a size and a radius that are not refused
good : (z : Size) (s r : ℕ) → bad_size z ≡ false → s ≤ 30 → r ≡ frame_comparisons (described z) s → Budgets z s r
good z s r e h n = record { answer = rw (e, le-ltb 30 s h) n }

-- a line's count, for each line of a frame
few : (s n r : ℕ) → r ≡ comparisons s (samples n) → n ≤ 1024 → r ≤ 3072
few s n r e h = omega (arith, samples_at_most s n)

free : (c : Else-wrong_size) → bad_size c.args.z ≡ false
free c = sym c.wrong_size.ensures ∙ c.if-wrong_size.false

size : (c : Else-wrong_size) → GoodSize (described c.args.z)
size c = size_good c.args.z (free c)

pub line-requires : goal.line-requires
line-requires c = (omega (arith, size (goal.at.line-requires c).Else-wrong_size), omega (arith, size (goal.at.line-requires c).Else-wrong_size), omega arith)

rows : (c : After-line) → let z = c.args.z in z.h * c.line.result ≤ 1024 * 3072
rows c = mul-le-mul (size (goal.at.After-line c).Else-wrong_size).tall (few _ _ _ c.line.ensures (omega (arith, size (goal.at.After-line c).Else-wrong_size)))

pub overflow_mul-result : goal.overflow_mul-result
overflow_mul-result c = omega (arith, rows (goal.at.overflow_mul-result c).After-line)

pub line-requires-2 : goal.line-requires-2
line-requires-2 c = (omega (arith, size (goal.at.line-requires-2 c).Else-wrong_size), omega (arith, size (goal.at.line-requires-2 c).Else-wrong_size), omega arith)

columns : (c : After-line-2) → let z = c.args.z in z.w * c.line-2.result ≤ 1024 * 3072
columns c = mul-le-mul (size (goal.at.After-line-2 c).Else-wrong_size).wide (few _ _ _ c.line-2.ensures (omega (arith, size (goal.at.After-line-2 c).Else-wrong_size)))

pub overflow_mul-result-2 : goal.overflow_mul-result-2
overflow_mul-result-2 c = omega (arith, columns (goal.at.overflow_mul-result-2 c).After-line-2)

pub overflow_add-result : goal.overflow_add-result
overflow_add-result c = omega (arith, rows (goal.at.overflow_add-result c).After-line, columns (goal.at.overflow_add-result c).After-line-2)

pub returns : goal.returns
unfolding frame_comparisons
returns c =
    good _ _ _ (free (goal.at.returns c).Else-wrong_size) (omega arith) (rw (c.line.ensures, c.line-2.ensures) (omega arith))
