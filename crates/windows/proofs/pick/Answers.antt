-- `windows::pick` meets its contract: each return is one case of `choose`, and one of whether the window lies in two blocks. Assumes nothing.
use native.Mathlib.Omega.{arith}
use Rattle.std.proofs.lemmas.Grind.{common_steps}
use Rattle.windows.specs.Blocks.{choose}
use Rattle.windows.proofs.pick.Goals as goal

pub returns-then-a-eq0 : goal.returns-then-a-eq0
unfolding choose
returns-then-a-eq0 c = grind (arith, common_steps)

pub returns-then-c-a : goal.returns-then-c-a
unfolding choose
returns-then-c-a c = grind (arith, common_steps)

pub returns : goal.returns
unfolding choose
returns c = grind (arith, common_steps)
