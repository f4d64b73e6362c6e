-- `judge::wrong_work` meets its contract. Assumes nothing.
use mathlib.Core.Path.{refl}
use Rattle.rules.specs.Refusals.{bad_work}
use Rattle.judge.proofs.wrong_work.Goals as goal

pub returns : goal.returns
unfolding bad_work
returns c = refl
