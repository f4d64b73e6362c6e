-- `judge::wrong_mask` meets its contract. Assumes nothing.
use mathlib.Core.Path.{refl}
use Rattle.rules.specs.Refusals.{bad_mask}
use Rattle.judge.proofs.wrong_mask.Goals as goal

pub returns : goal.returns
unfolding bad_mask
returns c = refl
