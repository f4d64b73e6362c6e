-- `judge::wrong_map` meets its contract. Assumes nothing.
use mathlib.Core.Path.{refl}
use Rattle.rules.specs.Refusals.{bad_map}
use Rattle.judge.proofs.wrong_map.Goals as goal

pub returns : goal.returns
unfolding bad_map
returns c = refl
