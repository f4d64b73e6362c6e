-- `judge::wrong_frame` meets its contract. Assumes nothing.
use mathlib.Core.Path.{refl}
use Rattle.rules.specs.Refusals.{bad_frame}
use Rattle.judge.proofs.wrong_frame.Goals as goal

pub returns : goal.returns
unfolding bad_frame
returns c = refl
