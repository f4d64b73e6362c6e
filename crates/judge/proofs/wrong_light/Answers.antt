-- `judge::wrong_light` meets its contract. Assumes nothing.
use Rattle.std.proofs.Common.{rules}
use Rattle.rules.specs.Refusals.{bad_light}
use Rattle.judge.proofs.wrong_light.Goals as goal

pub returns-then-a-eq0-2 : goal.returns-then-a-eq0-2
unfolding bad_light
returns-then-a-eq0-2 c = search rules

pub returns-else-a-eq0-2 : goal.returns-else-a-eq0-2
unfolding bad_light
returns-else-a-eq0-2 c = search rules
