-- `judge::wrong_settings` meets its contract. Assumes nothing.
use Rattle.std.proofs.Common.{rules}
use Rattle.rules.specs.Refusals.{bad_settings}
use Rattle.judge.proofs.wrong_settings.Goals as goal

pub returns-then-outside-3 : goal.returns-then-outside-3
unfolding bad_settings
returns-then-outside-3 c = search rules

pub returns-else-outside-3 : goal.returns-else-outside-3
unfolding bad_settings
returns-else-outside-3 c = search rules
