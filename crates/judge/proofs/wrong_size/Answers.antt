-- `judge::wrong_size` meets its contract. Assumes nothing.
use Rattle.std.proofs.Common.{rules}
use Rattle.rules.specs.Refusals.{bad_size}
use Rattle.judge.proofs.wrong_size.Goals as goal

pub returns-then-outside-2 : goal.returns-then-outside-2
unfolding bad_size
returns-then-outside-2 c = search rules

pub returns-else-outside-2 : goal.returns-else-outside-2
unfolding bad_size
returns-else-outside-2 c = search rules
