-- `judge::wrong_rect` meets its contract. Assumes nothing.
use Rattle.std.proofs.Common.{rules}
use Rattle.rules.specs.Refusals.{bad_rect}
use Rattle.judge.proofs.wrong_rect.Goals as goal

pub returns-then-past : goal.returns-then-past
unfolding bad_rect
returns-then-past c = search rules

pub returns-else-past : goal.returns-else-past
unfolding bad_rect
returns-else-past c = search rules
