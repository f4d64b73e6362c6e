-- `judge::wrong_band` meets its contract. Assumes nothing.
use Rattle.std.proofs.Common.{rules}
use Rattle.rules.specs.Refusals.{bad_band}
use Rattle.judge.proofs.wrong_band.Goals as goal

pub returns-then-not-from-to : goal.returns-then-not-from-to
unfolding bad_band
returns-then-not-from-to c = search rules

pub returns-else-not-from-to : goal.returns-else-not-from-to
unfolding bad_band
returns-else-not-from-to c = search rules
