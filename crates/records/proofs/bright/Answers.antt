-- `records::bright` meets its contract. Assumes nothing.
use Rattle.std.proofs.Common.{rules}
use Rattle.records.specs.Records.{bright}
use Rattle.records.proofs.bright.Goals as goal

pub returns-then-number_at-gt255-2 : goal.returns-then-number_at-gt255-2
unfolding bright
returns-then-number_at-gt255-2 c = search rules

pub returns-else-number_at-gt255-2 : goal.returns-else-number_at-gt255-2
unfolding bright
returns-else-number_at-gt255-2 c = search rules
