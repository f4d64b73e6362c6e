-- `records::large` meets its contract. Assumes nothing.
use Rattle.std.proofs.Common.{rules}
use Rattle.records.specs.Records.{large}
use Rattle.records.proofs.large.Goals as goal

pub returns-then-z-gt24 : goal.returns-then-z-gt24
unfolding large
returns-then-z-gt24 c = search rules

pub returns-else-z-gt24 : goal.returns-else-z-gt24
unfolding large
returns-else-z-gt24 c = search rules
