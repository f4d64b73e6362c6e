-- `records::settings_of` meets its contract. Assumes nothing.
use Rattle.records.specs.Records.{settings_of}
use Rattle.records.proofs.settings_of.Goals as goal

pub returns : goal.returns
unfolding settings_of
returns c = cc
