-- `records::size_of` meets its contract. Assumes nothing.
use Rattle.records.specs.Records.{size_of}
use Rattle.records.proofs.size_of.Goals as goal

pub returns : goal.returns
unfolding size_of
returns c = cc
