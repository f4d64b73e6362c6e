-- `records::fault_of_set` meets its contract, test by test. Assumes nothing.
use Rattle.std.proofs.Common.{rules}
use Rattle.records.specs.Records.{fault}
use Rattle.records.proofs.fault_of_set.Goals as goal

pub returns-in_err-refuse : goal.returns-in_err-refuse
unfolding fault
returns-in_err-refuse c = search rules

pub returns : goal.returns
unfolding fault
returns c = search rules
