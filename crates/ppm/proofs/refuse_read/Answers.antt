-- `ppm::refuse_read` meets its contract: a size that is not refused is a good one. Assumes nothing.
use Rattle.std.proofs.Common.{rules}
use Rattle.rules.proofs.Good.{size_good}
use Rattle.ppm.proofs.refuse_read.Goals as goal

pub wrong_frame-requires : goal.wrong_frame-requires
wrong_frame-requires c = size_good _ (search rules)

pub wrong_frame-requires-2 : goal.wrong_frame-requires-2
wrong_frame-requires-2 c = size_good _ (search rules)
