-- `ppm::refuse_write` meets its contract: a size that is not refused is a good one. Assumes nothing.
use Rattle.std.proofs.Common.{rules}
use Rattle.rules.proofs.Good.{size_good}
use Rattle.ppm.proofs.refuse_write.Goals as goal

pub wrong_frame-requires : goal.wrong_frame-requires
wrong_frame-requires c = size_good _ (search rules)
