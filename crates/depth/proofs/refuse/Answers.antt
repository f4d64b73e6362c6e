-- `depth::refuse` meets its contract: a size that is not refused is a good one. Assumes nothing.
use Rattle.std.proofs.Common.{rules}
use Rattle.rules.proofs.Good.{size_good}
use Rattle.depth.proofs.refuse.Goals as goal

pub wrong_map-requires : goal.wrong_map-requires
wrong_map-requires c = size_good _ (search rules)

pub wrong_map-requires-else-wrong_map : goal.wrong_map-requires-else-wrong_map
wrong_map-requires-else-wrong_map c = size_good _ (search rules)
