-- `refusals::refuse_band` meets its contract. Assumes nothing.
use Rattle.refusals.proofs.Passed.{size_passed}
use Rattle.refusals.proofs.refuse_band.Goals as goal

pub wrong_map-requires : goal.wrong_map-requires
wrong_map-requires c = size_passed c.wrong_size.ensures c.refuse.ensures c.in_ok-refuse.was
