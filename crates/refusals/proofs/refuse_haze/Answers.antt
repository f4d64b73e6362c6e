-- `refusals::refuse_haze` meets its contract. Assumes nothing.
use Rattle.refusals.proofs.Passed.{size_passed}
use Rattle.refusals.proofs.refuse_haze.Goals as goal

pub wrong_frame-requires : goal.wrong_frame-requires
wrong_frame-requires c = size_passed c.wrong_size.ensures c.refuse.ensures c.in_ok-refuse.was

pub wrong_frame-requires-2 : goal.wrong_frame-requires-2
wrong_frame-requires-2 c = size_passed c.wrong_size.ensures c.refuse.ensures c.in_ok-refuse.was

pub wrong_map-requires : goal.wrong_map-requires
wrong_map-requires c = size_passed c.wrong_size.ensures c.refuse.ensures c.in_ok-refuse.was
