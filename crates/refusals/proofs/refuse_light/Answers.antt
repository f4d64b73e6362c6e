-- `refusals::refuse_light` meets its contract. Assumes nothing.
use Rattle.refusals.proofs.Passed.{size_passed}
use Rattle.refusals.proofs.refuse_light.Goals as goal

pub wrong_frame-requires : goal.wrong_frame-requires
wrong_frame-requires c = size_passed c.wrong_size.ensures c.refuse.ensures c.in_ok-refuse.was

pub wrong_mask-requires : goal.wrong_mask-requires
wrong_mask-requires c = size_passed c.wrong_size.ensures c.refuse.ensures c.in_ok-refuse.was

pub wrong_work-requires : goal.wrong_work-requires
wrong_work-requires c = size_passed c.wrong_size.ensures c.refuse.ensures c.in_ok-refuse.was
