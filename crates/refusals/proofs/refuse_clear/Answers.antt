-- `refusals::refuse_clear` meets its contract. Assumes nothing.
use Rattle.refusals.proofs.Passed.{size_passed}
use Rattle.refusals.proofs.refuse_clear.Goals as goal

pub wrong_frame-requires : goal.wrong_frame-requires
wrong_frame-requires c = size_passed c.wrong_size.ensures c.refuse.ensures c.in_ok-refuse.was

pub wrong_loan-requires : goal.wrong_loan-requires
wrong_loan-requires c = size_passed c.wrong_size.ensures c.refuse.ensures c.in_ok-refuse.was
