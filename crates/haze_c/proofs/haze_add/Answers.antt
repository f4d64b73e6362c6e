-- `haze_c::haze_add` meets its contract. The call's answer is returned as its number.
-- No call asks anything; a lent buffer comes back with its length. Assumes nothing.
use Rattle.haze_c.proofs.Told.{add_returns}
use Rattle.haze_c.proofs.haze_add.Goals as goal

pub returns : goal.returns
returns c =
    add_returns
    c.sized.ensures
    c.rgb_in.ensures
    c.haze.ensures
    c.number.ensures
