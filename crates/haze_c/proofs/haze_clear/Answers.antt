-- `haze_c::haze_clear` meets its contract. The comparisons go into their place, the answer's number is returned.
-- No call asks anything; a lent buffer comes back with its length. Assumes nothing.
use Rattle.haze_c.proofs.Told.{clear_returns}
use Rattle.haze_c.proofs.haze_clear.Goals as goal

pub returns : goal.returns
returns c =
    clear_returns
    c.sized.ensures
    c.settings_in.ensures
    c.rgb_in.ensures
    c.clear.ensures
    c.counted.ensures
