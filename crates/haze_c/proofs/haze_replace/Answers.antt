-- `haze_c::haze_replace` meets its contract. The comparisons go into their place, the answer's number is returned.
-- No call asks anything; a lent buffer comes back with its length. Assumes nothing.
use Rattle.haze_c.proofs.Told.{replace_returns}
use Rattle.haze_c.proofs.haze_replace.Goals as goal

pub returns : goal.returns
returns c =
    replace_returns
    c.sized.ensures
    c.settings_in.ensures
    c.rgb_in.ensures
    c.rect_in.ensures
    c.replace.ensures
    c.counted.ensures
