-- `haze_c::haze_light` meets its contract. The light and the comparisons go into their places, the answer's number is returned.
-- No call asks anything; the work area comes back with its length. Assumes nothing.
use Rattle.haze_c.proofs.Told.{light_returns}
use Rattle.haze_c.proofs.haze_light.Goals as goal

pub returns : goal.returns
returns c =
    light_returns
    c.sized.ensures
    c.settings_in.ensures
    c.light.ensures
    c.lit.ensures
