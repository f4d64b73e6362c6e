-- `haze_c::haze_band` meets its contract. The figure goes into its two places, the answer's number is returned.
-- No call asks anything. Assumes nothing.
use Rattle.haze_c.proofs.Told.{band_returns}
use Rattle.haze_c.proofs.haze_band.Goals as goal

pub returns : goal.returns
returns c =
    band_returns
    c.sized.ensures
    c.band.ensures
    c.figured.ensures
