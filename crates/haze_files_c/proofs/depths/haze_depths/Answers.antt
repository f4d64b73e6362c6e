-- `haze_files_c::depths::haze_depths` meets its contract. The call's answer is returned as its number.
-- No call asks anything; a lent buffer comes back with its length. Assumes nothing.
use Rattle.haze_files_c.proofs.Told.{depths_returns}
use Rattle.haze_files_c.proofs.depths.haze_depths.Goals as goal

pub returns : goal.returns
returns c =
    depths_returns
    c.sized.ensures
    c.depths.ensures
    c.number.ensures
