-- `haze_c::haze_comparisons` meets its contract. What the call answers is returned. No call asks anything. Assumes nothing.
use Rattle.haze_c.proofs.Told.{budget_is}
use Rattle.haze_c.proofs.haze_comparisons.Goals as goal

pub returns : goal.returns
returns c = budget_is c.sized.ensures c.comparisons.ensures
