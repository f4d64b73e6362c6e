-- `haze_files_c::netpbm::haze_ppm_size` meets its contract. The answer's number is returned, its size goes into the places. No call asks anything. Assumes nothing.
use Rattle.haze_files_c.proofs.Told.{size_returns}
use Rattle.haze_files_c.proofs.netpbm.haze_ppm_size.Goals as goal

pub returns : goal.returns
returns c = size_returns c.told.ensures c.size.ensures
