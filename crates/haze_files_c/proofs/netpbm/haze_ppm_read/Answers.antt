-- `haze_files_c::netpbm::haze_ppm_read` meets its contract. The answer's number is returned, its size goes into the places. No call asks anything; the frame comes back with its length. Assumes nothing.
use Rattle.haze_files_c.proofs.Told.{read_returns}
use Rattle.haze_files_c.proofs.netpbm.haze_ppm_read.Goals as goal

pub returns : goal.returns
returns c = read_returns c.told.ensures c.read.ensures
