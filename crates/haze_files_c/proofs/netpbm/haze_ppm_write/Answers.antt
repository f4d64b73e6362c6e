-- `haze_files_c::netpbm::haze_ppm_write` meets its contract. The call's answer is returned as its number.
-- No call asks anything; a lent buffer comes back with its length. Assumes nothing.
use Rattle.haze_files_c.proofs.Told.{write_returns}
use Rattle.haze_files_c.proofs.netpbm.haze_ppm_write.Goals as goal

pub returns : goal.returns
returns c =
    write_returns
    c.sized.ensures
    c.write.ensures
    c.number.ensures
