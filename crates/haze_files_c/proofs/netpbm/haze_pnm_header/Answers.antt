-- `haze_files_c::netpbm::haze_pnm_header` meets its contract. The four numbers go into their places and 0 is returned, or 11. Assumes nothing.
use Rattle.std.proofs.Common.{rules}
use Rattle.haze_files_c.proofs.Told.{header_read, header_refused}
use Rattle.haze_files_c.proofs.netpbm.haze_pnm_header.Goals as goal

pub returns-in-Some : goal.returns-in-Some
returns-in-Some c = header_read _ _ c.header.ensures c.in-Some.is

pub returns-in-None : goal.returns-in-None
returns-in-None c = header_refused _ _ c.header.ensures c.in-None.is (search rules)
