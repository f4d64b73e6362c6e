-- `haze::haze` meets its contract. Assumes nothing.
use lib.ListN.{length}
use Rattle.refusals.proofs.Accepted.{haze_accepted}
use Rattle.haze.proofs.Accepted.{free}
use Rattle.haze.proofs.haze.Goals as goal

pub add-requires : goal.add-requires
add-requires c =
    let s = c.args in
    let n = haze_accepted s.z s.a (length s.clean.now) s.map.now (length s.hazed.now) (free c.refuse_haze.ensures c.in_ok-refuse_haze.was) in
    record { clean_len = (n.bytes, n.entries, n.colours); by_index = n.low }
