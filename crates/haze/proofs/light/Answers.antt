-- `haze::light` meets its contract. Assumes nothing.
use Rattle.refusals.proofs.Accepted.{light_accepted}
use Rattle.haze.proofs.Accepted.{free}
use Rattle.haze.proofs.light.Goals as goal

pub find-requires : goal.find-requires
find-requires c =
    let s = c.args in
    light_accepted s.z s.k s.mask.now s.frame.now s.work.now (free c.refuse_light.ensures c.in_ok-refuse_light.was)
