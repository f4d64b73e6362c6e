-- `haze::band` meets its contract. Assumes nothing.
use native.Mathlib.Omega.{arith}
use Rattle.refusals.proofs.Accepted.{band_accepted}
use Rattle.haze.proofs.Accepted.{free}
use Rattle.haze.proofs.band.Goals as goal

pub figure-requires : goal.figure-requires
figure-requires c =
    let s = c.args in
    let n = band_accepted s.z s.map.now s.from s.to (free c.refuse_band.ensures c.in-Ok.is) in
    (n.size, n.entries, omega (arith, n.some), n.inside)
