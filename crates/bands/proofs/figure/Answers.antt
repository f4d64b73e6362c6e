-- `bands::figure` meets its contract: the part of the map between two rows is the band, and each value is one division. Assumes nothing.
use mathlib.Core.Path.{◌≡◌, ap}
use Prim.Native.Nat.{ℕ, ◌-◌, ◌*◌}
use native.Mathlib.Omega.{arith}
use lib.ListN.{take, drop}
use Rattle.rules.specs.Window.{total, least}
use Rattle.rules.specs.Picture.{figure_of, figure as figure_in}
use Rattle.bands.proofs.Laws.{rows_count, sum_is, least_is}
use Rattle.bands.proofs.figure.Goals as goal

pub returns : goal.returns
unfolding figure_in
returns c =
    let a = c.args in
    let start = a.from * a.z.w in
    let band = take (a.to * a.z.w - start) (drop start a.map.now) in
    let sum : c.sum_of.result ≡ total (λ t. t) band = omega (arith, c.sum_of.ensures.value, sum_is band) in
    let low : c.from.result ≡ least 10000 band = omega (arith, c.from.ensures, c.least_of.ensures, least_is band) in
    rw (c.divided-mean.ensures, c.divided-least.ensures, sum, low)
    (ap (λ (n : ℕ). figure_of (take n (drop start a.map.now))) (rows_count a.z.w a.from a.to c.requires.2))
