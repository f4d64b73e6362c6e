-- `bands::sum_of` meets its contract. Assumes nothing.
use mathlib.Core.Path.{◌≡◌}
use borrow.Author.Rules.{rules}
use Prim.Native.Nat.{◌≤◌}
use native.Mathlib.Omega.{arith}
use Rattle.std.specs.List.{All, sum}
use Rattle.std.proofs.lemmas.List.Sums.{sum_by-le}
use Rattle.std.proofs.lemmas.List.Elements.{All-from_get_or}
use Rattle.bands.proofs.sum_of.Goals as goal

pub returns-clause-small : goal.returns-clause-small
returns-clause-small c =
    let band = c.args.band.now in
    let each : All (λ x. x ≤ 65535) band = All-from_get_or (λ x. x ≤ 65535) band 0 (λ i h. omega (arith, c.type_inv.band i)) in
    let value : c.sum.result ≡ sum band = search rules in
    omega (arith, sum_by-le (λ x. x) 65535 band each)
