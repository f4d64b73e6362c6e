-- `text::put_light` meets its contract. Assumes nothing.
use native.Mathlib.Omega.{arith}
use Prim.Native.Nat.{◌≤◌}
use lib.ListN.{length}
use mathlib.Core.List.{[], ◌∷◌}
use Rattle.fields.specs.Words.{bytes}
use Rattle.fields.specs.Written.{row}
use Rattle.text.specs.Text.{light_line}
use Rattle.text.proofs.Writing.{light_most}
use Rattle.text.proofs.put_light.Goals as goal
use Rattle.text.proofs.put_light.Goals.{After-numbers-1}

-- the line fits
fits : (c : After-numbers-1) → length (row (bytes "light") (c.from.result ∷ c.from-2.result ∷ c.from-3.result ∷ [])) ≤ 18
fits c = light_most _ _ _ (omega (arith, c.from.ensures)) (omega (arith, c.from-2.ensures)) (omega (arith, c.from-3.ensures))

pub put_row-requires : goal.put_row-requires
put_row-requires c = omega (arith, fits (goal.at.put_row-requires c).After-numbers-1, c.requires)

pub returns : goal.returns
unfolding light_line
returns c =
    let w = c.put_row.ensures in
    (rw (c.from.ensures, c.from-2.ensures, c.from-3.ensures) at w, omega (arith, w.ends, fits (goal.at.returns c).After-numbers-1))
