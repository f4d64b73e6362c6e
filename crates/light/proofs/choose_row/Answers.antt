-- `light::choose_row` meets its contract: a row that is passed over is below the cutoff. Assumes nothing.
use native.Mathlib.Omega.{arith}
use Rattle.light.proofs.Keeping.{passed}
use Rattle.light.proofs.choose_row.Goals as goal

pub returns-then-top-cut : goal.returns-then-top-cut
returns-then-top-cut c =
    let a = c.args in
    passed a.frame.now a.work.now a.cut a.first a.n a.b (λ x h. omega (arith, c.requires.by_index x h)) c.requires.walkable.4
