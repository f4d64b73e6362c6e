-- `light::take_row` meets its contract: past the last row there is nothing to show and nothing to count. Assumes nothing.
use mathlib.Core.Path.{◌≡◌, refl, ◌∙◌}
use native.Mathlib.Omega.{arith}
use lib.ListN.{length}
use Rattle.rules.specs.Shape.{described}
use Rattle.columns.proofs.Counted.{along_row, along_none}
use Rattle.light.proofs.Minima.{along_is}
use Rattle.light.proofs.take_row.Goals as goal

pub returns-then-h-i-clause-count : goal.returns-then-h-i-clause-count
returns-then-h-i-clause-count c = along_none _ _ _ _ c.if-h-i.true

pub returns-clause-mins : goal.returns-clause-mins
returns-clause-mins c h =
    let a = c.args in
    along_is (described a.z) a.s a.mask.now a.frame.now a.i _ _ _ _ _ _ _ refl (omega arith) (omega arith) (omega arith) (omega arith) c.least_row.ensures c.shrink.ensures.mins

pub returns-clause-count : goal.returns-clause-count
returns-clause-count c =
    let a = c.args in
    let wide : length c.least_row.new.row ≡ a.z.w = omega arith in
    rw wide at c.shrink.ensures.count ∙ along_row a.s a.z.w a.z.h a.i (omega arith)
