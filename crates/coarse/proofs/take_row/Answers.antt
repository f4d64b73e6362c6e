-- `coarse::take_row` meets its contract: past the last row there is nothing to show and nothing to compare. Assumes nothing.
use mathlib.Core.Path.{◌≡◌, refl, ◌∙◌}
use native.Mathlib.Omega.{arith}
use lib.ListN.{length}
use Rattle.columns.proofs.Counted.{along_row, along_none}
use Rattle.coarse.proofs.Minima.{along_is}
use Rattle.coarse.proofs.take_row.Goals as goal

pub returns-then-v-i-clause-count : goal.returns-then-v-i-clause-count
returns-then-v-i-clause-count c = along_none _ _ _ _ c.if-v-i.true

pub returns-clause-mins : goal.returns-clause-mins
returns-clause-mins c h =
    let d = c.args in
    along_is d.v d.a d.s d.mask.now d.frame.now d.i _ _ _ _ _ _ _ _ c.row_start-from.ensures.0 refl (omega arith) (omega arith) (omega arith) (omega arith) c.ratio_row.ensures c.shrink.ensures.mins

pub returns-clause-count : goal.returns-clause-count
returns-clause-count c =
    let d = c.args in
    let wide : length c.ratio_row.new.row ≡ d.v.wide = omega arith in
    rw wide at c.shrink.ensures.count ∙ along_row d.s d.v.wide d.v.tall d.i (omega arith)
