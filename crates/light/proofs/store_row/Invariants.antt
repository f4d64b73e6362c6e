-- `light::store_row` meets its contract. The loop's invariant: the first x values are put, the rest is as it was. Assumes nothing.
use lib.ListN.{get_or}
use Rattle.light.specs.Steps.{RowPut}
use Rattle.light.proofs.store_row.Given as goal

abbrev pub invariant-loop-x : goal.invariant-loop-x
invariant-loop-x l = RowPut l.initial.work l.work l.to (λ i. get_or l.d i 0) l.x
