-- `filter::fit_row` meets its contract. The loop's invariant is the contract at i pixels. Assumes nothing.
use Rattle.filter.specs.Row.{row_line, RowLines}
use Rattle.filter.proofs.fit_row.Given as goal

abbrev pub invariant-loop-i : goal.invariant-loop-i
invariant-loop-i l = RowLines l.initial.work l.work l.slopes l.offsets l.i (row_line l.sums.first l.sums.second l.sizes.ns l.e l.mask 0)
