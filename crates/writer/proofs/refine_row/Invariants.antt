-- `writer::refine_row` meets its contract: after i turns the run is i entries long. Assumes nothing.
use Rattle.writer.specs.Run.{Run}
use Rattle.writer.specs.Row.{entry_from}
use Rattle.writer.proofs.refine_row.Given as goal

abbrev pub invariant-loop-i : goal.invariant-loop-i
invariant-loop-i l = Run (entry_from l.mask l.frame l.p l.sums.first l.sums.second l.sizes.ns) l.p l.i l.initial.map l.map
