-- `writer::scale_row` meets its contract: after x turns the first x scales are there. Assumes nothing.
use Rattle.writer.specs.Row.{Known, Scales, floored_at}
use Rattle.writer.proofs.scale_row.Given as goal

abbrev pub invariant-loop-x : goal.invariant-loop-x
invariant-loop-x l = record { known : Known l.table; scales : Scales (floored_at l.map l.t0) l.x l.scales }
