-- `writer::write_picture` meets its contract: after y turns the first y rows are in the picture. Assumes nothing.
use Rattle.rules.specs.Buffers.{pixels, values, byte_at}
use Rattle.planes.specs.View.{whole, rect_of}
use Rattle.writer.specs.Row.{Known}
use Rattle.writer.specs.Write.{recovered_by}
use Rattle.writer.proofs.Parts.{Upto}
use Rattle.writer.proofs.Rows.{rows, byte_in}
use Rattle.writer.proofs.write_picture.Given as goal

abbrev pub invariant-loop-y : goal.invariant-loop-y
invariant-loop-y l = record {
  written : Upto (byte_at (whole l.to) (recovered_by l.a l.t0 (pixels (whole l.to) l.frame) (values (whole l.to) l.map))) (byte_in l.to.w (rows (rect_of l.to) l.y)) l.initial.picture l.picture;
  known : Known l.table;
}
