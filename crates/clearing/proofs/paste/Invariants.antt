-- `clearing::paste` meets its contract: after j turns the first j rows of the new pixels are in the frame. Assumes nothing.
use Rattle.rules.specs.Shape.{described}
use Rattle.rules.specs.Buffers.{byte_at, placed}
use Rattle.writer.proofs.Parts.{Upto}
use Rattle.writer.proofs.Rows.{rows, byte_in}
use Rattle.clearing.proofs.paste.Given as goal

abbrev pub invariant-loop-j : goal.invariant-loop-j
invariant-loop-j l = Upto (byte_at (described l.z) (placed l.c l.new)) (byte_in l.z.w (rows l.c l.j)) l.initial.frame l.frame
