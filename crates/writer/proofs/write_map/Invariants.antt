-- `writer::write_map` meets its contract: after y turns the first y rows are in the map. Assumes nothing.
use Prim.Native.Nat.{◌+◌, ◌*◌}
use Rattle.rules.specs.Window.{Plane, Shown}
use Rattle.rules.specs.Light.{at}
use Rattle.rules.specs.Transmission.{Line}
use Rattle.rules.specs.Buffers.{pixels}
use Rattle.planes.specs.View.{whole, rect_of}
use Rattle.planes.specs.Stage.{Lined, box_seen}
use Rattle.planes.proofs.Tails.{rest}
use Rattle.sums.specs.Before.{SumsBefore}
use Rattle.sizes.specs.Before.{SizesBefore}
use Rattle.writer.specs.Write.{entry_over}
use Rattle.writer.proofs.Parts.{Upto}
use Rattle.writer.proofs.Rows.{rows, entry_in}
use Rattle.writer.proofs.write_map.Given as goal

abbrev pub invariant-loop-y : goal.invariant-loop-y
invariant-loop-y l = record {
  written : (F : Plane (Shown Line)) → Lined l.work l.lines l.v.w l.v.h (box_seen l.b l.mask) F
      → Upto (at (whole l.to) (entry_over l.to l.v l.r (pixels (whole l.to) l.frame) F)) (entry_in l.to.w (rows (rect_of l.to) l.y)) l.initial.map l.map;
  sums : SumsBefore l.v l.r (rest l.work l.lines) (rest l.work (l.lines + l.v.w * l.v.h)) l.y l.sums;
  sizes : SizesBefore l.b l.v l.r l.mask l.y l.sizes;
}
