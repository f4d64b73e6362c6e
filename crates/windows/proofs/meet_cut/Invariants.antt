-- `windows::meet_cut` meets its contract. The invariant: the windows before i are put together. Assumes nothing.
use lib.ListN.{length}
use Rattle.windows.specs.Line.{Met}
use Rattle.windows.proofs.meet_cut.Given as goal

abbrev pub invariant-loop-i : goal.invariant-loop-i
invariant-loop-i l = Met l.initial.line l.line l.p l.q (length l.initial.line) l.s l.from l.i l.count
