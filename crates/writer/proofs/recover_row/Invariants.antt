-- `writer::recover_row` meets its contract: after x turns the run is x pixels long. Assumes nothing.
use Prim.Native.Nat.{ℕ, ◌*◌}
use lib.ListN.{length}
use Rattle.writer.specs.Run.{Run}
use Rattle.writer.specs.Row.{Scales, Floored, bytes_of, cleared_by}
use Rattle.writer.proofs.recover_row.Given as goal

abbrev pub invariant-loop-x : goal.invariant-loop-x
invariant-loop-x l =
    (T : ℕ → ℕ) → Floored T (length l.scales) → Scales T (length l.scales) l.scales → Run (bytes_of (cleared_by l.a l.frame l.p T)) (3 * l.p) (3 * l.x) l.initial.picture l.picture
