-- `coarse::ratio_row` meets its contract. The loop's invariant is the contract at x pixels. Assumes nothing.
use mathlib.Core.Path.{◌≡◌}
use Prim.Native.Nat.{ℕ, ◌<◌}
use lib.ListN.{get_or}
use Rattle.planes.specs.Stage.{masked_at}
use Rattle.coarse.specs.Rows.{ratio_at}
use Rattle.coarse.proofs.ratio_row.Given as goal

abbrev pub invariant-loop-x : goal.invariant-loop-x
invariant-loop-x l = (i : ℕ) → i < l.x → get_or l.row i 0 ≡ ratio_at l.a (masked_at l.mask l.frame i)
