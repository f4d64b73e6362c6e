-- `pnm::past_gap` meets its contract. The invariant: what is passed and what is left of the gap are all of it. Assumes nothing.
use mathlib.Core.Path.{◌≡◌}
use mathlib.Core.Bool.{false}
use Prim.Native.Nat.{◌+◌}
use lib.ListN.{drop}
use Rattle.pnm.specs.Header.{gap_in}
use Rattle.pnm.proofs.past_gap.Given as goal

abbrev pub invariant-loop-i : goal.invariant-loop-i
invariant-loop-i l = l.at + gap_in false (drop l.at l.s) ≡ l.i + gap_in l.inside (drop l.i l.s)
