-- `pnm::past_digits` meets its contract. The invariant: what is passed and what is left of the digits are all of them. Assumes nothing.
use mathlib.Core.Path.{◌≡◌}
use Prim.Native.Nat.{◌+◌}
use lib.ListN.{drop}
use Rattle.pnm.specs.Header.{run}
use Rattle.pnm.proofs.past_digits.Given as goal

abbrev pub invariant-loop-i : goal.invariant-loop-i
invariant-loop-i l = l.at + run (drop l.at l.s) ≡ l.i + run (drop l.i l.s)
