-- `light::tally_row` meets its contract. The loop's invariant: with the counts of the positions before `first` go those of x more, each in its lane.
-- Assumes nothing.
use mathlib.Core.Path.{◌≡◌}
use Prim.Native.Nat.{ℕ, ◌<◌, ◌+◌}
use lib.ListN.{length, get_or}
use Rattle.light.specs.Steps.{hits, Starts, Below, lane}
use Rattle.light.proofs.tally_row.Given as goal

abbrev pub invariant-loop-x : goal.invariant-loop-x
invariant-loop-x l =
    Below (l.first + l.x) l.apart
    × ((D : ℕ → ℕ) → Starts (hits (lane D) l.first) 1028 l.initial.apart → ((i : ℕ) → i < length l.d → get_or l.d i 0 ≡ D (l.first + i)) → Starts (hits (lane D) (l.first + l.x)) 1028 l.apart)
