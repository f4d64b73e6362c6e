-- `light::greatest` meets its contract. The loop's invariant: `greatest` bounds what was gone over. Assumes nothing.
use Prim.Native.Nat.{ℕ, ◌≤◌, ◌<◌}
use lib.ListN.{get_or}
use Rattle.light.proofs.greatest.Given as goal

abbrev pub invariant-loop-level : goal.invariant-loop-level
invariant-loop-level l = (i : ℕ) → i < l.level-index → get_or l.d i 0 ≤ l.greatest
