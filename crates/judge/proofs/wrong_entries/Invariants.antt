-- `judge::wrong_entries` meets its contract. The loop's invariant: what is found so far, or what is left to look at, is what the whole map has.
-- Assumes nothing.
use mathlib.Core.Bool.{false, ◌||◌}
use lib.Dec.{ltb}
use Rattle.rules.proofs.Front.{Front}
use Rattle.judge.proofs.wrong_entries.Given as goal

abbrev pub invariant-loop-t : goal.invariant-loop-t
invariant-loop-t l = Front ◌||◌ (ltb 10000) false l.map l.t-index l.bad
