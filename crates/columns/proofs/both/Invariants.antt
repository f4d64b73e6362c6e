-- `columns::both` meets its contract. The invariant: the first x entries are the lesser ones, with a comparison each. Assumes nothing.
use mathlib.Core.Path.{◌≡◌}
use Prim.Native.Nat.{min}
use Rattle.windows.specs.Line.{entry, Written}
use Rattle.columns.proofs.both.Given as goal

abbrev pub invariant-loop-x : goal.invariant-loop-x
invariant-loop-x l = (l.count ≡ l.x) × Written (λ i. min (entry l.row i) (entry l.other i)) l.initial.out l.out 0 l.x
