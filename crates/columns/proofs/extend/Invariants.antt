-- `columns::extend` meets its contract. The invariant: the first x entries are the lesser ones, with a comparison each. Assumes nothing.
use mathlib.Core.Path.{◌≡◌}
use Prim.Native.Nat.{min}
use Rattle.windows.specs.Line.{entry, Written}
use Rattle.columns.proofs.extend.Given as goal

abbrev pub invariant-loop-x : goal.invariant-loop-x
invariant-loop-x l = (l.count ≡ l.x) × Written (λ i. min (entry l.initial.least i) (entry l.row i)) l.initial.least l.least 0 l.x
