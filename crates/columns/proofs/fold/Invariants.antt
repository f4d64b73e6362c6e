-- `columns::fold` meets its contract. The invariant: the rows from j on are folded, with n comparisons for each before the last. Assumes nothing.
use mathlib.Core.Path.{◌≡◌}
use Prim.Native.Nat.{◌+◌, ◌*◌}
use Rattle.columns.specs.Down.{Folded}
use Rattle.columns.proofs.fold.Given as goal

abbrev pub invariant-loop-j : goal.invariant-loop-j
invariant-loop-j l = (l.count + l.j * l.n ≡ l.last * l.n) × Folded l.initial.store l.store l.n l.j l.last
