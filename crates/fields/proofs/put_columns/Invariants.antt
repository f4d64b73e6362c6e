-- `fields::put_columns` meets its contract. The invariant: writing the numbers that are left from the present place on gives what writing all of them
-- gives, and ends where that ends. Assumes nothing.
use mathlib.Core.Path.{◌≡◌}
use Prim.Native.Nat.{◌+◌}
use lib.ListN.{length, drop}
use lib.Seq.{sets}
use Rattle.fields.specs.Written.{columns}
use Rattle.fields.proofs.put_columns.Given as goal

abbrev pub invariant-loop-n : goal.invariant-loop-n
invariant-loop-n l =
    (l.next + length (columns (drop l.n-index l.numbers)) ≡ l.at + length (columns l.numbers))
    × (sets l.initial.out l.at (columns l.numbers) ≡ sets l.out l.next (columns (drop l.n-index l.numbers)))
