-- `fields::part` meets its contract. The invariant: the part that is asked for is that many parts on in what is left of the text. Assumes nothing.
use mathlib.Core.Path.{◌≡◌}
use Prim.Native.Nat.{◌≤◌, ◌-◌}
use lib.ListN.{length, drop}
use Rattle.fields.specs.Fields.{split, field_of, begins, field_at}
use Rattle.fields.proofs.part.Given as goal

abbrev pub invariant-loop : goal.invariant-loop
invariant-loop l =
    (l.at ≤ length l.s)
    × (field_of l.sep l.s l.n ≡ field_of l.sep (drop l.at l.s) (l.n - l.counter))
    × (field_at l.sep l.s l.n ≡ begins l.at (split l.sep (drop l.at l.s)) (l.n - l.counter))
