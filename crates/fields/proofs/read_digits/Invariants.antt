-- `fields::read_digits` meets its contract. The invariant: the digits that are left, read on from the present value, give the number. Assumes nothing.
use mathlib.Core.Path.{◌≡◌}
use Prim.Native.Nat.{◌<◌, ◌^◌}
use lib.ListN.{drop}
use Rattle.fields.specs.Decimal.{digits, value_from}
use Rattle.fields.proofs.read_digits.Given as goal

abbrev pub invariant-loop-b : goal.invariant-loop-b
invariant-loop-b l =
    (digits l.s ≡ digits (drop l.b-index l.s)) × (value_from 0 l.s ≡ value_from l.v (drop l.b-index l.s)) × (l.v < 10 ^ l.b-index)
