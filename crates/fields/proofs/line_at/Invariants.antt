-- `fields::line_at` meets its contract. The invariant: reading on from place i in the present field gives the line's answer. Assumes nothing.
use mathlib.Core.Path.{◌≡◌}
use Prim.Native.Nat.{◌≤◌, ◌+◌}
use lib.ListN.{drop}
use Rattle.fields.specs.Bytes.{scan, line_of}
use Rattle.fields.proofs.line_at.Given as goal

abbrev pub invariant-loop-i : goal.invariant-loop-i
invariant-loop-i l = (l.fields ≤ l.i + 1) × (line_of l.s l.at ≡ scan (drop l.i l.s) l.i l.fields)
