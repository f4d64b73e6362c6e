-- `sizes::inverse_row` meets its contract. The loop's invariant is the contract at i sizes. Assumes nothing.
use mathlib.Core.Path.{◌≡◌}
use lib.ListN.{length}
use Rattle.sizes.specs.Sizes.{Table, Inverted}
use Rattle.sizes.proofs.inverse_row.Given as goal

abbrev pub invariant-loop-i : goal.invariant-loop-i
invariant-loop-i l = (length l.table ≡ length l.initial.table) × Table l.table × Inverted l.i l.ns l.inverses
