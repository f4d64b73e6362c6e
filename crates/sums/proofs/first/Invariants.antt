-- `sums::first` meets its contract. The loop's invariant: s is the sum up to i, as the machine reads it back. Assumes nothing.
use mathlib.Core.Path.{◌≡◌}
use Rattle.rules.proofs.Integers.{rd}
use Rattle.sums.specs.Sum.{entry, range_sum}
use Rattle.sums.proofs.first.Given as goal

abbrev pub invariant-loop-i : goal.invariant-loop-i
invariant-loop-i l = l.s ≡ rd (range_sum (entry l.cols) l.from l.i)
