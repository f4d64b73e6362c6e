-- `windows::ahead` meets its contract. The invariant: p has the minima from `first` on before i, the last of them is the least so far, and there
-- was a comparison for each sample after `first`. Assumes nothing.
use mathlib.Core.Path.{◌≡◌}
use Prim.Native.Nat.{◌+◌, ◌≤◌, min}
use Rattle.windows.specs.Span.{span}
use Rattle.windows.specs.Line.{entry, Written}
use Rattle.windows.proofs.ahead.Given as goal

abbrev pub invariant-loop-i : goal.invariant-loop-i
invariant-loop-i l =
    (l.count + l.first + 1 ≡ l.i) × (l.least ≤ 65535) × (l.least ≡ span min (entry l.line) l.first (l.first + l.count))
    × Written (span min (entry l.line) l.first) l.fn.p l.p l.first l.i
