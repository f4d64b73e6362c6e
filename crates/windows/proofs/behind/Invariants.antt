-- `windows::behind` meets its contract. The invariant: q has the minima up to the last sample from i on, the first of them is the least so far, and
-- there was a comparison for each sample before the last. Assumes nothing.
use mathlib.Core.Path.{◌≡◌}
use Prim.Native.Nat.{◌+◌, ◌-◌, ◌≤◌, min}
use Rattle.windows.specs.Span.{span}
use Rattle.windows.specs.Line.{entry, Written}
use Rattle.windows.proofs.behind.Given as goal

abbrev pub invariant-loop-i : goal.invariant-loop-i
invariant-loop-i l =
    (l.first ≤ l.i) × (l.count + l.i ≡ l.end - 1) × (l.least ≤ 65535) × (l.least ≡ span min (entry l.line) l.i (l.end - 1))
    × Written (λ j. span min (entry l.line) j (l.end - 1)) l.fn.q l.q l.i l.end
