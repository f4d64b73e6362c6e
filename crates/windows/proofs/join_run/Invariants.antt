-- `windows::join_run` meets its contract. The invariant: the windows that begin before i are written, with a comparison each. Assumes nothing.
use mathlib.Core.Path.{◌≡◌}
use Prim.Native.Nat.{◌+◌, ◌-◌, min}
use Rattle.windows.specs.Line.{entry, Written}
use Rattle.windows.proofs.join_run.Given as goal

abbrev pub invariant-loop-i : goal.invariant-loop-i
invariant-loop-i l =
    (l.count + l.a ≡ l.i) × Written (λ j. min (entry l.q (j - l.s)) (entry l.p (j + l.s))) l.initial.line l.line (l.a + l.s) (l.i + l.s)
