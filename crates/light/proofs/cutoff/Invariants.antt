-- `light::cutoff` meets its contract. The loop's invariant: `above`, fewer than m, are at least v. Assumes nothing.
use mathlib.Core.Path.{◌≡◌}
use Prim.Native.Nat.{◌<◌}
use Rattle.light.specs.Steps.{at_least}
use Rattle.light.proofs.cutoff.Given as goal

abbrev pub invariant-loop-v : goal.invariant-loop-v
invariant-loop-v l = (l.above ≡ at_least l.counts l.v) × (l.above < l.m)
