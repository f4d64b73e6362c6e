-- `settings::first_with` meets its contract. The invariant: the line that is looked for is among the lines that are left. Assumes nothing.
use mathlib.Core.Path.{◌≡◌}
use Prim.Native.Nat.{◌≤◌, ◌-◌}
use lib.ListN.{length, drop}
use Rattle.fields.specs.Fields.{split}
use Rattle.settings.specs.Texts.{seek, first_with}
use Rattle.settings.proofs.first_with.Given as goal

abbrev pub invariant-loop-at : goal.invariant-loop-at
invariant-loop-at l = (l.at ≤ length l.text) × (l.k ≤ l.at) × (first_with l.text l.name ≡ seek l.k (split 10 (drop l.at l.text)) l.name)

abbrev pub decreases-loop-at : goal.decreases-loop-at
decreases-loop-at l = length l.text - l.at
