-- `settings::is_word` meets its contract. The invariant: all bytes are letters exactly if those that are left are. Assumes nothing.
use mathlib.Core.Path.{◌≡◌}
use Prim.Native.Nat.{◌≤◌, ◌<◌}
use lib.ListN.{length, drop}
use Rattle.fields.specs.Every.{every}
use Rattle.settings.specs.Texts.{letter}
use Rattle.settings.proofs.is_word.Given as goal

abbrev pub invariant-loop-b : goal.invariant-loop-b
invariant-loop-b l = (0 < length l.s) × (length l.s ≤ 16) × (every letter l.s ≡ every letter (drop l.b-index l.s))
