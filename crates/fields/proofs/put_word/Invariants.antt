-- `fields::put_word` meets its contract. The invariant: writing what is left of the word from the present place on gives what writing the whole word
-- gives. Assumes nothing.
use mathlib.Core.Path.{◌≡◌}
use Prim.Native.Nat.{◌+◌}
use lib.ListN.{length, drop}
use lib.Seq.{sets}
use Rattle.fields.proofs.put_word.Given as goal

abbrev pub invariant-loop-i : goal.invariant-loop-i
invariant-loop-i l = (length l.out ≡ length l.initial.out) × (sets l.initial.out l.at l.word ≡ sets l.out (l.at + l.i) (drop l.i l.word))
