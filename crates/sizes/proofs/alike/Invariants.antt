-- `sizes::alike` meets its contract. The loop's invariant: where `same` holds, the first i pixels are seen alike. Assumes nothing.
use Rattle.sizes.proofs.Bits.{AlikeTo}
use Rattle.sizes.proofs.alike.Given as goal

abbrev pub invariant-loop-i : goal.invariant-loop-i
invariant-loop-i l = AlikeTo l.mask l.at l.other l.i l.same
