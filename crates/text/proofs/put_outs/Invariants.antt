-- `text::put_outs` meets its contract. The invariant is `Listed`: writing the lines that are left from the present place on gives what writing all of
-- them gives. Assumes nothing.
use lib.ListN.{length}
use Rattle.text.specs.Text.{out_at}
use Rattle.text.proofs.Writing.{Listed}
use Rattle.text.proofs.put_outs.Given as goal

abbrev pub invariant-loop-p : goal.invariant-loop-p
invariant-loop-p l = Listed (out_at l.map l.picture) (length l.map) l.at l.initial.out l.out l.next l.p
