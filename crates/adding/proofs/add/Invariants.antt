-- `adding::add` meets its contract. The loop's invariant: the bytes of the pixels passed are those of the hazed frame. Assumes nothing.
use Rattle.adding.proofs.Laws.{Added}
use Rattle.adding.proofs.add.Given as goal

abbrev pub invariant-loop-p : goal.invariant-loop-p
invariant-loop-p l = Added l.a l.clean l.map l.out l.p
