-- `records::read_pixels` meets its contract. The invariant is `Reading`: the frame up to pixel p and the pixels of what is left of the input are the pixels
-- of the whole, and the verdict on the whole is the verdict on what is left. Assumes nothing.
use lib.ListN.{length}
use Rattle.records.proofs.Frames.{Reading}
use Rattle.records.proofs.read_pixels.Given as goal

abbrev pub invariant-loop-p : goal.invariant-loop-p
invariant-loop-p l = Reading l.input l.n l.initial.t (length l.initial.frame) l.frame l.t l.p
