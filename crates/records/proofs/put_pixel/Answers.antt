-- `records::put_pixel` meets its contract: the line has no fault, so its numbers are bytes. Assumes nothing.
use Prim.Native.Nat.{◌*◌}
use native.Mathlib.Omega.{arith}
use lib.ListN.{length-set}
use Rattle.records.specs.Records.{colour_of}
use Rattle.records.proofs.Frames.{px_facts, three}
use Rattle.records.proofs.put_pixel.Goals as goal

pub overflow_cast-frame : goal.overflow_cast-frame
overflow_cast-frame c = omega (arith, px_facts _ c.requires.1)

pub overflow_cast-frame-2 : goal.overflow_cast-frame-2
overflow_cast-frame-2 c = omega (arith, px_facts _ c.requires.1)

pub bounds-frame-i-2 : goal.bounds-frame-i-2
bounds-frame-i-2 c = simp length-set (omega arith)

pub overflow_cast-frame-3 : goal.overflow_cast-frame-3
overflow_cast-frame-3 c = omega (arith, px_facts _ c.requires.1)

pub returns : goal.returns
unfolding colour_of
returns c =
    let a = c.args in
    rw (c.number_at.ensures, c.number_at-2.ensures, c.number_at-3.ensures) (three a.frame.now (3 * a.p) _ _ _)
