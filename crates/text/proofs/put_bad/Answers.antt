-- `text::put_bad` meets its contract. Assumes nothing.
use native.Mathlib.Omega.{arith}
use Rattle.text.specs.Text.{bad_line}
use Rattle.text.proofs.Writing.{bad_most}
use Rattle.text.proofs.put_bad.Goals as goal

pub put_row-requires : goal.put_row-requires
put_row-requires c = omega (arith, c.requires, bad_most c.from.result c.args.fault.line (omega (arith, c.from.ensures)) (omega arith))

pub returns : goal.returns
unfolding bad_line
returns c = rw (c.from.ensures, c.from-number.ensures) at c.put_row.ensures
