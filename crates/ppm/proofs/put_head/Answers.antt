-- `ppm::put_head` meets its contract: one piece after another. Assumes nothing.
use Rattle.fields.proofs.Written.{then}
use Rattle.ppm.specs.File.{head}
use Rattle.ppm.proofs.put_head.Goals as goal

pub returns : goal.returns
unfolding head
returns c =
    then (then (then (then c.put_word-wide.ensures c.put_number-blank.ensures) c.put_word-tall.ensures) c.put_number-end.ensures) c.put_word.ensures
