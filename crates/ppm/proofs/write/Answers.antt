-- `ppm::write` keeps its promise: a refused call writes nothing, an accepted one leaves the file in the output. Assumes nothing.
use mathlib.Core.Path.{sym, ◌∙◌}
use native.Mathlib.Omega.{arith}
use lib.ListN.{length}
use Rattle.rules.proofs.Answers.{or_done, made}
use Rattle.fields.proofs.Written.{then, wrote_all}
use Rattle.ppm.proofs.Long.{head_long, long_is}
use Rattle.ppm.proofs.Reading.{Writable, writable}
use Rattle.ppm.proofs.write.Goals as goal
use Rattle.ppm.proofs.write.Goals.{In_ok-refuse_write}

known : (c : In_ok-refuse_write) → let a = c.args in Writable a.z (length a.frame.now) (length a.out.now)
known c = writable _ _ _ (sym c.in_ok-refuse_write.ensures)

pub put_head-at-requires : goal.put_head-at-requires
put_head-at-requires c = let k = known (goal.at.put_head-at-requires c).In_ok-refuse_write in omega (arith, head_long c.args.z, k.whole)

pub put_word-requires : goal.put_word-requires
put_word-requires c =
    let k = known (goal.at.put_word-requires c).In_ok-refuse_write in
    omega (arith, head_long c.args.z, k.whole, k.pixels, c.put_head-at.ensures.ends)

pub returns : goal.returns
returns c =
    let a = c.args in
    let k = known (goal.at.returns c).In_ok-refuse_write in
    let e = sym c.in_ok-refuse_write.ensures in
    record {
      answer = or_done _ _ e;
      after = wrote_all (then c.put_head-at.ensures c.put_word.ensures) (long_is a.z a.frame.now k.pixels ∙ sym k.whole) ∙ made _ _ _ e;
    }
