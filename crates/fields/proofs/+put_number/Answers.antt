-- `fields::put_number` meets its contract: all digits but the last are those of a tenth of the number. Assumes nothing.
use Prim.Native.Nat.{◌+◌, ◌%◌}
use native.Mathlib.Omega.{arith}
use Rattle.fields.proofs.Written.{then, one, digit_more, length_more}
use Rattle.fields.proofs.+put_number.Goals as goal

pub returns : goal.returns
returns t c =
    let a = c.args in
    let p = c.put_number-last in
    rw (digit_more a.n c.if-n-lt10.false)
    (then p.ensures (one (48 + a.n % 10) p.new.out p.result (omega (arith, p.ensures.ends, p.auto.out, length_more a.n c.if-n-lt10.false, c.requires))))
