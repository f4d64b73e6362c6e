-- `fields::put_word` meets its contract. The invariant: writing what is left of the word from the present place on gives what writing the whole word
-- gives. Assumes nothing.
use mathlib.Core.Path.{◌≡◌, refl, sym, ◌∙◌}
use Prim.Native.Nat.{◌+◌}
use native.Mathlib.Nat.{add-zero}
use native.Mathlib.Omega.{arith}
use lib.ListN.{length, get_or, set, length-set}
use Rattle.fields.proofs.Written.{word_more, word_done}
use Rattle.fields.proofs.put_word.Goals as goal

pub loop-i-init : goal.loop-i-init
loop-i-init c = (refl, rw add-zero)

pub loop-i-preserved : goal.loop-i-preserved
loop-i-preserved c =
    let l = c.loop-i in
    let a = c.args in
    let n : length (set l.out (a.at + l.i) (get_or a.word.now l.i 0)) ≡ length a.out.now = simp length-set l.invariant.0 in
    (n, l.invariant.1 ∙ word_more a.word.now l.out a.at l.i (omega arith))

pub returns : goal.returns
returns c =
    let l = c.loop-i in
    let a = c.args in
    record { ends = refl; within = c.requires; is = sym (l.invariant.1 ∙ word_done a.word.now l.out a.at l.i (omega arith)) }
