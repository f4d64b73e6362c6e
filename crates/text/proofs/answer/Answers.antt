-- `text::answer` meets its contract: what the reader comes to is the verdict on the input. Assumes nothing.
use mathlib.Core.Path.{◌≡◌, subst}
use mathlib.Core.List.{List}
use Prim.Native.Nat.{ℕ}
use native.Mathlib.Omega.{arith}
use Rattle.fields.specs.Written.{Wrote}
use Rattle.text.proofs.Answering.{reply_fault, reply_more, reply_good, accepted}
use Rattle.text.proofs.answer.Goals as goal

pub returns-then-read-input : goal.returns-then-read-input
returns-then-read-input c =
    let r = c.read_frame in
    subst (λ (l : List ℕ). Wrote l c.args.out.now 0 c.put_bad.new.out c.put_bad.result)
    (reply_more c.args.input.now r.result r.new.frame r.ensures c.in-Ok.read c.in-Ok.is c.if-read-input.true) c.put_bad.ensures

pub clear_frame-requires : goal.clear_frame-requires
clear_frame-requires c =
    let r = c.read_frame in
    accepted c.args.input.now r.result r.new.frame r.ensures c.in-Ok.read c.in-Ok.is _ (omega (arith, r.auto.frame)) (omega arith)

pub returns-else-read-input : goal.returns-else-read-input
returns-else-read-input c =
    let r = c.read_frame in
    subst (λ (l : List ℕ). Wrote l c.args.out.now 0 c.clear_frame.new.out c.clear_frame.result)
    (reply_good c.args.input.now r.result r.new.frame r.ensures c.in-Ok.read c.in-Ok.is c.if-read-input.false) c.clear_frame.ensures

pub returns-in-Err : goal.returns-in-Err
returns-in-Err c =
    let r = c.read_frame in
    subst (λ (l : List ℕ). Wrote l c.args.out.now 0 c.put_bad-in-Err.new.out c.put_bad-in-Err.result)
    (reply_fault c.args.input.now r.result r.new.frame r.ensures c.in-Err.fault c.in-Err.is) c.put_bad-in-Err.ensures
