-- `ppm::read` keeps its promise: a refused call writes nothing, an accepted one leaves the pixels in the frame. Assumes nothing.
use mathlib.Core.Path.{◌≡◌, sym, ap, ◌∙◌}
use native.Mathlib.Omega.{arith}
use Prim.Native.Nat.{◌-◌}
use lib.ListN.{length, take, drop}
use Rattle.std.specs.Prelude.{Ok}
use Rattle.fields.proofs.Written.{wrote_all}
use Rattle.rules.proofs.Answers.{number_some, or_refused, or_done, error_is, kept, made}
use Rattle.ppm.specs.Promise.{refuse_read}
use Rattle.ppm.proofs.Reading.{Opened, opened, unheaded, bad_read, read_number, lent_fits, copied}
use Rattle.ppm.proofs.Said.{size_said}
use Rattle.ppm.proofs.read.Goals as goal
use Rattle.ppm.proofs.read.Goals.{In_ok-head, In_ok-refuse_read}

-- the header is good
known : (c : In_ok-head) → Opened 54 c.args.s.now c.in_ok-head.head
known c = opened _ _ _ (sym c.header.ensures ∙ c.in_ok-head.ensures.ok_part)

pub returns-in_err-head : goal.returns-in_err-head
returns-in_err-head c =
    let h = c.in_err-head.ensures in
    let e = unheaded h.value h.ok_part ∙ sym (bad_read _ _ (sym c.header.ensures ∙ h.ok_part)) in
    record { answer = error_is _ _ c.from_residual.ensures ∙ or_refused _ _ _ e; after = kept _ _ _ _ e (number_some _) }

pub overflow_sub-s : goal.overflow_sub-s
overflow_sub-s c = (known (goal.at.overflow_sub-s c).In_ok-head).within

pub returns-in_err-refuse_read : goal.returns-in_err-refuse_read
returns-in_err-refuse_read c =
    let e = c.in_err-refuse_read.ensures ∙ read_number (known (goal.at.returns-in_err-refuse_read c).In_ok-head) _ in
    record { answer = error_is _ _ c.from_residual-in_err-refuse_read.ensures ∙ or_refused _ _ _ e; after = kept _ _ _ _ e (number_some _) }

pub slice_bounds-put_word-count : goal.slice_bounds-put_word-count
slice_bounds-put_word-count c = (known (goal.at.slice_bounds-put_word-count c).In_ok-head).within

pub slice_bounds-put_word-start : goal.slice_bounds-put_word-start
slice_bounds-put_word-start c = omega (arith, (known (goal.at.slice_bounds-put_word-start c).In_ok-head).within)

-- nothing is refused
none : (c : In_ok-refuse_read) → let a = c.args in refuse_read a.s.now (length a.frame.now) ≡ 0
none c = sym (c.in_ok-refuse_read.ensures ∙ read_number (known (goal.at.In_ok-refuse_read c).In_ok-head) _)

-- what is copied is as long as the frame
fits : (c : In_ok-refuse_read) → let a = c.args in let start = c.in_ok-head.head.start in
    length (take (length a.s.now - start) (drop start a.s.now)) ≡ length a.frame.now
fits c = ap length (copied (known (goal.at.In_ok-refuse_read c).In_ok-head)) ∙ lent_fits _ _ (none c)

pub put_word-requires : goal.put_word-requires
put_word-requires c = omega (arith, fits (goal.at.put_word-requires c).In_ok-refuse_read)

pub returns : goal.returns
returns c =
    let o = known (goal.at.returns c).In_ok-head in
    let e = none (goal.at.returns c).In_ok-refuse_read in
    record {
      answer = ap Ok (sym (size_said o.says)) ∙ or_done _ _ e;
      after = wrote_all c.put_word.ensures (fits (goal.at.returns c).In_ok-refuse_read) ∙ copied o ∙ made _ _ _ e;
    }
