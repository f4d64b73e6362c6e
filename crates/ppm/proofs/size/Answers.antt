-- `ppm::size` keeps its promise: the number of the refusal, or the size that the header says. Assumes nothing.
use mathlib.Core.Path.{sym, ap, ◌∙◌}
use Rattle.std.specs.Prelude.{Ok}
use Rattle.rules.proofs.Answers.{or_refused, or_done, error_is}
use Rattle.ppm.proofs.Reading.{Opened, opened, unheaded, bad_size_lem, size_number}
use Rattle.ppm.proofs.Said.{size_said}
use Rattle.ppm.proofs.size.Goals as goal
use Rattle.ppm.proofs.size.Goals.{In_ok-head}

-- the header is good
known : (c : In_ok-head) → Opened 54 c.args.s.now c.in_ok-head.head
known c = opened _ _ _ (sym c.header.ensures ∙ c.in_ok-head.ensures.ok_part)

pub returns-in_err-head : goal.returns-in_err-head
returns-in_err-head c =
    let h = c.in_err-head.ensures in
    let e = unheaded h.value h.ok_part ∙ sym (bad_size_lem _ (sym c.header.ensures ∙ h.ok_part)) in
    record { answer = error_is _ _ c.from_residual.ensures ∙ or_refused _ _ _ e }

pub overflow_sub-bytes : goal.overflow_sub-bytes
overflow_sub-bytes c = (known (goal.at.overflow_sub-bytes c).In_ok-head).within

pub returns-in_err-refuse_read : goal.returns-in_err-refuse_read
returns-in_err-refuse_read c =
    let e = c.in_err-refuse_read.ensures ∙ size_number (known (goal.at.returns-in_err-refuse_read c).In_ok-head) in
    record { answer = error_is _ _ c.from_residual-in_err-refuse_read.ensures ∙ or_refused _ _ _ e }

pub returns : goal.returns
returns c =
    let o = known (goal.at.returns c).In_ok-head in
    record { answer = ap Ok (sym (size_said o.says)) ∙ or_done _ _ (sym (c.in_ok-refuse_read.ensures ∙ size_number o)) }
