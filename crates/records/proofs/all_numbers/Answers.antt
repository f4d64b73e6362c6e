-- `records::all_numbers` meets its contract. The invariant: all fields are numbers exactly if those from i on are. Assumes nothing.
use mathlib.Core.Path.{refl, sym, ◌∙◌}
use mathlib.Core.List.{[]}
use native.Mathlib.Omega.{arith}
use Rattle.fields.specs.Fields.{split, field_of}
use Rattle.fields.specs.Decimal.{numeral}
use Rattle.fields.proofs.Every.{every_on, every_off, every_end}
use Rattle.records.proofs.all_numbers.Goals as goal

pub loop-i-init : goal.loop-i-init
loop-i-init c = refl

pub returns-then-not-is_number : goal.returns-then-not-is_number
unfolding field_of
returns-then-not-is_number c =
    let l = c.loop-i in
    let a = c.args in
    sym (l.invariant ∙ every_off numeral (split 9 a.line.now) l.i [] (omega arith) (sym c.is_number.ensures ∙ c.if-not-is_number.true))

pub loop-i-preserved : goal.loop-i-preserved
unfolding field_of
loop-i-preserved c =
    let l = c.loop-i in
    let a = c.args in
    l.invariant ∙ every_on numeral (split 9 a.line.now) l.i [] (omega arith) (sym c.is_number.ensures ∙ c.if-not-is_number.false)

pub returns : goal.returns
returns c =
    let l = c.loop-i in
    let a = c.args in
    sym (l.invariant ∙ every_end numeral (split 9 a.line.now) l.i (omega arith))
