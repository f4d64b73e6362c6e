-- `records::pass` meets its contract: the reader's answer on the line, then the judge's. Assumes nothing.
use mathlib.Core.Path.{◌≡◌, sym, ap, ◌∙◌}
use native.Mathlib.Omega.{arith}
use Rattle.std.specs.Prelude.{Result}
use Rattle.rules.specs.declared.Refusal.{Refusal}
use Rattle.rules.specs.Answers.{said}
use Rattle.fields.proofs.Lines.{Ended, ended}
use Rattle.records.proofs.Passing.{pass_broken, pass_fault, pass_on}
use Rattle.records.proofs.pass.Goals as goal
use Rattle.records.proofs.pass.Goals.{In-Some}

-- the line, where it ends
found : (c : In-Some) → Ended c.args.input.now c.args.s.at c.in-Some.found.end c.in-Some.found.fields
found c = ended c.args.input.now c.args.s.at _ _ c.requires.within (sym c.line_at.ensures ∙ c.in-Some.is)

pub slice_bounds-fault_of-count : goal.slice_bounds-fault_of-count
slice_bounds-fault_of-count c = omega (arith, found (goal.at.slice_bounds-fault_of-count c).In-Some)

pub slice_bounds-fault_of-start : goal.slice_bounds-fault_of-start
slice_bounds-fault_of-start c = omega (arith, found (goal.at.slice_bounds-fault_of-start c).In-Some)

pub slice_bounds-fault_of-end : goal.slice_bounds-fault_of-end
slice_bounds-fault_of-end c = omega (arith, found (goal.at.slice_bounds-fault_of-end c).In-Some)

pub fault_of-requires : goal.fault_of-requires
fault_of-requires c = (found (goal.at.fault_of-requires c).In-Some).count

pub returns-in-Ok : goal.returns-in-Ok
returns-in-Ok c =
    let told = sym (ap (said {A = Unit {0}}) c.in-Ok.is) ∙ c.fault_of.ensures in
    pass_on c.args.input.now c.args.kind c.args.s c.requires _ _ (found (goal.at.returns-in-Ok c).In-Some) told

pub returns-in-Err : goal.returns-in-Err
returns-in-Err c =
    let told = sym (ap (said {A = Unit {0}}) c.in-Err.is) ∙ c.fault_of.ensures in
    pass_fault c.args.input.now c.args.kind c.args.s c.requires _ _ (found (goal.at.returns-in-Err c).In-Some) _ told

pub returns-in-None : goal.returns-in-None
returns-in-None c = pass_broken c.args.input.now c.args.kind c.args.s c.requires (sym c.line_at.ensures ∙ c.in-None.is)
