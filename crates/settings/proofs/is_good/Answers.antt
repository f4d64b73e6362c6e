-- `settings::is_good` meets its contract. The invariant: the text is good exactly if what is left of it is. Assumes nothing.
use mathlib.Core.Path.{refl, sym, ◌∙◌}
use native.Mathlib.Omega.{arith}
use Rattle.fields.proofs.Lines.{Ended, ended}
use Rattle.settings.proofs.Texts.{good_on, good_off, good_end, good_broken}
use Rattle.settings.proofs.is_good.Goals as goal
use Rattle.settings.proofs.is_good.Goals.{In-Some}

pub loop-at-init : goal.loop-at-init
loop-at-init c = (omega arith, refl)

-- the line, where it ends
found : (c : In-Some)
    → Ended c.args.text.now c.loop-at.at c.in-Some.line.end c.in-Some.line.fields
found c =
    let l = c.loop-at in
    ended _ l.at _ _ l.invariant.0 (sym c.line_at.ensures ∙ c.in-Some.is)

pub slice_bounds-is_kept-count : goal.slice_bounds-is_kept-count
slice_bounds-is_kept-count c = omega (arith, found (goal.at.slice_bounds-is_kept-count c).In-Some)

pub slice_bounds-is_kept-start : goal.slice_bounds-is_kept-start
slice_bounds-is_kept-start c = omega (arith, found (goal.at.slice_bounds-is_kept-start c).In-Some)

pub slice_bounds-is_kept-end : goal.slice_bounds-is_kept-end
slice_bounds-is_kept-end c = omega (arith, found (goal.at.slice_bounds-is_kept-end c).In-Some)

pub is_kept-requires : goal.is_kept-requires
is_kept-requires c = (found (goal.at.is_kept-requires c).In-Some).count

pub returns-then-not-is_kept : goal.returns-then-not-is_kept
returns-then-not-is_kept c =
    let l = c.loop-at in
    sym (l.invariant.1 ∙ good_off _ l.at _ _ (found (goal.at.returns-then-not-is_kept c).In-Some) (sym c.is_kept.ensures ∙ c.if-not-is_kept.true))

pub overflow_add-at : goal.overflow_add-at
overflow_add-at c =
    omega (arith, found (goal.at.overflow_add-at c).In-Some, c.well_formed)

pub loop-at-smaller : goal.loop-at-smaller
loop-at-smaller c = omega (arith, found (goal.at.loop-at-smaller c).In-Some)

pub loop-at-preserved : goal.loop-at-preserved
loop-at-preserved c =
    let l = c.loop-at in
    (omega (arith, found (goal.at.loop-at-preserved c).In-Some), l.invariant.1 ∙ good_on _ l.at _ _ (found (goal.at.loop-at-preserved c).In-Some) (sym c.is_kept.ensures ∙ c.if-not-is_kept.false))

pub returns-in-None : goal.returns-in-None
returns-in-None c =
    let l = c.loop-at in
    sym (l.invariant.1 ∙ good_broken _ l.at c.loop-at-test.true (sym c.line_at.ensures ∙ c.in-None.is))

pub returns : goal.returns
returns c = let l = c.loop-at in sym (l.invariant.1 ∙ good_end _ l.at c.loop-at-test.false)
