-- `settings::first_with` meets its contract. The invariant: the line that is looked for is among the lines that are left. Assumes nothing.
use mathlib.Core.Path.{◌≡◌, refl, sym, ap, ◌∙◌}
use mathlib.Core.List.{List}
use Prim.Native.Nat.{ℕ, ◌<◌, ◌-◌}
use native.Mathlib.Omega.{arith}
use lib.ListN.{length, take, drop}
use Rattle.fields.specs.Fields.{field_of, same}
use Rattle.settings.specs.Texts.{first_with}
use Rattle.settings.proofs.Texts.{seek_last, seek_found, seek_on, seek_end}
use Rattle.settings.proofs.first_with.Goals as goal
use Rattle.settings.proofs.first_with.Goals.{After-same}

pub loop-at-init : goal.loop-at-init
unfolding first_with
loop-at-init c = (omega arith, omega arith, refl)

pub returns-then-end-text : goal.returns-then-end-text
returns-then-end-text c =
    let l = c.loop-at in
    let a = c.args in
    sym (l.invariant.2 ∙ seek_last a.text.now a.name.now l.at _ c.end_of-end.ensures l.k c.if-end-text.true)

pub slice_bounds-field-count : goal.slice_bounds-field-count
slice_bounds-field-count c = omega (arith, c.end_of-end.ensures)

-- the test of the line's name, as the two calls tell it
named : (c : After-same)
    → let a = c.args in
    let at = c.loop-at.at in
    let e = c.end_of-end.result in
    same (field_of 9 (take (e - at) (drop at a.text.now)) 1) a.name.now ≡ c.same.result
named c =
    ap (λ (f : List ℕ). same f c.args.name.now) (sym c.field.ensures.field)
    ∙ sym c.same.ensures

pub returns-then-same : goal.returns-then-same
returns-then-same c =
    let l = c.loop-at in
    let a = c.args in
    let e = c.end_of-end in
    let h : e.result < length a.text.now = omega (arith, e.ensures, c.if-end-text.false) in
    sym (l.invariant.2 ∙ seek_found a.text.now a.name.now l.at e.result e.ensures l.k h (named (goal.at.returns-then-same c).After-same ∙ c.if-same.true))

pub overflow_add-at : goal.overflow_add-at
overflow_add-at c =
    omega (arith, c.end_of-end.ensures, c.well_formed)

pub overflow_add-k : goal.overflow_add-k
overflow_add-k c =
    omega (arith, c.end_of-end.ensures, c.well_formed)

pub loop-at-smaller : goal.loop-at-smaller
loop-at-smaller c =
    omega (arith, c.end_of-end.ensures)

pub loop-at-preserved : goal.loop-at-preserved
loop-at-preserved c =
    let l = c.loop-at in
    let a = c.args in
    let e = c.end_of-end in
    let h : e.result < length a.text.now = omega (arith, e.ensures, c.if-end-text.false) in (
      omega arith,
      omega (arith, e.ensures),
      l.invariant.2 ∙ seek_on a.text.now a.name.now l.at e.result e.ensures l.k h (named (goal.at.loop-at-preserved c).After-same ∙ c.if-same.false),
    )

pub returns : goal.returns
returns c =
    let l = c.loop-at in
    let a = c.args in
    sym (l.invariant.2 ∙ seek_end a.text.now a.name.now l.at l.k c.loop-at-test.false)
