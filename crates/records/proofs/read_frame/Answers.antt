-- `records::read_frame` meets its contract: the first line, the second, then the pixels. Assumes nothing.
use mathlib.Core.Path.{◌≡◌, sym, ap, ◌∙◌, subst}
use Prim.Native.Nat.{◌≤◌}
use native.Mathlib.Omega.{arith}
use Rattle.std.specs.Prelude.{Result, Ok, Err}
use Rattle.rules.proofs.Answers.{error_is}
use Rattle.records.specs.declared.Kind.TheVariants.{Size, Set}
use Rattle.records.specs.declared.Fault.{Fault}
use Rattle.records.specs.declared.Frame.{Frame}
use Rattle.records.specs.Records.{large}
use Rattle.records.specs.Judging.{cells}
use Rattle.records.specs.Reader.{Passed, Painted, Framed}
use Rattle.records.proofs.Frames.{size_facts, few, framed_first, framed_second, framed_third, framed_pixels}
use Rattle.records.proofs.read_frame.Goals as goal
use Rattle.records.proofs.read_frame.Goals.{After-size_of-z, In_ok-one, In_ok-two}

-- the first line has no fault, and the second has none
first : (c : In_ok-one) → Passed c.args.input.now Size c.args.s (Ok c.in_ok-one.one)
first c = subst (Passed c.args.input.now Size c.args.s) c.in_ok-one.was c.pass.ensures

second : (c : In_ok-two) → Passed c.args.input.now Set c.in_ok-one.one (Ok c.in_ok-two.two)
second c = subst (Passed c.args.input.now Set c.in_ok-one.one) c.in_ok-two.was c.pass-2.ensures

small : (c : After-size_of-z) → cells c.size_of-z.result ≤ 576
small c = few _ (ap large c.size_of-z.ensures ∙ (size_facts _ (first (goal.at.After-size_of-z c).In_ok-one).accepted.sound).1)

pub returns-in_err-one : goal.returns-in_err-one
returns-in_err-one c =
    let a = c.args in
    subst (λ (r : Result Frame Fault). Framed a.input.now a.s r a.frame.now) (sym (error_is _ _ c.from_residual.ensures))
    (framed_first a.input.now a.s a.frame.now _ (subst (Passed a.input.now Size a.s) c.in_err-one.was c.pass.ensures))

pub returns-in_err-two : goal.returns-in_err-two
returns-in_err-two c =
    let a = c.args in
    subst (λ (r : Result Frame Fault). Framed a.input.now a.s r a.frame.now) (sym (error_is _ _ c.from_residual-in_err-two.ensures))
    (framed_second a.input.now a.s a.frame.now _ (first (goal.at.returns-in_err-two c).In_ok-one) _
    (subst (Passed a.input.now Set c.in_ok-one.one) c.in_err-two.was c.pass-2.ensures))

pub overflow_sub-end : goal.overflow_sub-end
overflow_sub-end c = omega (arith, (first (goal.at.overflow_sub-end c).In_ok-one).accepted.on)

pub overflow_sub-last : goal.overflow_sub-last
overflow_sub-last c = omega (arith, (second (goal.at.overflow_sub-last c).In_ok-two).accepted.on)

pub slice_bounds-size_of-count : goal.slice_bounds-size_of-count
slice_bounds-size_of-count c = omega (arith, (first (goal.at.slice_bounds-size_of-count c).In_ok-one).accepted.on)

pub slice_bounds-settings_of-count : goal.slice_bounds-settings_of-count
slice_bounds-settings_of-count c = omega (arith, (second (goal.at.slice_bounds-settings_of-count c).In_ok-two).accepted.on)

pub overflow_mul-z : goal.overflow_mul-z
overflow_mul-z c = omega (arith, small (goal.at.overflow_mul-z c).After-size_of-z)

pub read_pixels-requires : goal.read_pixels-requires
read_pixels-requires c =
    ((second (goal.at.read_pixels-requires c).In_ok-two).placed, omega (arith, small (goal.at.read_pixels-requires c).After-size_of-z, c.requires.1))

pub returns-in_err-next : goal.returns-in_err-next
returns-in_err-next c =
    let a = c.args in
    subst (λ (r : Result Frame Fault). Framed a.input.now a.s r c.read_pixels.new.frame) (sym (error_is _ _ c.from_residual-in_err-next.ensures))
    (framed_third a.input.now a.s c.read_pixels.new.frame _ (first (goal.at.returns-in_err-next c).In_ok-one) _ (second (goal.at.returns-in_err-next c).In_ok-two)
    c.size_of-z.result c.settings_of-k.result c.size_of-z.ensures c.settings_of-k.ensures _
    (subst (λ r. Painted a.input.now (cells c.size_of-z.result) c.in_ok-two.two r c.read_pixels.new.frame) c.in_err-next.was c.read_pixels.ensures))

pub returns : goal.returns
returns c =
    let a = c.args in
    framed_pixels a.input.now a.s c.read_pixels.new.frame _ (first (goal.at.returns c).In_ok-one) _ (second (goal.at.returns c).In_ok-two)
    c.size_of-z.result c.settings_of-k.result c.size_of-z.ensures c.settings_of-k.ensures _
    (subst (λ r. Painted a.input.now (cells c.size_of-z.result) c.in_ok-two.two r c.read_pixels.new.frame) c.in_ok-next.was c.read_pixels.ensures)
