-- `records::read_pixels` meets its contract. Assumes nothing.
use mathlib.Core.Path.{◌≡◌, refl, sym, ap, ◌∙◌, subst}
use mathlib.Core.List.{List}
use Prim.Native.Nat.{ℕ, ◌+◌}
use native.Mathlib.Omega.{arith}
use lib.ListN.{length}
use Rattle.std.specs.Prelude.{Result, Ok, Err}
use Rattle.rules.proofs.Answers.{error_is}
use Rattle.records.specs.declared.Kind.TheVariants.{Px}
use Rattle.records.specs.declared.Reader.{Reader}
use Rattle.records.specs.declared.Fault.{Fault}
use Rattle.records.specs.Reader.{Passed, Painted}
use Rattle.records.proofs.Frames.{Reading, reading_none, reading_stop, reading_on, reading_done}
use Rattle.records.proofs.read_pixels.Goals as goal
use Rattle.records.proofs.read_pixels.Goals.{In_ok-next}

pub loop-p-init : goal.loop-p-init
loop-p-init c =
    reading_none c.args.input.now c.args.n c.args.s (length c.args.frame.now) c.args.frame.now c.requires.0 refl

pub pass-requires : goal.pass-requires
pass-requires c = c.loop-p.invariant.stands

pub returns-in_err-next : goal.returns-in_err-next
returns-in_err-next c =
    let a = c.args in
    let l = c.loop-p in
    subst (λ (r : Result Reader Fault). Painted a.input.now a.n a.s r l.frame) (sym (error_is _ _ c.from_residual.ensures))
    (reading_stop a.input.now a.n a.s (length a.frame.now) l.frame l.t l.p l.invariant _ _ c.loop-p-test.true
    (subst (Passed a.input.now Px l.t) c.in_err-next.was c.pass.ensures))

-- the line that was passed
line : (c : In_ok-next) → Passed c.args.input.now Px c.loop-p.t (Ok c.in_ok-next.next)
line c = subst (Passed c.args.input.now Px c.loop-p.t) c.in_ok-next.was c.pass.ensures

pub overflow_sub-end : goal.overflow_sub-end
overflow_sub-end c = omega (arith, (line (goal.at.overflow_sub-end c).In_ok-next).accepted.on)

pub slice_bounds-put_pixel-count : goal.slice_bounds-put_pixel-count
slice_bounds-put_pixel-count c = omega (arith, (line (goal.at.slice_bounds-put_pixel-count c).In_ok-next).accepted.on)

pub put_pixel-requires : goal.put_pixel-requires
put_pixel-requires c =
    let l = c.loop-p in
    (omega (arith, c.loop-p-test.true, l.invariant.kept, c.requires), (line (goal.at.put_pixel-requires c).In_ok-next).accepted.sound)

pub loop-p-preserved : goal.loop-p-preserved
loop-p-preserved c =
    let a = c.args in
    let l = c.loop-p in
    let u = c.in_ok-next.next in
    subst (λ (f : List ℕ). Reading a.input.now a.n a.s (length a.frame.now) f u (l.p + 1)) (sym c.put_pixel.ensures)
    (reading_on a.input.now a.n a.s (length a.frame.now) l.frame l.t l.p l.invariant u c.loop-p-test.true c.requires.1 (line (goal.at.loop-p-preserved c).In_ok-next))

pub returns : goal.returns
returns c =
    let a = c.args in
    let l = c.loop-p in
    reading_done a.input.now a.n a.s (length a.frame.now) l.frame l.t l.p l.invariant c.loop-p-test.false
