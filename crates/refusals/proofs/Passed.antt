-- What is known behind the tests that a call has passed. Assumes nothing.
use mathlib.Core.Path.{◌≡◌, refl, sym, ◌∙◌}
use mathlib.Core.Bool.{Bool, true, false, cond}
use Prim.Native.Nat.{◌*◌, ◌≤◌}
use native.Mathlib.Nat.{mul-le-mul}
use native.Mathlib.Omega.{arith}
use Rattle.std.specs.Prelude.{Result, Ok, Err}
use Rattle.rules.specs.declared.Size.{Size}
use Rattle.rules.specs.declared.Rect.{Rect}
use Rattle.rules.specs.declared.Refusal.{Refusal}
use Rattle.rules.specs.declared.Refusal.TheVariants as refusal
use Rattle.rules.specs.Shape.{described}
use Rattle.rules.specs.Good.{GoodSize}
use Rattle.rules.specs.Refusals.{bad_size, bad_rect}
use Rattle.rules.proofs.Good.{size_good, rect_good}

pub passed : (b : Bool) (e : Refusal) (u : Unit {0}) → cond b (Err e) (Ok tt) ≡ Ok u → b ≡ false
passed true e u h = absurd (cc)
passed false e u h = refl

-- behind the first test of every call the size is good
pub size_passed :
    {z : Size} {b : Bool} {r : Result (Unit {0}) Refusal} {u : Unit {0}}
    → b ≡ bad_size z
    → r ≡ cond b (Err refusal.Size) (Ok tt)
    → r ≡ Ok u
    → GoodSize (described z)
size_passed is told ok = size_good _ (sym is ∙ passed _ _ _ (sym told ∙ ok))

-- a rectangle inside a good frame has no more pixels than it
pub rect_small : (z : Size) (c : Rect) → GoodSize (described z) → bad_rect z c ≡ false → c.w * c.h ≤ 262144
rect_small z c g e =
    let r = rect_good z c e in
    let w : c.w ≤ z.w = omega arith in
    let h : c.h ≤ z.h = omega arith in
    omega (arith, mul-le-mul w h)
