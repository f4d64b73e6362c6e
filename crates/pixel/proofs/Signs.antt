-- Signed numbers by way of naturals: what is not below 0 fits where a natural number stands; a number with as much added as makes it natural divides as
-- the number does, rounded down; and what an i32 needs that is held into 0 .. 255. Assumes nothing.
use mathlib.Core.Path.{◌≡◌, refl, ap, ◌∙◌}
use mathlib.Core.Bool.{false, true≢false}
use Prim.Native.Nat.{ℕ, suc, ◌+◌, ◌-◌, ◌*◌, ◌/◌, ◌≤◌, ◌<◌}
use native.Mathlib.Nat.{add_comm, mul-add-div_right, div-mul-le_self, lt-div-mul-add, div-lt_iff_lt-mul, div-eq_of_lt-le}
use native.Mathlib.Omega.{arith}
use lib.IntN.{ℤ, pos, negsuc, neg_ℤ, nat_abs, ◌+ℤ◌, ◌-ℤ◌, +ℤ_idl, +ℤ_assoc}
use lib.Signed.{lt_z, non_neg, shr_z}
use lib.Dec.{T}
use mir.Syntax.{w32, w64}
use mir.Val.{SFits, Fits, to_z, of_z}
use mir.Facts.{to_z-of_z}
use Rattle.std.specs.Int.{int_max, int_min}
use Rattle.std.proofs.lemmas.Int.{ints, clamps}
use Rattle.rules.specs.Transmission.{held}
use Rattle.rules.proofs.Integers.{pos_sub, dif_eq}

pub plain : (v : ℤ) → lt_z v (pos 0) ≡ false → SFits w64 v → T (non_neg v) × Fits w64 (nat_abs v)
plain (pos a) t f = (tt, record { fits = omega (arith, f.sfits) })
plain (negsuc a) t f = absurd (true≢false t)

-- ---- a number with top added, where that is natural

abbrev pub up : ℕ → ℤ → ℕ
up top (pos a) = top + a
up top (negsuc a) = top - suc a

pub up_le : (top : ℕ) (z : ℤ) → up top z ≤ top + nat_abs z
up_le top (pos a) = omega arith
up_le top (negsuc a) = omega arith

up_is : (top : ℕ) (z : ℤ) → nat_abs z ≤ top → pos top +ℤ z ≡ pos (up top z)
up_is top (pos a) h = refl
up_is top (negsuc a) h = pos_sub top (suc a) h

pub up_sub : (top x : ℕ) (w : ℤ) → nat_abs (pos x -ℤ w) ≤ top → pos (x + top) -ℤ w ≡ pos (up top (pos x -ℤ w))
up_sub top x w h =
    ap (λ (n : ℕ). pos n -ℤ w) (add_comm x top) ∙ +ℤ_assoc (pos top) (pos x) (neg_ℤ w) ∙ up_is top (pos x -ℤ w) h

below_div : (m q a n : ℕ) → q * n ≤ a → a < q * n + n → pos (((m + suc q) * n - suc a) / n) -ℤ pos (m + suc q) ≡ negsuc q
below_div m q a n low high =
    let is : ((m + suc q) * n - suc a) / n ≡ m = div-eq_of_lt-le n (omega (arith, low, high)) (omega (arith, low, high)) in
    rw is (dif_eq m (m + suc q) 0 (suc q) (omega arith) ∙ +ℤ_idl (negsuc q))

-- B n more makes the quotient by n B more
pub up_div : (n B : ℕ) (z : ℤ) → 0 < n → nat_abs z ≤ B * n → pos (up (B * n) z / n) -ℤ pos B ≡ shr_z z n
up_div n B (pos a) some h =
    let q : (B * n + a) / n - B ≡ a / n = omega (arith, mul-add-div_right some B a) in
    pos_sub ((B * n + a) / n) B (omega (arith, mul-add-div_right some B a)) ∙ ap pos q
up_div n B (negsuc a) some h =
    let less = (div-lt_iff_lt-mul {x = a} {y = B} some).1 (omega (arith, h)) in
    let whole : B - suc (a / n) + suc (a / n) ≡ B = omega (arith, less) in
    rw whole at (below_div (B - suc (a / n)) (a / n) a n (div-mul-le_self a n) (lt-div-mul-add some))

-- ---- an i32, and one that is held into 0 .. 255

abbrev pub rd32 : ℤ → ℤ
rd32 z = to_z w32 (of_z w32 z)

pub rd32_is : (z : ℤ) → SFits w32 z → rd32 z ≡ z
rd32_is z f = to_z-of_z f

pub clamp_is : (v : ℤ) → int_max (pos 0) (int_min v (pos 255)) ≡ pos (held 255 v)
clamp_is (pos n) = omega (arith, ints, clamps)
clamp_is (negsuc n) = omega (arith, ints, clamps)
