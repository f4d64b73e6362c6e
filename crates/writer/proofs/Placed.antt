-- A row of the frame, and what stands at a position of it of new pixels that are pasted. Assumes nothing.
use mathlib.Core.Path.{◌≡◌, ap, ap₂, ◌∙◌, sym}
use mathlib.Core.List.{List}
use Prim.Native.Nat.{ℕ, ◌+◌, ◌-◌, ◌*◌, ◌/◌, ◌%◌, ◌≤◌, ◌<◌}
use native.Mathlib.Nat.{mul-le-mul_left}
use native.Mathlib.Omega.{arith}
use lib.ListN.{get_or}
use Rattle.rules.specs.Shape.{Shape}
use Rattle.rules.specs.declared.Rect.{Rect}
use Rattle.rules.specs.Light.{at}
use Rattle.rules.specs.Buffers.{pixel_at, pixels, channel, byte_at, placed}
use Rattle.rules.proofs.Buffers.{at_place, byte_of_lem}
use Rattle.planes.proofs.Shown.{row_end}

-- a row of the frame, and how far its positions go
pub record Row (w h y : ℕ) : Type 0 where
  pub end : y * w + w ≤ w * h
  pub count : y ≤ y * w

pub row_of : (w h y : ℕ) → 0 < w → y < h → Row w h y
row_of w h y s l =
    let b : y * 1 ≤ y * w = mul-le-mul_left y s in
    record { end = row_end w h y l; count = omega arith }

-- ---- byte i of the row j of the new pixels, at its place in the frame

pub placed_at : (z : Shape) (c : Rect) (new : List ℕ) (j i : ℕ) → c.x + c.w ≤ z.w → i < 3 * c.w
    → get_or new (3 * (j * c.w) + i) 0 ≡ byte_at z (placed c new) (3 * ((c.y + j) * z.w + c.x) + i)
unfolding placed pixels
placed_at z c new j i fits h =
    let q = 3 * ((c.y + j) * z.w + c.x) + i in
    let p : q / 3 ≡ (c.y + j) * z.w + (c.x + i / 3) = omega arith in
    let m : q % 3 ≡ i % 3 = omega arith in
    let v : c.y + j - c.y ≡ j = omega arith in
    let u : c.x + i / 3 - c.x ≡ i / 3 = omega arith in
    let e : 3 * (j * c.w) + i ≡ 3 * (j * c.w + i / 3) + i % 3 = omega arith in
    ap (λ (n : ℕ). get_or new n 0) e
    ∙ byte_of_lem new (j * c.w + i / 3) (i % 3) (omega arith)
    ∙ ap (channel (i % 3)) (sym (ap₂ (λ (v u : ℕ). pixel_at new (v * c.w + u)) v u))
    ∙ ap (channel (i % 3)) (sym (at_place z (placed c new) (c.y + j) (c.x + i / 3) (omega arith)))
    ∙ sym (ap₂ (λ (n p : ℕ). channel n (at z (placed c new) p)) m p)
