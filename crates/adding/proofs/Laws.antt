-- The hazed frame by its bytes: what a loop over the pixels keeps, and that it ends in the frame of the rules. Assumes nothing.
use mathlib.Core.Path.{◌≡◌, refl, sym, ap, ap₂, ◌∙◌}
use mathlib.Core.List.{List}
use Prim.Native.Nat.{ℕ, zero, suc, ◌+◌, ◌*◌, ◌/◌, ◌%◌, ◌≤◌, ◌<◌}
use native.Mathlib.Nat.{add-zero, div-add-mod'}
use native.Mathlib.Omega.{arith}
use lib.ListN.{length, get_or, set, length-set}
use Rattle.rules.specs.Shape.{Shape}
use Rattle.rules.specs.declared.Rgb.{Rgb}
use Rattle.rules.specs.Light.{at}
use Rattle.rules.specs.Picture.{haze, haze3}
use Rattle.rules.specs.Buffers.{pixel_at, pixels, channel, values, hazed}
use Rattle.rules.proofs.Buffers.{bytes_of, at_pixels, wrote}

-- byte k of the hazed frame
abbrev pub byte_of : Rgb → List ℕ → List ℕ → ℕ → ℕ
byte_of a clean map k = haze (channel (k % 3) a) (get_or clean k 0) (get_or map (k / 3) 0)

-- the bytes of the first p pixels are those of the hazed frame
pub record Added (a : Rgb) (clean map out : List ℕ) (p : ℕ) : Type 0 where
  pub is : (k : ℕ) → k < 3 * p → get_or out k 0 ≡ byte_of a clean map k

pub added_none : (a : Rgb) (clean map out : List ℕ) → Added a clean map out 0
added_none a clean map out = record { is = λ k h. absurd (let z : 1 ≤ 0 = omega arith in omega arith) }

module _ (a : Rgb) (clean map out : List ℕ) (p : ℕ) (room : 3 * p + 3 ≤ length out) (before : Added a clean map out p) where
  -- the value at channel c of the pixel
  value : (c : ℕ) → c < 3 → (v : ℕ) → v ≡ haze (channel c a) (get_or clean (3 * p + c) 0) (get_or map p 0) → v ≡ byte_of a clean map (3 * p + c)
  value c h v e =
      let m : c ≡ (3 * p + c) % 3 = omega arith in
      let d : p ≡ (3 * p + c) / 3 = omega arith in
      e ∙ ap₂ (λ (i j : ℕ). haze (channel i a) (get_or clean (3 * p + c) 0) (get_or map j 0)) m d

  pub added_more : (r g b : ℕ) → r ≡ haze a.r (get_or clean (3 * p) 0) (get_or map p 0)
      → g ≡ haze a.g (get_or clean (3 * p + 1) 0) (get_or map p 0)
      → b ≡ haze a.b (get_or clean (3 * p + 2) 0) (get_or map p 0)
      → Added a clean map (set (set (set out (3 * p) r) (3 * p + 1) g) (3 * p + 2) b) (p + 1)
  added_more r g b er eg eb =
      let f = byte_of a clean map in
      let two = set (set out (3 * p) r) (3 * p + 1) g in
      let red : r ≡ f (3 * p) = rw (add-zero (3 * p)) at (value 0 (omega arith) r (rw (add-zero (3 * p)) er)) in
      let one = wrote f out (3 * p) r (omega arith) before.is red in
      let next : (k : ℕ) → k < 3 * p + 2 → get_or two k 0 ≡ f k =
      λ k h. wrote f (set out (3 * p) r) (3 * p + 1) g (simp length-set (omega arith)) one (value 1 (omega arith) g eg) k (omega arith) in
      let last = wrote f two (3 * p + 2) b (simp length-set (omega arith)) next (value 2 (omega arith) b eb) in
      record { is = λ k h. last k (omega arith) }

-- ---- all pixels

byte_of_lem : (a : Rgb) (clean : List ℕ) (t p c : ℕ) → c < 3 → haze (channel c a) (get_or clean (3 * p + c) 0) t ≡ channel c (haze3 a (pixel_at clean p) t)
unfolding haze3
byte_of_lem a clean t p zero h = ap (λ (n : ℕ). haze a.r (get_or clean n 0) t) (add-zero (3 * p))
byte_of_lem a clean t p (suc zero) h = refl
byte_of_lem a clean t p (suc (suc zero)) h = refl
byte_of_lem a clean t p (suc (suc (suc c))) h = absurd (let z : 1 ≤ 0 = omega arith in omega arith)

at_values : (z : Shape) (l : List ℕ) (p : ℕ) → at z (values z l) p ≡ get_or l p 0
unfolding values
at_values z l p = rw (div-add-mod' p z.w)

pub added_all : (z : Shape) (a : Rgb) (clean map out : List ℕ) → length out ≡ 3 * (z.w * z.h) → Added a clean map out (z.w * z.h) → out ≡ hazed z a clean map
unfolding hazed
added_all z a clean map out n all =
    bytes_of z (λ y x. haze3 a (pixels z clean y x) (values z map y x)) out n
    (λ k h.
    let e : k ≡ 3 * (k / 3) + k % 3 = omega arith in
    all.is k h
    ∙ ap (λ (i : ℕ). haze (channel (k % 3) a) (get_or clean i 0) (get_or map (k / 3) 0)) e
    ∙ byte_of_lem a clean (get_or map (k / 3) 0) (k / 3) (k % 3) (omega arith)
    ∙ sym (ap₂ (λ (i : Rgb) (t : ℕ). channel (k % 3) (haze3 a i t)) (at_pixels z clean (k / 3)) (at_values z map (k / 3))))
