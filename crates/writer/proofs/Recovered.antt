-- Cleared pixels: one more of a run, and the run of a row as one of the whole picture. Assumes nothing.
use mathlib.Core.Path.{◌≡◌, ap, ap₂, ◌∙◌, sym}
use mathlib.Core.List.{List}
use Prim.Native.Nat.{ℕ, ◌+◌, ◌-◌, ◌*◌, ◌/◌, ◌%◌, ◌≤◌, ◌<◌, max}
use native.Mathlib.Nat.{div-add-mod'}
use native.Mathlib.Omega.{arith}
use lib.ListN.{length, get_or, set}
use Rattle.rules.specs.Shape.{Shape}
use Rattle.rules.specs.declared.Rgb.{Rgb}
use Rattle.rules.specs.Light.{at}
use Rattle.rules.specs.Picture.{recover, recover3}
use Rattle.rules.specs.Buffers.{pixel_at, pixels, values, channel, byte_at}
use Rattle.planes.proofs.Tails.{rest, rest_at}
use Rattle.writer.specs.Run.{Run}
use Rattle.writer.specs.Row.{ScaleOf, Scales, floored_at, Floored, bytes_of, cleared_by}
use Rattle.writer.specs.Write.{recovered_by}
use Rattle.writer.proofs.Runs.{run_pixel, run_as}

-- j is byte i under light a, recovered by the scale k, for each transmission that k is a scale of
abbrev pub ByScale : ℕ → ℕ → ℕ → ℕ → Type 0
ByScale a i k j = (t : ℕ) → 0 < t → t ≤ 10000 → ScaleOf t k → j ≡ recover a i t

-- three channels by one scale
recovered_is : (a i : Rgb) (k r g b t : ℕ) → ByScale a.r i.r k r → ByScale a.g i.g k g → ByScale a.b i.b k b → 0 < t → t ≤ 10000 → ScaleOf t k
    → record { r = r; g = g; b = b } ≡ recover3 a i t
unfolding recover3
recovered_is a i k r g b t er eg eb lo hi s =
    λ j. record { r = er t lo hi s j; g = eg t lo hi s j; b = eb t lo hi s j }

-- one pixel more, at position p + x
pub recover_more : (a i : Rgb) (frame : List ℕ) (p n x r g b : ℕ) (T : ℕ → ℕ) (scales old new : List ℕ)
    → i ≡ pixel_at frame (p + x) → ByScale a.r i.r (get_or scales x 0) r → ByScale a.g i.g (get_or scales x 0) g → ByScale a.b i.b (get_or scales x 0) b
    → Floored T n → Scales T n scales → x < n → 3 * x + 3 ≤ length new
    → Run (bytes_of (cleared_by a frame p T)) (3 * p) (3 * x) old new
    → Run (bytes_of (cleared_by a frame p T)) (3 * p) (3 * (x + 1)) old (set (set (set new (3 * x) r) (3 * x + 1) g) (3 * x + 2) b)
recover_more a i frame p n x r g b T scales old new ei er eg eb fl sc l room run =
    let e : x ≡ p + x - p = omega arith in
    run_pixel (cleared_by a frame p T) p x (record { r = r; g = g; b = b }) old new run room
    (recovered_is a i (get_or scales x 0) r g b (T x) er eg eb (fl x l).0 (fl x l).1 (sc.is x l) ∙ ap₂ (recover3 a) ei (ap T e))

-- ---- a row of the picture, from the map entries that start at position p

module _ (t0 : ℕ) (map : List ℕ) where
  -- its transmissions
  pub row_floored : (p n : ℕ) → 0 < t0 → t0 ≤ 10000 → ((k : ℕ) → k < n → get_or (rest map p) k 0 ≤ 10000) → Floored (floored_at (rest map p) t0) n
  row_floored p n some most le k h = (omega arith, omega (arith, le k h))

  -- its bytes are those of the whole picture
  pub row_bytes : (z : Shape) (a : Rgb) (frame : List ℕ) (p n : ℕ) (old new : List ℕ)
      → Run (bytes_of (cleared_by a frame p (floored_at (rest map p) t0))) (3 * p) (3 * n) old new
      → Run (byte_at z (recovered_by a t0 (pixels z frame) (values z map))) (3 * p) (3 * n) old new
  unfolding pixels values
  row_bytes z a frame p n old new r =
      run_as (bytes_of (cleared_by a frame p (floored_at (rest map p) t0))) (byte_at z (recovered_by a t0 (pixels z frame) (values z map))) (3 * p) (3 * p) (3 * n) old new
      (λ k h. ap (channel ((3 * p + k) % 3)) (pixel_is ((3 * p + k) / 3) (omega arith)))
      r
    where
      pixel_is : (q : ℕ) → p ≤ q → cleared_by a frame p (floored_at (rest map p) t0) q ≡ at z (recovered_by a t0 (pixels z frame) (values z map)) q
      pixel_is q lo =
          let place : q ≡ q / z.w * z.w + q % z.w = sym (div-add-mod' q z.w) in
          let e : p + (q - p) ≡ q = omega arith in
          let entry : get_or (rest map p) (q - p) 0 ≡ get_or map q 0 = rest_at map p (q - p) 0 ∙ ap (λ (i : ℕ). get_or map i 0) e in
          ap₂ (λ (m i : ℕ). recover3 a (pixel_at frame i) (max m t0)) entry place ∙ ap (λ (i : ℕ). recover3 a (pixel_at frame (q / z.w * z.w + q % z.w)) (max (get_or map i 0) t0)) place
