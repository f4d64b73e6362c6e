-- The minima along the rows and then down the columns are the dark values. All that is cited of the windows' laws is cited here. Assumes nothing.
use mathlib.Core.Path.{◌≡◌, refl, sym, ap, ◌∙◌}
use mathlib.Core.Bool.{Bool, true, false, not, cond}
use mathlib.Core.List.{List, [], ◌∷◌}
use Prim.Native.Nat.{ℕ, ◌+◌, ◌*◌, ◌/◌, ◌%◌, ◌≤◌, ◌<◌, min}
use native.Mathlib.Omega.{arith}
use lib.Dec.{eqb}
use lib.ListN.{get_or, take, drop}
use Rattle.std.proofs.lemmas.List.{get_or-take, get_or-drop}
use Rattle.rules.specs.Shape.{Shape}
use Rattle.rules.specs.Window.{Plane, alike, least, window}
use Rattle.rules.specs.Light.{darkest, dark, at}
use Rattle.rules.specs.Buffers.{pixel_at, pixels, seen_in, masked}
use Rattle.rules.proofs.Buffers.{at_place}
use Rattle.rules.proofs.Fold.{window_least}
use Rattle.windows.specs.Span.{windowed}
use Rattle.columns.specs.Down.{RowIs}
use Rattle.windows.proofs.Bridge.{bridge, windowed_cong}
use Rattle.light.specs.Steps.{least_by, level_by, least_along, level_at}

-- ---- a choice by a byte of the mask

-- by whether it hides is by whether it shows
pub cond_not : {A : Type 0} (b : Bool) (i j : A) → cond b i j ≡ cond (not b) j i
cond_not true i j = refl
cond_not false i j = refl

pub level_by_le : (m d : ℕ) → d ≤ 255 → level_by m d ≤ 256
level_by_le m d h = go (eqb m 0)
  where
    go : (b : Bool) → cond b 0 (d + 1) ≤ 256
    go true = omega arith
    go false = omega arith

-- ---- dark values

least_le : (top : ℕ) (l : List ℕ) → least top l ≤ top
least_le top [] = omega arith
least_le top (i ∷ l) = omega (arith, least_le top l)

module _ (z : Shape) (s : ℕ) (mask frame : List ℕ) where
  -- a dark value is a byte
  dark_le : (p : ℕ) → at z (dark z s (masked z mask frame)) p ≤ 255
  unfolding dark
  dark_le p = least_le 255 (window z s (λ v u. alike darkest (masked z mask frame v u)) (p / z.w) (p % z.w))

  pub level_le : (p : ℕ) → level_at z s mask frame p ≤ 256
  level_le p = level_by_le (get_or mask p 0) _ (dark_le p)

-- the pixels from position p on: n bytes of the mask, and k of the frame
part_at : (mask frame : List ℕ) (p at n k x : ℕ) → at ≡ 3 * p → x < n → 3 * n ≤ k
    → least_by (get_or (take n (drop p mask)) x 0) (darkest (pixel_at (take k (drop at frame)) x)) ≡ least_by (get_or mask (p + x) 0) (darkest (pixel_at frame (p + x)))
part_at mask frame p at n k x e h few =
    let byte : (i c : ℕ) → i < k → at + i ≡ c → get_or (take k (drop at frame)) i 0 ≡ get_or frame c 0 =
    λ i c l z. get_or-take k (drop at frame) i 0 l ∙ get_or-drop at frame i 0 ∙ ap (λ (j : ℕ). get_or frame j 0) z
    in
    rw (
      get_or-take n (drop p mask) x 0 h,
      get_or-drop p mask x 0,
      byte (3 * x) (3 * (p + x)) (omega arith) (omega arith),
      byte (3 * x + 1) (3 * (p + x) + 1) (omega arith) (omega arith),
      byte (3 * x + 2) (3 * (p + x) + 2) (omega arith) (omega arith),
    )
    refl

-- the least bytes l of row y, each over its window along the row
pub along_is : (z : Shape) (s : ℕ) (mask frame : List ℕ) (y at n k b c : ℕ) (l m : List ℕ) → at ≡ 3 * (y * z.w) → n ≡ z.w → 3 * n ≤ k → b ≡ z.w → c ≡ z.w
    → ((x : ℕ) → x < b → get_or l x 0 ≡ least_by (get_or (take n (drop (y * z.w) mask)) x 0) (darkest (pixel_at (take k (drop at frame)) x)))
    → ((x : ℕ) → x < c → get_or m x 0 ≡ windowed min (λ u. get_or l u 0) s c x)
    → RowIs m (least_along z s mask frame) y z.w
unfolding pixels seen_in
along_is z s mask frame y at n k b c l m thrice wide few eb ec bytes mins x h =
    (rw ec at mins) x h
    ∙ windowed_cong s z.w x (λ u. get_or l u 0) (λ u. cond (seen_in z mask y u) (darkest (pixels z frame y u)) 255) h
    (λ u q.
    bytes u (omega arith)
    ∙ part_at mask frame (y * z.w) at n k u thrice (omega arith) (omega arith)
    ∙ cond_not (eqb (get_or mask (y * z.w + u) 0) 0) 255 (darkest (pixel_at frame (y * z.w + u))))

module _ (z : Shape) (s : ℕ) (mask frame : List ℕ) (byte : (i : ℕ) → get_or frame i 0 ≤ 255) where
  -- the least byte of a pixel, 255 of a hidden one
  abbrev shown : Plane ℕ
  shown y x = cond (seen_in z mask y x) (darkest (pixels z frame y x)) 255

  least_byte : (y x : ℕ) → shown y x ≤ 255
  unfolding pixels
  least_byte y x = go (seen_in z mask y x)
    where
      go : (b : Bool) → cond b (darkest (pixel_at frame (y * z.w + x))) 255 ≤ 255
      go true = omega (arith, byte (3 * (y * z.w + x)))
      go false = omega arith

  -- the minima over the columns' windows come out for row y
  module _ (out : List ℕ) (y : ℕ) (low : y < z.h) (mins : RowIs out (λ r x. windowed min (λ u. least_along z s mask frame u x) s z.h r) y z.w) where
    dark_is : (x : ℕ) → x < z.w → get_or out x 0 ≡ at z (dark z s (masked z mask frame)) (y * z.w + x)
    unfolding dark masked
    dark_is x h =
        mins x h
        ∙ bridge 255 z.w z.h s shown (λ r u p q. least_byte r u) y x low h
        ∙ sym (window_least 255 z s (λ v u. alike darkest (masked z mask frame v u)) y x)
        ∙ sym (at_place z (dark z s (masked z mask frame)) y x h)

    pub level_is : (x : ℕ) → x < z.w → level_by (get_or mask (y * z.w + x) 0) (get_or out x 0) ≡ level_at z s mask frame (y * z.w + x)
    level_is x h = ap (level_by (get_or mask (y * z.w + x) 0)) (dark_is x h)

    pub out_le : (x : ℕ) → x < z.w → get_or out x 0 ≤ 255
    out_le x h = omega (arith, dark_is x h, dark_le z s mask frame (y * z.w + x))
