-- The minima along the rows and then down the columns are the least ratios of the windows, so they give the samples: a hidden pixel's 10,000 lowers none.
-- All that is cited of the windows' laws is cited here. Assumes nothing.
use mathlib.Core.Path.{◌≡◌, refl, sym, ap, ◌∙◌}
use mathlib.Core.Bool.{Bool, true, false, cond}
use mathlib.Core.List.{List, [], ◌∷◌}
use Prim.Native.Nat.{ℕ, ◌+◌, ◌*◌, ◌≤◌, ◌<◌, min}
use native.Mathlib.Omega.{arith}
use lib.ListN.{get_or, take, drop}
use Rattle.std.proofs.lemmas.List.{get_or-take, get_or-drop}
use Rattle.rules.specs.declared.Settings.{Settings}
use Rattle.rules.specs.declared.Rgb.{Rgb}
use Rattle.rules.specs.Window.{Plane, Shown, alike, least, window}
use Rattle.rules.specs.Transmission.{least_ratio, coarse, sample}
use Rattle.rules.proofs.Fold.{window_least}
use Rattle.planes.specs.declared.View.{View}
use Rattle.planes.specs.View.{box_of, row_start}
use Rattle.planes.specs.Stage.{masked_at, box_pixels}
use Rattle.planes.proofs.Shown.{shown_at}
use Rattle.windows.specs.Span.{windowed}
use Rattle.columns.specs.Down.{RowIs}
use Rattle.windows.proofs.Bridge.{bridge, windowed_cong}
use Rattle.coarse.specs.Rows.{ratio_at, least_along, sample_of}

least_le : (l : List ℕ) → least 10000 l ≤ 10000
least_le [] = omega arith
least_le (i ∷ l) = omega (arith, least_le l)

ratio_most : (a : Rgb) (i : Shown Rgb) → ratio_at a i ≤ 10000
ratio_most a i = go i.seen
  where
    go : (b : Bool) → cond b (least_ratio a i.value) 10000 ≤ 10000
    go true = omega arith
    go false = omega arith

-- the pixels from position p on: n bytes of the mask, and k of the frame
part_at : (mask frame : List ℕ) (p at n k x : ℕ) → at ≡ 3 * p → x < n → 3 * n ≤ k
    → masked_at (take n (drop p mask)) (take k (drop at frame)) x ≡ masked_at mask frame (p + x)
part_at mask frame p at n k x e h few =
    let byte : (i c : ℕ) → i < k → at + i ≡ c → get_or (take k (drop at frame)) i 0 ≡ get_or frame c 0 =
    λ i c l z. get_or-take k (drop at frame) i 0 l ∙ get_or-drop at frame i 0 ∙ ap (λ (j : ℕ). get_or frame j 0) z
    in
    rw (
      get_or-take n (drop p mask) x 0 h,
      get_or-drop p mask x 0,
      byte (3 * x) (3 * (p + x)) (omega arith) (omega arith),
      byte (3 * x + 1) (3 * (p + x) + 1) (omega arith) (omega arith),
      byte (3 * x + 2) (3 * (p + x) + 2) (omega arith) (omega arith),
    )
    refl

-- which is the pixel x of the box's row y, where the row begins at p
pub pixel_of : (v : View) (mask frame : List ℕ) (y p at n k x : ℕ) → p ≡ row_start v y → at ≡ 3 * p → x < n → 3 * n ≤ k
    → masked_at (take n (drop p mask)) (take k (drop at frame)) x ≡ box_pixels v mask frame y x
pixel_of v mask frame y p at n k x e thrice h few =
    part_at mask frame p at n k x thrice h few ∙ ap (λ (q : ℕ). masked_at mask frame (q + x)) e ∙ shown_at v mask frame y x

-- the least ratios l of row y, from position p of the frame on, each over its window along the row
pub along_is : (v : View) (a : Rgb) (s : ℕ) (mask frame : List ℕ) (y p at n k b c : ℕ) (l m : List ℕ) → p ≡ row_start v y → at ≡ 3 * p
    → n ≡ v.wide → 3 * n ≤ k → b ≡ v.wide → c ≡ v.wide
    → ((x : ℕ) → x < b → get_or l x 0 ≡ ratio_at a (masked_at (take n (drop p mask)) (take k (drop at frame)) x))
    → ((x : ℕ) → x < c → get_or m x 0 ≡ windowed min (λ u. get_or l u 0) s c x)
    → RowIs m (least_along v a s mask frame) y v.wide
along_is v a s mask frame y p at n k b c l m e thrice wide bytes eb ec ratios mins x h =
    (rw ec at mins) x h
    ∙ windowed_cong s v.wide x (λ u. get_or l u 0) (λ u. ratio_at a (box_pixels v mask frame y u)) h
    (λ u q. ratios u (omega arith) ∙ ap (ratio_at a) (pixel_of v mask frame y p at n k u e thrice (omega arith) (omega arith)))

-- the minima over the columns' windows come out for row y
module _ (v : View) (k : Settings) (a : Rgb) (mask frame out : List ℕ) (y : ℕ) (low : y < v.tall)
    (mins : RowIs out (λ r x. windowed min (λ u. least_along v a k.s mask frame u x) k.s v.tall r) y v.wide) where
  least_is : (x : ℕ) → x < v.wide → get_or out x 0 ≡ least 10000 (window (box_of v) k.s (λ r u. alike (least_ratio a) (box_pixels v mask frame r u)) y x)
  least_is x h =
      mins x h
      ∙ bridge 10000 v.wide v.tall k.s (λ r u. ratio_at a (box_pixels v mask frame r u)) (λ r u p q. ratio_most a (box_pixels v mask frame r u)) y x low h
      ∙ sym (window_least 10000 (box_of v) k.s (λ r u. alike (least_ratio a) (box_pixels v mask frame r u)) y x)

  pub ratio_le : (x : ℕ) → x < v.wide → get_or out x 0 ≤ 10000
  ratio_le x h = rw (least_is x h) (least_le (window (box_of v) k.s (λ r u. alike (least_ratio a) (box_pixels v mask frame r u)) y x))

  pub sample_by : (x : ℕ) → x < v.wide → sample (box_of v) k a (box_pixels v mask frame) y x ≡ sample_of k.omega (box_pixels v mask frame y x) (get_or out x 0)
  unfolding sample coarse
  sample_by x h = ap (sample_of k.omega (box_pixels v mask frame y x)) (sym (least_is x h))

-- a coarse value is at most 10,000
pub coarse_le : (v : View) (k : Settings) (a : Rgb) (f : Plane (Shown Rgb)) (y x : ℕ) → (sample (box_of v) k a f y x).value.t ≤ 10000
unfolding sample coarse
coarse_le v k a f y x = omega arith
