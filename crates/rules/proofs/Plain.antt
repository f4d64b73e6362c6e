-- A frame of which all is seen. The rules of document 01 with no mask, over the paper's squares and all positions (`..All`), and that each rule reads so
-- where all is seen (`plain-..`). Assumes nothing.
use mathlib.Core.Path.{◌≡◌, refl, ap, ◌∙◌}
use mathlib.Core.Bool.{true}
use mathlib.Core.List.{List, [], ◌∷◌}
use Prim.Native.Nat.{ℕ, ◌*◌, max}
use lib.ListN.{length}
use lib.Dec.{ltb}
use Rattle.rules.specs.Shape.{Shape}
use Rattle.rules.specs.declared.Settings.{Settings}
use Rattle.rules.specs.declared.Rgb.{Rgb}
use Rattle.rules.specs.Window.{Plane, plain, square, window, least}
use Rattle.rules.specs.Light.{darkest, dark, at, keep, places, m, rank, candidates, guide, brightest, lifted, light}
use Rattle.rules.specs.Transmission.{least_ratio, coarse_of, coarse, sample, Line, line, fit, refine, refined, map_entry}
use Rattle.rules.specs.Picture.{recover3, cleared}
use Rattle.rules.proofs.Local.{from_length}
use Rattle.rules.proofs.Fold.{window_square}
use Rattle.rules.proofs.Seen.{entry_seen}
use Rattle.rules.proofs.Order.{upto}

-- ---- document 01, of a frame's pixels

unfoldable pub dark_all : Shape → ℕ → Plane Rgb → Plane ℕ
dark_all z s f y x = least 255 (square z.w z.h s (λ v u. darkest (f v u)) y x)

-- all W·H positions, and m of their number
unfoldable pub candidates_all : Shape → Settings → Plane Rgb → List ℕ
candidates_all z k f = keep (λ p. ltb (rank (upto 0 (z.w * z.h)) (at z (dark_all z k.s f)) p) (m (z.w * z.h) k)) (upto 0 (z.w * z.h))

unfoldable pub light_all : Shape → Settings → Plane Rgb → Rgb
light_all z k f = lifted (at z f (brightest (λ p. guide (at z f p)) (candidates_all z k f)))

unfoldable pub coarse_all : Shape → Settings → Rgb → Plane Rgb → Plane ℕ
coarse_all z k a f y x = coarse_of k.omega (least 10000 (square z.w z.h k.s (λ v u. least_ratio a (f v u)) y x))

unfoldable pub fit_all : Shape → Settings → Rgb → Plane Rgb → Plane Line
fit_all z k a f y x = line k.e (square z.w z.h k.r (λ v u. record { g = guide (f v u); t = coarse_all z k a f v u }) y x)

unfoldable pub refined_all : Shape → Settings → Rgb → Plane Rgb → Plane ℕ
refined_all z k a f y x = refine (guide (f y x)) (square z.w z.h k.r (fit_all z k a f) y x)

unfoldable pub cleared_all : Shape → Settings → Rgb → Plane Rgb → Plane Rgb
cleared_all z k a f y x = recover3 a (f y x) (max (refined_all z k a f y x) k.t0)

-- ---- dark values, candidates and light

keep_all : (l : List ℕ) → keep (λ p. true) l ≡ l
keep_all [] = refl
keep_all (p ∷ l) = ap (λ (r : List ℕ). p ∷ r) (keep_all l)

module _ {A : Type 0} (z : Shape) (f : Plane A) where
  pub plain_places : places z (plain f) ≡ upto 0 (z.w * z.h)
  plain_places = keep_all (upto 0 (z.w * z.h))

  pub plain_number : length (places z (plain f)) ≡ z.w * z.h
  plain_number = ap length plain_places ∙ from_length 0 (z.w * z.h) (λ p. p)

module _ (z : Shape) (k : Settings) (f : Plane Rgb) where
  pub plain_dark : dark z k.s (plain f) ≡ dark_all z k.s f
  unfolding dark dark_all
  plain_dark = λ i y x. least 255 (window_square z k.s (λ v u. darkest (f v u)) y x i)

  pub plain_candidates : candidates z k (plain f) ≡ candidates_all z k f
  unfolding candidates candidates_all
  plain_candidates = rw (plain_number z f, plain_places z f, plain_dark)

  pub plain_light : light z k (plain f) ≡ light_all z k f
  unfolding light light_all
  plain_light = rw plain_candidates

-- ---- transmission and picture

module _ (z : Shape) (k : Settings) (a : Rgb) (f : Plane Rgb) where
  pub plain_coarse : coarse z k a (plain f) ≡ coarse_all z k a f
  unfolding coarse coarse_all
  plain_coarse = λ i y x. coarse_of k.omega (least 10000 (window_square z k.s (λ v u. least_ratio a (f v u)) y x i))

  plain_sample : sample z k a (plain f) ≡ plain (λ y x. record { g = guide (f y x); t = coarse_all z k a f y x })
  unfolding sample
  plain_sample = λ i y x. record { seen = true; value = record { g = guide (f y x); t = plain_coarse i y x } }

  pub plain_fit : fit z k a (plain f) ≡ plain (fit_all z k a f)
  unfolding fit fit_all
  plain_fit =
      (λ i y x. record { seen = true; value = line k.e (window z k.r (plain_sample i) y x) })
      ∙ (λ i y x. record { seen = true; value = line k.e (window_square z k.r (λ v u. record { g = guide (f v u); t = coarse_all z k a f v u }) y x i) })

  pub plain_refined : refined z k a (plain f) ≡ refined_all z k a f
  unfolding refined refined_all
  plain_refined =
      (λ i y x. refine (guide (f y x)) (window z k.r (plain_fit i) y x)) ∙ (λ i y x. refine (guide (f y x)) (window_square z k.r (fit_all z k a f) y x i))

  pub plain_entry : map_entry z k a (plain f) ≡ refined_all z k a f
  plain_entry = (λ i y x. entry_seen z k a (plain f) y x refl i) ∙ plain_refined

  pub plain_cleared : cleared z k a (plain f) ≡ cleared_all z k a f
  unfolding cleared cleared_all
  plain_cleared = λ i y x. recover3 a (f y x) (max (plain_entry i y x) k.t0)
