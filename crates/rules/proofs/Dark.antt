-- What a least value over a window is, and so what a dark value is. The least, with top to start from, is at most each value of the window
-- (`least_le`), and no number up to top that is at most each of them is greater (`least_most`). The dark value is at most each byte of each channel
-- of the seen pixels at most s rows and s columns away, and the greatest byte that is (`dark_le`, `dark_most`). Assumes nothing.
use mathlib.Core.Path.{◌≡◌, refl, ap, ◌∙◌}
use mathlib.Core.Bool.{Bool, true, false, cond}
use Prim.Native.Nat.{ℕ, zero, suc, ◌+◌, ◌≤◌, ◌<◌, min}
use native.Mathlib.Omega.{arith}
use native.Mathlib.Decide.{dec_le}
use Rattle.rules.specs.Shape.{Shape}
use Rattle.rules.specs.declared.Rgb.{Rgb}
use Rattle.rules.specs.Window.{Plane, Shown, alike, low, many, window, least}
use Rattle.rules.specs.Fold.{Σ}
use Rattle.rules.specs.Light.{darkest, dark}
use Rattle.rules.proofs.Local.{Within}
use Rattle.rules.proofs.Fold.{window_least, least_square}
use Rattle.rules.proofs.Pixels.{span_has, span_within}

-- ---- minima of a run of values

run_le : (top a n : ℕ) (f : ℕ → ℕ) (v : ℕ) → a ≤ v → v < a + n → Σ min top a n f ≤ f v
run_le top a zero f v l h = absurd (let z : 1 ≤ 0 = omega arith in omega arith)
run_le top a (suc n) f v l h = go (dec_le v a) (run_le top (suc a) n f v)
  where
    go : Dec (v ≤ a) → (suc a ≤ v → v < suc a + n → Σ min top (suc a) n f ≤ f v) → min (f a) (Σ min top (suc a) n f) ≤ f v
    go (yes e) ih = let s : a ≡ v = omega arith in omega (arith, ap f s)
    go (no e) ih = omega (arith, ih (omega arith) (omega arith))

run_most : (top a n : ℕ) (f : ℕ → ℕ) (c : ℕ) → c ≤ top → ((i : ℕ) → a ≤ i → i < a + n → c ≤ f i) → c ≤ Σ min top a n f
run_most top a zero f c t h = t
run_most top a (suc n) f c t h =
    omega (arith, h a (omega arith) (omega arith), run_most top (suc a) n f c t (λ i l m. h i (omega arith) (omega arith)))

-- ---- over a window of any plane

module _ (top : ℕ) (z : Shape) (q : ℕ) (f : Plane (Shown ℕ)) (y x : ℕ) where
  -- a hidden value as the top, which changes no least
  abbrev filled : Plane ℕ
  filled v u = cond (f v u).seen (f v u).value top

  by_rows : least top (window z q f y x) ≡ Σ min top (low q y) (many z.h q y) (λ v. Σ min top (low q x) (many z.w q x) (λ u. filled v u))
  by_rows = window_least top z q f y x ∙ least_square top z.w z.h q filled y x

  pub least_le : (v u : ℕ) → Within z q y x v u → (f v u).seen ≡ true → least top (window z q f y x) ≤ (f v u).value
  least_le v u w s =
      let rows = span_has z.h q y v w.row w.above w.below in
      let columns = span_has z.w q x u w.column w.left w.right in
      let i = run_le top (low q y) (many z.h q y) (λ v. Σ min top (low q x) (many z.w q x) (λ u. filled v u)) v rows.0 rows.1 in
      let j = rw s at (run_le top (low q x) (many z.w q x) (λ u. filled v u) u columns.0 columns.1) in
      rw by_rows (omega (arith, i, j))

  pub least_most : (c : ℕ) → c ≤ top → ((v u : ℕ) → Within z q y x v u → (f v u).seen ≡ true → c ≤ (f v u).value) → c ≤ least top (window z q f y x)
  least_most c t h =
      rw by_rows
      (run_most top (low q y) (many z.h q y) _ c t
      (λ v a b. run_most top (low q x) (many z.w q x) (λ u. filled v u) c t (λ u d e. go v u (span_within z q y x v u a b d e) (f v u).seen refl)))
    where
      go : (v u : ℕ) → Within z q y x v u → (b : Bool) → (f v u).seen ≡ b → c ≤ cond b (f v u).value top
      go v u w true e = h v u w e
      go v u w false e = t

-- ---- dark values

-- c is at most each channel of a pixel
pub record Under (c : ℕ) (i : Rgb) : Type 0 where
  pub red : c ≤ i.r
  pub green : c ≤ i.g
  pub blue : c ≤ i.b

module _ (z : Shape) (s : ℕ) (f : Plane (Shown Rgb)) (y x : ℕ) where
  pub dark_le : (v u : ℕ) → Within z s y x v u → (f v u).seen ≡ true → Under (dark z s f y x) (f v u).value
  unfolding dark
  dark_le v u w e =
      let h = least_le 255 z s (λ v u. alike darkest (f v u)) y x v u w e in
      record { red = omega arith; green = omega arith; blue = omega arith }

  pub dark_most : (c : ℕ) → c ≤ 255 → ((v u : ℕ) → Within z s y x v u → (f v u).seen ≡ true → Under c (f v u).value) → c ≤ dark z s f y x
  unfolding dark
  dark_most c t h = least_most 255 z s (λ v u. alike darkest (f v u)) y x c t (λ v u w e. let b = h v u w e in omega arith)
