-- Locality. A window sees only the plane inside it (`window_local`), once over the radius. A rule that is local at q turns planes that
-- agree within q + p into planes that agree within p (`agree_through`). The map entry and the cleared pixel are three windows, one after the other.
-- Assumes nothing.
use mathlib.Core.Path.{◌≡◌, refl, ap, ap₂}
use mathlib.Core.List.{List, ◌∷◌}
use Prim.Native.Nat.{ℕ, zero, suc, ◌+◌, ◌≤◌, ◌<◌}
use native.Mathlib.Omega.{arith}
use lib.ListN.{length}
use Rattle.rules.specs.Shape.{Shape}
use Rattle.rules.specs.declared.Settings.{Settings}
use Rattle.rules.specs.declared.Rgb.{Rgb}
use Rattle.rules.specs.Window.{Plane, Shown, alike, seen_of, from, flat, low, many, around, square, window}
use Rattle.rules.specs.Transmission.{least_ratio, coarse, sample, fit, refined, map_entry}
use Rattle.rules.specs.Picture.{cleared}
use Rattle.rules.specs.Buffers.{reach}

-- (v, u) is a pixel of the frame at most q rows and q columns from (y, x)
pub record Within (z : Shape) (q y x v u : ℕ) : Type 0 where
  pub row : v < z.h
  pub column : u < z.w
  pub above : y ≤ v + q
  pub below : v ≤ y + q
  pub left : x ≤ u + q
  pub right : u ≤ x + q

-- the planes are equal at each such pixel
abbrev pub Agree : {A : Type 0} → Shape → ℕ → ℕ → ℕ → Plane A → Plane A → Type 0
Agree z q y x f g = (v u : ℕ) → Within z q y x v u → f v u ≡ g v u

-- a rule turns a plane into a plane; it is local at q if its value hangs on what is within q
abbrev pub Local : {A B : Type 0} → Shape → ℕ → (Plane A → Plane B) → Type 0
Local {A} z q F = (f g : Plane A) (y x : ℕ) → y < z.h → x < z.w → Agree z q y x f g → F f y x ≡ F g y x

pub from_cong : {A : Type 0} (a n : ℕ) (f g : ℕ → A) → ((i : ℕ) → a ≤ i → i < a + n → f i ≡ g i) → from a n f ≡ from a n g
from_cong a zero f g h = refl
from_cong a (suc n) f g h =
    ap₂ ◌∷◌ (h a (omega arith) (omega arith)) (from_cong (suc a) n f g (λ i l m. h i (omega arith) (omega arith)))

pub from_length : {A : Type 0} (a n : ℕ) (f : ℕ → A) → length (from a n f) ≡ n
from_length a zero f = refl
from_length a (suc n) f = ap suc (from_length (suc a) n f)

around_cong : {A : Type 0} (end q p : ℕ) (f g : ℕ → A) → ((i : ℕ) → i < end → p ≤ i + q → i ≤ p + q → f i ≡ g i) → around end q p f ≡ around end q p g
around_cong end q p f g h = from_cong (low q p) (many end q p) f g (λ i l m. h i (omega arith) (omega arith) (omega arith))

pub window_local : {A : Type 0} (z : Shape) (q : ℕ) → Local {A = Shown A} z q (window z q)
unfolding window square
window_local {A} z q f g y x hy hx h =
    ap (λ (l : List (List (Shown A))). seen_of (flat l))
    (around_cong z.h q y _ _ (λ v a b c. around_cong z.w q x _ _ (λ u d e k. h v u (record { row = a; column = d; above = b; below = c; left = e; right = k }))))

-- within p of what is within q is within q + p
nested : {z : Shape} {q p y x v u v' u' : ℕ} → Within z p y x v u → Within z q v u v' u' → Within z (q + p) y x v' u'
nested a b =
    record {
      row = b.row;
      column = b.column;
      above = omega arith;
      below = omega arith;
      left = omega arith;
      right = omega arith;
    }

pub agree_through : {A B : Type 0} (z : Shape) (q p : ℕ) (F : Plane A → Plane B) → Local z q F → (f g : Plane A) (y x : ℕ) → Agree z (q + p) y x f g → Agree z p y x (F f) (F g)
agree_through z q p F l f g y x h v u w = l f g v u w.row w.column (λ v' u' w'. h v' u' (nested w w'))

-- one rule after another
pub local_after : {A B C : Type 0} (z : Shape) (q p : ℕ) (F : Plane A → Plane B) (G : Plane B → Plane C) → Local z q F → Local z p G → Local z (q + p) (λ f. G (F f))
local_after z q p F G l m f g y x hy hx h = m (F f) (F g) y x hy hx (agree_through z q p F l f g y x h)

-- a pixel is within any distance of itself
self : (z : Shape) (q y x : ℕ) → y < z.h → x < z.w → Within z q y x y x
self z q y x hy hx =
    record { row = hy; column = hx; above = omega arith; below = omega arith; left = omega arith; right = omega arith }

agree_less : {A : Type 0} (z : Shape) (q p : ℕ) → q ≤ p → (f g : Plane A) (y x : ℕ) → Agree z p y x f g → Agree z q y x f g
agree_less z q p l f g y x h v u w =
    h v u
    (record {
      row = w.row;
      column = w.column;
      above = omega arith;
      below = omega arith;
      left = omega arith;
      right = omega arith;
    })

agree_ap : {A B : Type 0} (z : Shape) (q y x : ℕ) (F : A → B) (f g : Plane A) → Agree z q y x f g → Agree z q y x (λ v u. F (f v u)) (λ v u. F (g v u))
agree_ap z q y x F f g h v u w = ap F (h v u w)

module _ (z : Shape) (k : Settings) (a : Rgb) where
  pub coarse_local : Local z k.s (coarse z k a)
  unfolding coarse
  coarse_local f g y x hy hx h = rw (window_local z k.s _ _ y x hy hx (agree_ap z k.s y x (alike (least_ratio a)) f g h))

  pub sample_local : Local z k.s (sample z k a)
  unfolding sample
  sample_local f g y x hy hx h = cc (h y x (self z k.s y x hy hx), coarse_local f g y x hy hx h)

  pub fit_local : Local z (k.s + k.r) (fit z k a)
  unfolding fit
  fit_local f g y x hy hx h =
      cc (
        h y x (self z (k.s + k.r) y x hy hx),
        local_after z k.s k.r (sample z k a) (window z k.r) sample_local (window_local z k.r) f g y x hy hx h,
      )

  pub refined_local : Local z (reach k) (refined z k a)
  unfolding refined
  refined_local f g y x hy hx h =
      cc (
        h y x (self z (reach k) y x hy hx),
        local_after z (k.s + k.r) k.r (fit z k a) (window z k.r) fit_local (window_local z k.r) f g y x hy hx
            (agree_less z (k.s + k.r + k.r) (reach k) (omega arith) f g y x h),
      )

  pub entry_local : Local z (reach k) (map_entry z k a)
  unfolding map_entry
  entry_local f g y x hy hx h = cc (h y x (self z (reach k) y x hy hx), refined_local f g y x hy hx h)

  pub cleared_local : Local z (reach k) (cleared z k a)
  unfolding cleared
  cleared_local f g y x hy hx h = cc (h y x (self z (reach k) y x hy hx), entry_local f g y x hy hx h)
