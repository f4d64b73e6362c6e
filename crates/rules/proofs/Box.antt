-- The box law. A window of a box is the frame's window wherever the box sees as far (`window_box`), once over the radius. A rule that is boxed at q
-- has in the box, taken as a frame, the value that it has in the frame; one after another, the distances add up (`boxed_after`).
-- A line is two windows, one after the other. Assumes nothing.
use mathlib.Core.Path.{◌≡◌, refl, ap, ap₂, ◌∙◌}
use mathlib.Core.List.{List, ◌∷◌}
use Prim.Native.Nat.{ℕ, zero, suc, ◌+◌, ◌-◌, min, ◌≤◌, ◌<◌}
use native.Mathlib.Nat.{add-suc}
use native.Mathlib.Omega.{arith}
use Rattle.rules.specs.Shape.{Shape}
use Rattle.rules.specs.declared.Settings.{Settings}
use Rattle.rules.specs.declared.Rgb.{Rgb}
use Rattle.rules.specs.Window.{Plane, Shown, alike, seen_of, from, flat, low, many, around, square, window}
use Rattle.rules.specs.Transmission.{least_ratio, coarse, sample, fit}
use Rattle.rules.proofs.Local.{Within, Local, from_cong, window_local}
use Rattle.rules.specs.Box.{part, Fits, Sees}

from_shift : {A : Type 0} (k a n : ℕ) (f : ℕ → A) → from (k + a) n f ≡ from a n (λ i. f (k + i))
from_shift k a zero f = refl
from_shift {A} k a (suc n) f = ap (λ (l : List A). f (k + a) ∷ l) (rw (← add-suc k a) (from_shift k (suc a) n f))

from_at : {A : Type 0} {a b n m : ℕ} (f : ℕ → A) → a ≡ b → n ≡ m → from a n f ≡ from b m f
from_at f p q = ap₂ (λ (a n : ℕ). from a n f) p q

-- one line: n numbers from k on, of end in all
around_box : {A : Type 0} (end n k q p : ℕ) (f : ℕ → A) → k + n ≤ end → p < n → k ≤ k + p - q → min end (k + p + q + 1) ≤ k + n
    → around end q (k + p) f ≡ around n q p (λ i. f (k + i))
around_box end n k q p f fits l first last =
    from_at f (let e : low q (k + p) ≡ k + low q p = omega arith in e) (let e : many end q (k + p) ≡ many n q p = omega arith in e)
    ∙ from_shift k (low q p) (many n q p) f

around_each : {A : Type 0} (end q p : ℕ) (f g : ℕ → A) → ((i : ℕ) → f i ≡ g i) → around end q p f ≡ around end q p g
around_each end q p f g h = from_cong (low q p) (many end q p) f g (λ i _ _. h i)

module _ (z b : Shape) (top left : ℕ) (fits : Fits z b top left) where
  pub window_box : {A : Type 0} (q : ℕ) (f : Plane (Shown A)) (y x : ℕ) → Sees z b top left q y x → window z q f (top + y) (left + x) ≡ window b q (part top left f) y x
  unfolding window square
  window_box {A} q f y x s =
      ap (λ (l : List (List (Shown A))). seen_of (flat l))
      (around_box z.h b.h top q y (λ v. around z.w q (left + x) (λ u. f v u)) fits.rows s.row s.up s.down
      ∙ around_each b.h q y _ _ (λ v. around_box z.w b.w left q x (λ u. f (top + v) u) fits.columns s.column s.west s.east))

  -- a rule, at any size, that has in the box the value that it has in the frame
  abbrev pub Boxed : {A B : Type 0} → ℕ → (Shape → Plane A → Plane B) → Type 0
  Boxed {A} q F = (f : Plane A) (y x : ℕ) → Sees z b top left q y x → F z f (top + y) (left + x) ≡ F b (part top left f) y x

  sees_through : {q p y x v u : ℕ} → Sees z b top left (q + p) y x → Within b p y x v u → Sees z b top left q v u
  sees_through s w =
      record { row = w.row; column = w.column; up = omega arith; down = omega arith; west = omega arith; east = omega arith }

  pub sees_less : {q p y x : ℕ} → q ≤ p → Sees z b top left p y x → Sees z b top left q y x
  sees_less l s = record { row = s.row; column = s.column; up = omega arith; down = omega arith; west = omega arith; east = omega arith }

  pub boxed_after : {A B C : Type 0} (q p : ℕ) (F : Shape → Plane A → Plane B) (G : Shape → Plane B → Plane C) → Boxed q F → Boxed p G → Local b p (G b)
      → Boxed (q + p) (λ z f. G z (F z f))
  boxed_after q p F G l m g f y x s =
      m (F z f) y x (sees_less (omega arith) s)
      ∙ g (part top left (F z f)) (F b (part top left f)) y x s.row s.column (λ v u w. l f v u (sees_through s w))

  module _ (k : Settings) (a : Rgb) where
    pub coarse_box : Boxed k.s (λ z. coarse z k a)
    unfolding coarse
    coarse_box f y x s = rw (window_box k.s (λ v u. alike (least_ratio a) (f v u)) y x s)

    pub sample_box : Boxed k.s (λ z. sample z k a)
    unfolding sample
    sample_box f y x s = cc (coarse_box f y x s)

    pub fit_box : Boxed (k.s + k.r) (λ z. fit z k a)
    unfolding fit
    fit_box f y x s =
        cc (boxed_after k.s k.r (λ z. sample z k a) (λ z. window z k.r) sample_box (window_box k.r) (window_local b k.r) f y x s)

-- ---- the frame is a box in itself

pub whole_fits : (z : Shape) → Fits z z 0 0
whole_fits z = record { rows = omega arith; columns = omega arith }

pub whole_sees : (z : Shape) (q y x : ℕ) → y < z.h → x < z.w → Sees z z 0 0 q y x
whole_sees z q y x hy hx = record { row = hy; column = hx; up = omega arith; down = omega arith; west = omega arith; east = omega arith }
