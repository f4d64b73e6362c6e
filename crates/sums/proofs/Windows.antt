-- What the rules' squares have: those of a plane that agrees are equal, and so are their sums; their values bound their sums, and they have from 1 to
-- 14,641 pixels. Assumes nothing.
use mathlib.Core.Path.{◌≡◌, sym, ap, ◌∙◌}
use mathlib.Core.List.{List}
use Prim.Native.Nat.{ℕ, ◌+◌, ◌-◌, ◌*◌, ◌≤◌, ◌<◌, min}
use native.Mathlib.Nat.{mul-le-mul}
use native.Mathlib.Omega.{arith}
use lib.ListN.{length}
use lib.IntN.{ℤ, nat_abs}
use Rattle.rules.specs.Window.{Plane, flat, low, many, square, total_z}
use Rattle.rules.proofs.Local.{from_cong}
use Rattle.rules.proofs.Fold.{total_square, square_length}
use Rattle.sums.specs.Sum.{range_sum}
use Rattle.sums.proofs.Runs.{range_size}

-- planes that agree have equal squares
pub square_same : {A : Type 0} (w h r : ℕ) (f g : Plane A) (y x : ℕ) → ((v u : ℕ) → v < h → u < w → f v u ≡ g v u) → square w h r f y x ≡ square w h r g y x
unfolding square
square_same {A} w h r f g y x same =
    ap (λ (l : List (List A)). flat l)
    (from_cong (low r y) (many h r y) _ _ (λ v a b. from_cong (low r x) (many w r x) _ _ (λ u c d. same v u (omega arith) (omega arith))))

-- the sum of rows and columns
box_size : (f : Plane ℤ) (y0 y1 x0 x1 B : ℕ) → ((y x : ℕ) → y < y1 → x < x1 → nat_abs (f y x) ≤ B)
    → nat_abs (range_sum (λ v. range_sum (f v) x0 x1) y0 y1) ≤ B * ((y1 - y0) * (x1 - x0))
box_size f y0 y1 x0 x1 B h =
    omega (arith, range_size (λ v. range_sum (f v) x0 x1) y0 y1 ((x1 - x0) * B) (λ v a b. range_size (f v) x0 x1 B (λ u c d. h v u b d)))

module _ {A : Type 0} (w h r : ℕ) (f : Plane A) (y x : ℕ) (hy : y < h) (hx : x < w) where
  -- the sum over the square of a plane c that has what g reads off the values
  pub total_read : (g : A → ℤ) (c : Plane ℤ) → ((v u : ℕ) → v < h → u < w → c v u ≡ g (f v u)) → total_z (λ i. i) (square w h r c y x) ≡ total_z g (square w h r f y x)
  total_read g c is =
      ap (total_z (λ i. i)) (square_same w h r c (λ v u. g (f v u)) y x is)
      ∙ total_square (λ i. i) w h r (λ v u. g (f v u)) y x
      ∙ sym (total_square g w h r f y x)

  -- its size
  pub square_size : (g : A → ℤ) (B : ℕ) → ((v u : ℕ) → v < h → u < w → nat_abs (g (f v u)) ≤ B) → nat_abs (total_z g (square w h r f y x)) ≤ B * length (square w h r f y x)
  square_size g B le =
      rw (total_square g w h r f y x, square_length w h r f y x)
      (box_size (λ v u. g (f v u)) (y - r) (min h (y + r + 1)) (x - r) (min w (x + r + 1)) B (λ v u a b. le v u (omega arith) (omega arith)))

  -- how many pixels it has
  pub square_some : 0 < length (square w h r f y x)
  square_some =
      let rows : 1 ≤ min h (y + r + 1) - (y - r) = omega arith in
      let columns : 1 ≤ min w (x + r + 1) - (x - r) = omega arith in
      omega (arith, square_length w h r f y x, mul-le-mul rows columns)

  pub square_few : r ≤ 60 → length (square w h r f y x) ≤ 14641
  square_few hr =
      let rows : min h (y + r + 1) - (y - r) ≤ 121 = omega arith in
      let columns : min w (x + r + 1) - (x - r) ≤ 121 = omega arith in
      omega (arith, square_length w h r f y x, mul-le-mul rows columns)
