-- Sums of lines over a window. A hidden line is 0 in the planes of slopes and offsets, so their sum over the square is the sum over the window, and the
-- number of its lines bounds it. Assumes nothing.
use mathlib.Core.Path.{◌≡◌, refl, sym, ◌∙◌}
use mathlib.Core.Bool.{Bool, true, false, cond}
use mathlib.Core.List.{List, [], ◌∷◌}
use Prim.Native.Nat.{ℕ, ◌*◌, ◌≤◌, ◌<◌}
use native.Mathlib.Omega.{arith}
use lib.ListN.{length}
use lib.IntN.{ℤ, pos, nat_abs}
use Rattle.rules.specs.Shape.{Shape}
use Rattle.rules.specs.Window.{Plane, Shown, square, window, total_z}
use Rattle.rules.specs.Transmission.{Line}
use Rattle.rules.proofs.Integers.{nat_abs-+}
use Rattle.rules.proofs.Fold.{window_total}
use Rattle.rules.proofs.Windowed.{All, none, more, all_window}
use Rattle.planes.specs.Stage.{term_of}
use Rattle.sums.proofs.Windows.{total_read}

-- a number that is 0 where it is hidden
pub shown_size : (s : Bool) (i : ℤ) (B : ℕ) → (s ≡ true → nat_abs i ≤ B) → nat_abs (cond s i (pos 0)) ≤ B
shown_size true i B h = h refl
shown_size false i B h = omega arith

-- small numbers add up to little
total_size : {A : Type 0} (g : A → ℤ) (B : ℕ) (l : List A) → All (λ i. nat_abs (g i) ≤ B) l → nat_abs (total_z g l) ≤ B * length l
total_size g B [] none = omega arith
total_size g B (i ∷ l) (more h k) = omega (arith, nat_abs-+ (g i) (total_z g l), h, total_size g B l k)

module _ (z : Shape) (r : ℕ) (F : Plane (Shown Line)) (y x : ℕ) (hy : y < z.h) (hx : x < z.w) (term : Line → ℤ) where
  -- the sum over the square of a plane c of a number of the lines
  pub window_sum : (c : Plane ℤ) → ((v u : ℕ) → v < z.h → u < z.w → c v u ≡ term_of term (F v u))
      → total_z (λ i. i) (square z.w z.h r c y x) ≡ total_z term (window z r F y x)
  window_sum c is = total_read z.w z.h r F y x hy hx (term_of term) c is ∙ sym (window_total term z r F y x)

  -- its size
  pub window_size : (B : ℕ) → ((v u : ℕ) → v < z.h → u < z.w → (F v u).seen ≡ true → nat_abs (term (F v u).value) ≤ B)
      → nat_abs (total_z term (window z r F y x)) ≤ B * length (window z r F y x)
  window_size B le =
      total_size term B (window z r F y x) (all_window (λ i. nat_abs (term i) ≤ B) z r F y x (λ v u p s. le v u p.row p.column s))
