-- What the sums are given: columns of zeros, a plane that is lent from its place on, and columns of a plane that another agrees with. Assumes nothing.
use mathlib.Core.Path.{◌≡◌, refl, sym, ◌∙◌}
use mathlib.Core.List.{List}
use Prim.Native.Nat.{ℕ, zero, suc, ◌+◌, ◌-◌, ◌*◌, ◌≤◌, ◌<◌, min}
use native.Mathlib.Omega.{arith}
use lib.ListN.{length, get_or, replicate}
use lib.IntN.{ℤ, pos, nat_abs}
use Rattle.rules.specs.Window.{Plane}
use Rattle.planes.specs.declared.View.{View}
use Rattle.planes.specs.View.{InPlane}
use Rattle.planes.specs.Cells.{cells}
use Rattle.planes.proofs.Tails.{rest, rest_length, rest_cells}
use Rattle.sums.specs.Sum.{value_most, Summable, Columns}
use Rattle.sums.proofs.Runs.{sum_same}

-- an array of zeros, read at any place
pub zeros : (n k : ℕ) → get_or (replicate n (pos 0)) k (pos 0) ≡ pos 0
zeros zero k = refl
zeros (suc n) zero = refl
zeros (suc n) (suc k) = zeros n k

-- small values from place base on can be summed
pub summable_rest : (l : List ℤ) (base : ℕ) (v : View) (r : ℕ) → InPlane v → r ≤ 60 → base + v.w * v.h ≤ length l
    → ((y x : ℕ) → y < v.h → x < v.w → nat_abs (cells l base v.w y x) ≤ value_most) → Summable (rest l base) v r
summable_rest l base v r i hr room le = record {
  in_plane = i;
  r_most = hr;
  room = omega (arith, rest_length l base);
  small = λ y x hy hx. rw (rest_cells l base v.w y x) (le y x hy hx);
}

-- columns of a plane are columns of one that agrees with it
pub columns_as : {c : List ℤ} {w h r y : ℕ} (f g : Plane ℤ) → ((v u : ℕ) → v < h → u < w → g v u ≡ f v u) → Columns c f w h r y → Columns c g w h r y
columns_as {c} {w} {h} {r} {y} f g same q = record {
  long = q.long;
  before = q.before;
  is = λ x hx. q.is x hx ∙ sum_same (y - (r + 1)) (min h (y + r) - (y - (r + 1))) (λ v. f v x) (λ v. g v x) (λ i lo hi. sym (same i x (omega arith) hx));
  after = q.after;
}
