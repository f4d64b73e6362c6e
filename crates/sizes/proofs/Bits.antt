-- The mask as ones and zeros: where the pixels of a box stand in it, that they are small, and pixels that are seen alike. Assumes nothing.
use mathlib.Core.Path.{◌≡◌, refl, sym, ◌∙◌}
use mathlib.Core.Bool.{Bool, true, false}
use mathlib.Core.List.{List}
use Prim.Native.Nat.{ℕ, ◌+◌, ◌≤◌, ◌<◌}
use native.Mathlib.Omega.{arith}
use lib.ListN.{get_or}
use lib.IntN.{nat_abs}
use Rattle.planes.specs.declared.View.{View}
use Rattle.planes.specs.View.{InPlane, Framed, row_start}
use Rattle.planes.specs.Stage.{box_seen}
use Rattle.planes.proofs.Shown.{seen_at_lem}
use Rattle.sums.specs.Sum.{Readable}
use Rattle.sizes.specs.Sizes.{Row, shows, bit, bit_plane}

-- ---- a pixel

bit_small : (b : Bool) → nat_abs (bit b) ≤ 1
bit_small true = omega arith
bit_small false = omega arith

-- ---- a row of the box

-- the box can be read, and its values are small
pub readable : {v : View} {r : ℕ} (b : View) (mask : List ℕ) → InPlane v → Framed b v mask → r ≤ 60 → Readable (bit_plane b mask) b.wide (λ y. Row b mask y) v r
readable b mask i f hr = record {
  in_plane = i;
  r_most = hr;
  wide = f.wide;
  rows = λ y hy. record { box = f.box; inside = omega (arith, f.tall); bytes = f.bytes };
  small = λ y x hy hx. omega (arith, bit_small (box_seen b mask y x));
}

-- ---- pixels that are seen alike

-- if `same` holds, so are the first i from `at` on and from `other` on
abbrev pub AlikeTo : List ℕ → ℕ → ℕ → ℕ → Bool → Type 0
AlikeTo mask at other i same = same ≡ true → (j : ℕ) → j < i → shows (get_or mask (at + j) 0) ≡ shows (get_or mask (other + j) 0)

-- two rows of the box
pub alike_rows : (b : View) (mask : List ℕ) (u o at other n : ℕ) → at ≡ row_start b u → other ≡ row_start b o → AlikeTo mask at other n true
    → (x : ℕ) → x < n → box_seen b mask u x ≡ box_seen b mask o x
alike_rows b mask u o at other n e d a x q = sym (seen_at_lem b mask u x) ∙ rw (e, d) at (a refl x q) ∙ seen_at_lem b mask o x
