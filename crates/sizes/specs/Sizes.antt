-- Sizes of the windows about a row's pixels, and their reciprocals. Assumes nothing.
use Rattle.std.specs.Prelude.{◌≡◌, Bool, not, cond, List, map, ℕ, ◌+◌, ◌-◌, ◌*◌, ◌≤◌, ◌<◌, max, eqb, get_or, length, ℤ, pos, nat_abs, ◌+ℤ◌}
use Rattle.rules.specs.Window.{Plane, square, total}
use Rattle.rules.specs.Fold.{Σ}
use Rattle.planes.specs.declared.View.{View}
use Rattle.planes.specs.View.{InPlane}
use Rattle.planes.specs.Stage.{box_seen}
use Rattle.sums.specs.Sum.{entry}
use Rattle.pixel.specs.Over.{Over, parts}

-- entry n of the table is 0, where it is not known yet, or a reciprocal of n. A square has at most 121 by 121 pixels
pub record Table (l : List ℕ) : Type 0 where
  pub long : length l ≡ 14642
  pub is : (n : ℕ) → 0 < n → n ≤ 14641 → 0 < get_or l n 0 → Over 1 n parts (get_or l n 0)

-- ---- what is counted

-- a byte of the mask shows its pixel
abbrev pub shows : ℕ → Bool
shows m = not (eqb m 0)

-- a pixel that is seen is a 1 of the plane that is summed
abbrev pub bit : Bool → ℤ
bit b = cond b (pos 1) (pos 0)

abbrev pub bit_plane : View → List ℕ → Plane ℤ
bit_plane b mask y x = bit (box_seen b mask y x)

-- how many pixels of w by h, of which M says which are seen, the window of radius r about (y, x) has; at least 1
abbrev pub size_at : ℕ → ℕ → ℕ → Plane Bool → Plane ℕ
size_at w h r M y x = max 1 (total (λ b. cond b 1 0) (square w h r M y x))

-- the sizes of the windows about the view's pixels in row y of its plane, and their reciprocals
pub record Sizes (v : View) (r : ℕ) (M : Plane Bool) (y : ℕ) (ns inverses : List ℕ) : Type 0 where
  pub is : (i : ℕ) → i < v.wide → get_or ns i 0 ≡ size_at v.w v.h r M y (v.left + i)
  pub over : (i : ℕ) → i < v.wide → Over 1 (get_or ns i 0) parts (get_or inverses i 0)

-- one row enters the windows about row y and another leaves them, and they are seen alike
pub record Unchanged (M : Plane Bool) (w h r y : ℕ) : Type 0 where
  pub above : r < y
  pub below : y + r < h
  pub slid : (x : ℕ) → x < w → M (y + r) x ≡ M (y - r - 1) x

-- ---- what one loop does

-- the mask as ones and zeros
abbrev pub bits_of : List ℕ → List ℤ
bits_of mask = map (λ (m : ℕ). bit (shows m)) mask

-- row y of the box b stands in the mask
pub record Row (b : View) (mask : List ℕ) (y : ℕ) : Type 0 where
  pub box : InPlane b
  pub inside : y < b.tall
  pub bytes : length mask ≡ b.w * b.h

-- a count
abbrev pub Count : ℤ → Type 0
Count s = s ≡ pos (nat_abs s)

-- the sum of the d columns after place x + i
abbrev pub span_at : List ℤ → ℕ → ℕ → ℕ → ℤ
span_at cols x d i = Σ ◌+ℤ◌ (pos 0) (x + i + 1) d (entry cols)

-- the sizes of n windows
pub record Counted (cols : List ℤ) (x d n : ℕ) (ns : List ℕ) : Type 0 where
  pub is : (i : ℕ) → i < n → get_or ns i 0 ≡ max 1 (nat_abs (span_at cols x d i))

-- m sizes that the table has an entry for
pub record Countable (m : ℕ) (ns : List ℕ) : Type 0 where
  pub long : m ≤ length ns
  pub some : (i : ℕ) → i < m → 0 < get_or ns i 0
  pub few : (i : ℕ) → i < m → get_or ns i 0 ≤ 14641

-- the reciprocals of m sizes
pub record Inverted (m : ℕ) (ns inverses : List ℕ) : Type 0 where
  pub over : (i : ℕ) → i < m → Over 1 (get_or ns i 0) parts (get_or inverses i 0)
