-- The columns that slide down a plane: what they can take in, what they are after a row more or less, and what the sums along them are. Assumes nothing.
use mathlib.Core.Path.{◌≡◌, refl, sym, ap, ap₂, ◌∙◌}
use mathlib.Core.List.{List}
use Prim.Native.Nat.{ℕ, ◌+◌, ◌-◌, ◌*◌, ◌≤◌, ◌<◌, min}
use native.Mathlib.Nat.{mul-le-mul_right}
use native.Mathlib.Decide.{dec_lt}
use native.Mathlib.Omega.{arith}
use lib.IntN.{ℤ, pos, nat_abs, ◌+ℤ◌, ◌-ℤ◌, +ℤ_assoc, +ℤ_comm}
use lib.ListN.{length}
use Rattle.rules.specs.Window.{Plane, low, many, square, total_z}
use Rattle.rules.specs.Fold.{Σ}
use Rattle.rules.proofs.Fold.{total_square, swap}
use Rattle.planes.specs.declared.View.{View}
use Rattle.planes.specs.Cells.{cells}
use Rattle.sums.specs.Sum.{value_most, column_most, kept, entry, range_sum, Summable, Readable, Columns, RowSums, RowIn, Rewritten, entered, left, slid, Spannable, Spans}
use Rattle.sums.proofs.Runs.{range_none, range_more, range_less, range_size, Padded, padded_sum}

-- ---- a row of the plane

-- row u of the plane f of w columns stands in the list from place `at` on
abbrev pub RowAt : List ℤ → ℕ → Plane ℤ → ℕ → ℕ → Type 0
RowAt l at f w u = (x : ℕ) → x < w → entry l (at + x) ≡ f u x

-- a plane f of w by h whose values are of size at most B, and the radius of the squares
pub record Small (f : Plane ℤ) (w h r B : ℕ) : Type 0 where
  pub short : w ≤ 1024
  pub r_most : r ≤ 60
  pub few : B ≤ value_most
  pub small : (y x : ℕ) → y < h → x < w → nat_abs (f y x) ≤ B

pub summable_small : {plane : List ℤ} {v : View} {r : ℕ} → Summable plane v r → Small (cells plane 0 v.w) v.w v.h r value_most
summable_small s = record { short = s.in_plane.short; r_most = s.r_most; few = omega arith; small = s.small }

pub readable_small : {f : Plane ℤ} {wide : ℕ} {has_row : ℕ → Type 0} {v : View} {r : ℕ} → Readable f wide has_row v r → Small f v.w v.h r value_most
readable_small s = record { short = s.in_plane.short; r_most = s.r_most; few = omega arith; small = s.small }

-- the columns of the first k rows of the plane, before row y
module _ {f : Plane ℤ} {cols : List ℤ} {w h k r y B : ℕ} (s : Small f w h r B) (c : Columns cols f w k r y) (le : k ≤ h) where
  -- their sizes
  pub column_size : (x : ℕ) → x < w → nat_abs (entry cols (r + 1 + x)) ≤ 121 * B
  column_size x hx =
      let n : min k (y + r) - (y - (r + 1)) ≤ 121 = omega (arith, s.r_most) in
      let size = range_size (λ u. f u x) (y - (r + 1)) (min k (y + r)) B (λ u lo hi. s.small u x (omega arith) hx) in
      rw (c.is x hx) (omega (arith, mul-le-mul_right B n))

  -- row u of the plane can enter or leave
  pub row_in : (plane : List ℤ) (at u : ℕ) → RowAt plane at f w u → u < h → at + w ≤ length plane → RowIn cols (r + 1) plane at w
  row_in plane at u is hu room = record {
    room = omega (arith, c.long, s.short, s.r_most);
    row = room;
    held = λ x hx. omega (arith, column_size x hx, s.few);
    small = λ x hx. rw (is x hx) (omega (arith, s.small u x hu hx, s.few));
  }

  -- 121 columns can be added up
  pub spannable : Spannable cols
  spannable = record { long = c.long; held = λ k. by k (dec_lt k (r + 1)) (dec_lt k (r + 1 + w)) }
    where
      by : (k : ℕ) → Dec (k < r + 1) → Dec (k < r + 1 + w) → nat_abs (entry cols k) ≤ column_most
      by k (yes p) q = rw (c.before k p) (omega arith)
      by k (no p) (yes q) =
          let e : k ≡ r + 1 + (k - (r + 1)) = omega arith in
          rw e (omega (arith, column_size (k - (r + 1)) (omega arith), s.few))
      by k (no p) (no q) = rw (c.after k (omega arith)) (omega arith)

-- a plane that can be read, whose rows stand in a list
module _ {f : Plane ℤ} {wide : ℕ} {has_row : ℕ → Type 0} {v : View} {r : ℕ} (place : ℕ → ℕ) (entries : List ℤ) (p : Readable f wide has_row v r)
    (ends : (y : ℕ) → has_row y → place y + wide ≤ length entries) (stands : (y x : ℕ) → entry entries (place y + x) ≡ f y x) where
  pub row_reads : (at u : ℕ) → at ≡ place u → RowAt entries at f v.w u
  row_reads at u e x q = rw e (stands u x)

  pub row_enters : {cols : List ℤ} {k y : ℕ} → Columns cols f v.w k r y → k ≤ v.h → (at u : ℕ) → at ≡ place u → u < v.h → RowIn cols (r + 1) entries at v.w
  row_enters c le at u e hu =
      row_in (readable_small p) c le entries at u (row_reads at u e) hu (omega (arith, ends u (p.rows u hu), p.wide, e))

-- ---- a row more, or a row less

module _ {f : Plane ℤ} {l m : List ℤ} {w h r y : ℕ} (plane : List ℤ) (c : Columns l f w h r y) (long : length m ≡ length l) where
  -- the columns are rewritten to those before row z, of the first k rows
  rewritten : (k z : ℕ) (g : ℕ → ℤ) → Rewritten l m (r + 1) w g → ((x : ℕ) → x < w → g x ≡ range_sum (λ v. f v x) (z - (r + 1)) (min k (z + r)))
      → Columns m f w k r z
  rewritten k z g out e = record {
    long = long ∙ c.long;
    before = λ i q. out.rest i (λ a b. omega arith) ∙ c.before i q;
    is = λ x q. out.is x q ∙ e x q;
    after = λ i q. out.rest i (λ a b. omega arith) ∙ c.after i q;
  }

  -- row u, the next below, enters
  pub enter_strip : (at u k z : ℕ) → RowAt plane at f w u → Rewritten l m (r + 1) w (entered l (r + 1) plane at) → min h (y + r) ≡ u → y - (r + 1) ≤ u
      → z - (r + 1) ≡ y - (r + 1) → min k (z + r) ≡ u + 1 → Columns m f w k r z
  enter_strip at u k z value out last some top end =
      rewritten k z _ out
      (λ x q.
      ap₂ ◌+ℤ◌ (c.is x q ∙ ap (λ (b : ℕ). range_sum (λ v. f v x) (y - (r + 1)) b) last) (value x q)
      ∙ sym (range_more (λ v. f v x) (y - (r + 1)) u some)
      ∙ sym (ap₂ (range_sum (λ v. f v x)) top end))

  -- row u, the first, leaves
  pub leave_strip : (at u z : ℕ) → RowAt plane at f w u → Rewritten l m (r + 1) w (left l (r + 1) plane at) → y - (r + 1) ≡ u → u < min h (y + r)
      → z - (r + 1) ≡ u + 1 → min h (z + r) ≡ min h (y + r) → Columns m f w h r z
  leave_strip at u z value out first some top end =
      rewritten h z _ out
      (λ x q.
      ap₂ ◌-ℤ◌ (c.is x q ∙ ap (λ (a : ℕ). range_sum (λ v. f v x) a (min h (y + r))) first) (value x q)
      ∙ sym (range_less (λ v. f v x) u (min h (y + r)) some)
      ∙ sym (ap₂ (range_sum (λ v. f v x)) top end))

  -- row u enters, and row o leaves
  pub slide_strip : (at old u o z : ℕ) → RowAt plane at f w u → RowAt plane old f w o → Rewritten l m (r + 1) w (slid l (r + 1) plane at old)
      → min h (y + r) ≡ u → y - (r + 1) ≡ o → o ≤ u → z - (r + 1) ≡ o + 1 → min h (z + r) ≡ u + 1 → Columns m f w h r z
  slide_strip at old u o z value gone out last first some top end =
      rewritten h z _ out
      (λ x q.
      ap₂ ◌-ℤ◌
      (ap₂ ◌+ℤ◌ (c.is x q ∙ ap₂ (range_sum (λ v. f v x)) first last) (value x q) ∙ sym (range_more (λ v. f v x) o u some))
      (gone x q)
      ∙ sym (range_less (λ v. f v x) o (u + 1) (omega arith))
      ∙ sym (ap₂ (range_sum (λ v. f v x)) top end))

-- the rows stay
pub same_strip : {f : Plane ℤ} {l : List ℤ} {w h r y : ℕ} → Columns l f w h r y → (k z : ℕ) → z - (r + 1) ≡ y - (r + 1) → min k (z + r) ≡ min h (y + r) → Columns l f w k r z
same_strip {f} c k z top end = record {
  long = c.long;
  before = c.before;
  is = λ x q. c.is x q ∙ sym (ap₂ (range_sum (λ v. f v x)) top end);
  after = c.after;
}

-- columns of zeros have no rows
pub none_strip : {f : Plane ℤ} {l : List ℤ} (w h r y : ℕ) → length l ≡ kept → ((k : ℕ) → entry l k ≡ pos 0) → h ≤ y - (r + 1) → Columns l f w h r y
none_strip {f} w h r y long zero le = record {
  long = long;
  before = λ k q. zero k;
  is = λ x q. zero (r + 1 + x) ∙ sym (range_none (λ v. f v x) (y - (r + 1)) (min h (y + r)) (omega arith));
  after = λ k q. zero k;
}

-- ---- along the row

-- the sum of 2r + 1 columns is that over the square
pub span_square : {f : Plane ℤ} {cols : List ℤ} (w h r y : ℕ) → Columns cols f w h r (y + 1) → (x : ℕ) → x < w
    → Σ ◌+ℤ◌ (pos 0) (x + 1) (2 * r + 1) (entry cols) ≡ total_z (λ i. i) (square w h r f y x)
span_square {f} {cols} w h r y c x q =
    padded_sum (entry cols) _ w r x q padded
    ∙ sym (swap ◌+ℤ◌ (pos 0) +ℤ_assoc +ℤ_comm refl f (low r y) (many h r y) (low r x) (many w r x))
    ∙ sym (total_square (λ i. i) w h r f y x)
  where
    padded : Padded (entry cols) (λ u. range_sum (λ v. f v u) (y - r) (min h (y + r + 1))) (r + 1) w
    padded = record {
      before = c.before;
      is = λ u q.
          let top : y + 1 - (r + 1) ≡ y - r = omega arith in
          let end : min h (y + 1 + r) ≡ min h (y + r + 1) = omega arith in
          c.is u q ∙ ap₂ (range_sum (λ v. f v u)) top end;
      after = c.after;
    }

-- the sums of d = 2r + 1 columns are those over the squares
pub along : {f : Plane ℤ} {cols out : List ℤ} (w h r y x d n : ℕ) → Columns cols f w h r (y + 1) → x + n ≤ w → d ≡ 2 * r + 1 → Spans out cols x d n → RowSums out f w h r y x n
along {f} {cols} w h r y x d n c le e s =
    record { is = λ i q. s.is i q ∙ ap (λ (k : ℕ). Σ ◌+ℤ◌ (pos 0) (x + i + 1) k (entry cols)) e ∙ span_square w h r y c (x + i) (omega arith) }
