-- The fit, row by row: what stands before row y, what the sums of a row are, and what the row's lines leave. The plane is the box b of the mask.
-- Assumes nothing.
use mathlib.Core.Path.{◌≡◌, refl, sym, ap, ◌∙◌}
use mathlib.Core.Bool.{Bool, true, false, cond, not}
use mathlib.Core.List.{List}
use Prim.Native.Nat.{ℕ, ◌+◌, ◌-◌, ◌*◌, ◌≤◌, ◌<◌}
use native.Mathlib.Nat.{zero-add, add_assoc}
use native.Mathlib.Omega.{arith}
use lib.Dec.{eqb}
use lib.ListN.{length, get_or, take, drop, length-drop}
use lib.Seq.{get_or-take, get_or-drop, length-take-le}
use lib.IntN.{ℤ, pos, nat_abs}
use Rattle.rules.specs.Shape.{Shape}
use Rattle.rules.specs.Window.{Plane, Shown, window, total}
use Rattle.rules.specs.Transmission.{Sample, Line, line}
use Rattle.rules.specs.Box.{part}
use Rattle.planes.specs.declared.View.{View}
use Rattle.planes.specs.View.{InPlane, Framed, row_start}
use Rattle.planes.specs.Cells.{cells, SameFrom}
use Rattle.planes.specs.Stage.{seen_at, box_seen, product_word, square_word, Sampled, term_of, Lined}
use Rattle.planes.proofs.Shown.{row_end, row_inside, seen_at_lem}
use Rattle.planes.proofs.Tails.{rest, rest_cells}
use Rattle.sums.specs.declared.SquareSums.{SquareSums}
use Rattle.sums.specs.Before.{SumsAbout, SumsBefore}
use Rattle.sizes.specs.Sizes.{size_at}
use Rattle.sizes.specs.declared.WindowSizes.{WindowSizes}
use Rattle.sizes.specs.Before.{SizesAbout, SizesBefore}
use Rattle.filter.specs.Fit.{fitted}
use Rattle.filter.specs.Row.{WordMoments, word_line, word, RowIn, flat_line, row_line, RowLines}
use Rattle.filter.proofs.Windows.{word_total, window_moments, window_line}
use Rattle.filter.proofs.Lines.{Lines, lines_none, lines_more, row_before, row_after}
use Rattle.filter.proofs.Samples.{SameBefore, sampled_still, sums_still}

-- ---- the lines of seen and hidden pixels

-- the line that stands for a pixel: a hidden one has none
abbrev standing : Shown Line → Line
standing i = cond i.seen i.value flat_line

-- a number of it
standing_term : (term : Line → ℤ) → term flat_line ≡ pos 0 → (i : Shown Line) → term (standing i) ≡ term_of term i
standing_term term none i = go i.seen
  where
    go : (b : Bool) → term (cond b i.value flat_line) ≡ cond b (term i.value) (pos 0)
    go true = refl
    go false = none

-- both are hidden, or both are seen and their lines are equal
standing_as : (p q : Bool) (i j : Line) → p ≡ q → (q ≡ true → i ≡ j) → cond p i flat_line ≡ cond q j flat_line
standing_as p true i j e is = rw e (is refl)
standing_as p false i j e is = rw e

-- the lines of the view's pixels
abbrev drawn : (v : View) (r e : ℕ) → Plane (Shown Sample) → Plane Line
drawn v r e S y x = standing (part v.top v.left (fitted v.w v.h r e S) y x)

-- ---- the row's own pixels in the mask

-- a part of a list is as long as it says
pub part_long : (l : List ℕ) (a n : ℕ) → a + n ≤ length l → length (take (a + n - a) (drop a l)) ≡ n
part_long l a n h = length-take-le (a + n - a) (drop a l) (simp length-drop (omega arith)) ∙ omega arith

-- those of row y, from place `at` on: each is seen or hidden as the plane's pixel is
pub record Own (v : View) (M : Plane Bool) (mask : List ℕ) (at y : ℕ) : Type 0 where
  pub room : at + v.wide ≤ length mask
  pub seen : (x : ℕ) → x < v.wide → seen_at mask (at + x) ≡ M (v.top + y) (v.left + x)

pub own : {b v : View} {mask : List ℕ} → InPlane v → Framed b v mask → (y : ℕ) → y < v.tall → (at : ℕ) → at ≡ row_start b (v.top + y) + v.left → Own v (box_seen b mask) mask at y
own {b} {v} {mask} i f y less at e = record {
  room = omega (arith, row_inside b (v.top + y) f.box (omega (arith, f.tall, i.fits.rows)), f.bytes, f.wide, i.fits.columns);
  seen = λ x hx. rw e (ap (seen_at mask) (add_assoc (row_start b (v.top + y)) v.left x) ∙ seen_at_lem b mask (v.top + y) (v.left + x));
}

-- and as a part of its own
pub own_part : {v : View} {M : Plane Bool} {mask : List ℕ} {y : ℕ} (at : ℕ) → Own v M mask at y → Own v M (take (at + v.wide - at) (drop at mask)) 0 y
own_part {v} {mask = mask} at o = record {
  room = omega (arith, part_long mask at v.wide o.room);
  seen = λ x hx.
      ap (λ (m : ℕ). not (eqb m 0)) (get_or-take (at + v.wide - at) (drop at mask) (0 + x) 0 (omega arith) ∙ get_or-drop at mask (0 + x) 0 ∙ ap (λ (k : ℕ). get_or mask (at + k) 0) (zero-add x))
      ∙ o.seen x hx;
}

-- ---- a row's sums: q of both words over the squares about the pixels of row y, and k of how many seen pixels these have

module _ {b v : View} {r y at : ℕ} {mask row : List ℕ} {m : List ℤ} {sums : SquareSums} {sizes : WindowSizes} (i : InPlane v) (hr : r ≤ 60) (less : y < v.tall)
    (o : Own v (box_seen b mask) row at y) (q : SumsAbout v r m (rest m (v.w * v.h)) y sums) (k : SizesAbout b v r mask y sizes) {S : Plane (Shown Sample)} (s : Sampled m v.w v.h (box_seen b mask) S) (x : ℕ)
    (hx : x < v.wide) where
  -- the pixel lies in the plane
  inside : v.top + y < v.h
  inside = omega (arith, i.fits.rows)

  column : v.left + x < v.w
  column = omega (arith, i.fits.columns)

  abbrev near : List Sample
  near = let z : Shape = record { w = v.w; h = v.h } in window z r S (v.top + y) (v.left + x)

  -- what has been read is its window's size, and the sums of words over it
  n_is : get_or sizes.ns x 0 ≡ size_at v.w v.h r (box_seen b mask) (v.top + y) (v.left + x)
  n_is = k.sizes.is x hx

  u_is : get_or sums.first x (pos 0) ≡ pos (total product_word near)
  u_is = q.first.is x hx ∙ word_total s r (v.top + y) (v.left + x) inside column product_word (cells m 0 v.w) s.products

  v_is : get_or sums.second x (pos 0) ≡ pos (total square_word near)
  v_is =
      q.second.is x hx
      ∙ word_total s r (v.top + y) (v.left + x) inside column square_word (cells (rest m (v.w * v.h)) 0 v.w)
      (λ v' u hv hu. rest_cells m (v.w * v.h) v.w v' u ∙ s.squares v' u hv hu)

  -- the mask shows it where the samples do
  seen_is : seen_at row (at + x) ≡ (S (v.top + y) (v.left + x)).seen
  seen_is = o.seen x hx ∙ sym (s.seen (v.top + y) (v.left + x) inside column)

  -- so it can be fitted where it is seen, and its line is that of the rules
  row_moments : seen_at row (at + x) ≡ true → WordMoments (get_or sizes.ns x 0) (word sums.first x) (word sums.second x)
  row_moments shown = rw (n_is, u_is, v_is) (window_moments s r (v.top + y) (v.left + x) inside column hr (sym seen_is ∙ shown))

  word_line_lem : (e : ℕ) → (S (v.top + y) (v.left + x)).seen ≡ true → word_line (get_or sizes.ns x 0) (word sums.first x) (word sums.second x) e ≡ line e near
  word_line_lem e seen = rw (n_is, u_is, v_is) (window_line s r (v.top + y) (v.left + x) inside column hr seen e)

  row_line_lem : (e : ℕ) → row_line sums.first sums.second sizes.ns e row at x ≡ drawn v r e S y x
  row_line_lem e =
      standing_as (seen_at row (at + x)) (S (v.top + y) (v.left + x)).seen (word_line (get_or sizes.ns x 0) (word sums.first x) (word sums.second x) e) (line e near) seen_is (word_line_lem e)

-- what the row's fit is given
pub row_in : {b v : View} {r y at : ℕ} {mask row : List ℕ} {m : List ℤ} {sums : SquareSums} {sizes : WindowSizes} {S : Plane (Shown Sample)} → InPlane v → r ≤ 60 → y < v.tall
    → Own v (box_seen b mask) row at y → SumsAbout v r m (rest m (v.w * v.h)) y sums → SizesAbout b v r mask y sizes → Sampled m v.w v.h (box_seen b mask) S → 2 * (v.w * v.h) + 2 * (v.wide * v.tall) ≤ length m
    → RowIn m (2 * (v.w * v.h) + y * v.wide) (2 * (v.w * v.h) + v.wide * v.tall + y * v.wide) v.wide sums.first sums.second sizes.ns sizes.inverses row at
row_in {v = v} {y = y} i hr less o q k s room =
    let end = row_end v.wide v.tall y less in
    record {
      apart = omega arith;
      room = omega arith;
      us_long = q.first_long;
      vs_long = q.second_long;
      ns_long = k.ns_long;
      inverses_long = k.inverses_long;
      mask_long = o.room;
      us_whole = λ x hx. let e = u_is i hr less o q k s x hx in e ∙ ap (λ (z : ℤ). pos (nat_abs z)) (sym e);
      vs_whole = λ x hx. let e = v_is i hr less o q k s x hx in e ∙ ap (λ (z : ℤ). pos (nat_abs z)) (sym e);
      moments = λ x hx. row_moments i hr less o q k s x hx;
      over = k.sizes.over;
    }

-- ---- before row y

-- l was given and m stands there now; the sums and the sizes are those that the row asks for
pub record Going (b v : View) (r e : ℕ) (mask : List ℕ) (l m : List ℤ) (sums : SquareSums) (sizes : WindowSizes) (y : ℕ) : Type 0 where
  pub before : SameBefore l m (2 * (v.w * v.h))
  pub after : SameFrom l m (2 * (v.w * v.h) + 2 * (v.wide * v.tall))
  pub lines : (S : Plane (Shown Sample)) → Sampled l v.w v.h (box_seen b mask) S → Lines m (2 * (v.w * v.h)) v.wide v.tall (drawn v r e S) y
  pub words : SumsBefore v r m (rest m (v.w * v.h)) y sums
  pub counts : SizesBefore b v r mask y sizes

-- nothing has been written yet
pub going_start : {b v : View} {r e : ℕ} {mask : List ℕ} {l : List ℤ} {sums : SquareSums} {sizes : WindowSizes} → SumsBefore v r l (rest l (v.w * v.h)) 0 sums
    → SizesBefore b v r mask 0 sizes → Going b v r e mask l l sums sizes 0
going_start words counts = record {
  before = record { same = λ k h. refl };
  after = record { same = λ k h. refl };
  lines = λ S s. lines_none _ _ _ _ _;
  words = words;
  counts = counts;
}

-- row y has been summed and its lines have been written: m became n
module _ {b v : View} {r e y : ℕ} {mask : List ℕ} {l m : List ℤ} {sums : SquareSums} {sizes : WindowSizes} (g : Going b v r e mask l m sums sizes y) (i : InPlane v) (hr : r ≤ 60)
    (less : y < v.tall) (long : length m ≡ length l) where
  -- the samples stand as they did
  pub going_sampled : {S : Plane (Shown Sample)} → Sampled l v.w v.h (box_seen b mask) S → Sampled m v.w v.h (box_seen b mask) S
  going_sampled = sampled_still g.before long

  module _ {n : List ℤ} {sums' : SquareSums} {sizes' : WindowSizes} {row : List ℕ} {at : ℕ} (o : Own v (box_seen b mask) row at y) (q : SumsAbout v r m (rest m (v.w * v.h)) y sums') (k : SizesAbout b v r mask y sizes')
      (words : SumsBefore v r m (rest m (v.w * v.h)) (y + 1) sums') (counts : SizesBefore b v r mask (y + 1) sizes')
      (w : RowLines m n (2 * (v.w * v.h) + y * v.wide) (2 * (v.w * v.h) + v.wide * v.tall + y * v.wide) v.wide (row_line sums'.first sums'.second sizes'.ns e row at)) where
    -- the row lies behind the samples
    same : SameBefore m n (2 * (v.w * v.h))
    same = record { same = row_before m n (2 * (v.w * v.h)) v.wide v.tall y _ less w }

    -- one row more
    pub going_more : Going b v r e mask l n sums' sizes' (y + 1)
    going_more = record {
      before = record { same = λ p h. same.same p h ∙ g.before.same p h };
      after = record { same = λ p h. row_after m n (2 * (v.w * v.h)) v.wide v.tall y _ less w p h ∙ g.after.same p h };
      lines = λ S s.
          lines_more m n (2 * (v.w * v.h)) v.wide v.tall y _ less w (drawn v r e S) (λ x hx. row_line_lem i hr less o q k (going_sampled s) x hx e) (g.lines S s);
      words = sums_still same words;
      counts = counts;
    }

-- after the last row
pub going_end : {b v : View} {r e y : ℕ} {mask : List ℕ} {l m : List ℤ} {sums : SquareSums} {sizes : WindowSizes} → InPlane v → Going b v r e mask l m sums sizes y → v.tall ≤ y
    → 2 * (v.w * v.h) + 2 * (v.wide * v.tall) ≤ length m → (S : Plane (Shown Sample)) → Sampled l v.w v.h (box_seen b mask) S
    → Lined m (2 * (v.w * v.h)) v.wide v.tall (part v.top v.left (box_seen b mask)) (part v.top v.left (fitted v.w v.h r e S))
going_end {v = v} {r = r} {e = e} i g done room S s =
    let f = g.lines S s in
    let F = part v.top v.left (fitted v.w v.h r e S) in
    record {
      room = room;
      seen = λ u x hu hx. s.seen (v.top + u) (v.left + x) (omega (arith, i.fits.rows)) (omega (arith, i.fits.columns));
      a_le = λ u x hu hx seen. rw seen at (f.a_le u x (omega arith) hx);
      b_le = λ u x hu hx seen. rw seen at (f.b_le u x (omega arith) hx);
      slopes = λ u x hu hx. f.a u x (omega arith) hx ∙ standing_term (λ j. j.a) refl (F u x);
      offsets = λ u x hu hx. f.b u x (omega arith) hx ∙ standing_term (λ j. j.b) refl (F u x);
    }
