-- Map entries: what the row's function asks and gives, and that its sums and sizes, which slide, give the rules' refined values, and 10,000 at hidden
-- pixels. Assumes nothing.
use mathlib.Core.Path.{◌≡◌, refl, ap, ap₂, ◌∙◌, sym}
use mathlib.Core.Bool.{Bool, true, false, not, cond}
use mathlib.Core.List.{List}
use Prim.Native.Nat.{ℕ, ◌+◌, ◌-◌, ◌*◌, ◌/◌, ◌%◌, ◌≤◌, ◌<◌, max}
use native.Mathlib.Omega.{arith}
use lib.Dec.{eqb}
use lib.ListN.{length, get_or}
use lib.IntN.{ℤ, pos}
use Rattle.rules.specs.declared.Rgb.{Rgb}
use Rattle.rules.specs.Window.{Plane, Shown, window, total_z}
use Rattle.rules.specs.Light.{guide, at}
use Rattle.rules.specs.Buffers.{pixel_at, pixels, near}
use Rattle.rules.specs.Transmission.{Line, refine_of, refine}
use Rattle.rules.proofs.Integers.{rd, rd_is}
use Rattle.rules.proofs.Buffers.{at_place}
use Rattle.rules.proofs.Near.{near_yes}
use Rattle.rules.proofs.Seen.{window_some}
use Rattle.planes.specs.declared.View.{View}
use Rattle.planes.specs.View.{whole, rect_of, InPlane, row_start}
use Rattle.planes.specs.Stage.{Lined, seen_at, box_seen}
use Rattle.planes.proofs.Shown.{row_inside, seen_at_lem}
use Rattle.planes.proofs.Tails.{rest, rest_cells}
use Rattle.pixel.proofs.Sizes.{refined_le}
use Rattle.sums.specs.declared.SquareSums.{SquareSums}
use Rattle.sums.specs.Before.{SumsAbout}
use Rattle.sizes.specs.declared.WindowSizes.{WindowSizes}
use Rattle.sizes.specs.Before.{SizesAbout}
use Rattle.sizes.proofs.Sized.{size_some, size_few, size_window}
use Rattle.writer.specs.Run.{Run}
use Rattle.writer.specs.Row.{Windows, entry_by, entry_from}
use Rattle.writer.specs.Write.{Placed, entry_over, Entries}
use Rattle.writer.proofs.Runs.{run_as, run_to}
use Rattle.writer.proofs.Parts.{Upto}
use Rattle.writer.proofs.Rows.{entry_in}
use Rattle.writer.proofs.Lines.{window_sum, window_size}

-- ---- one entry of a row, from the sums and the size of its window

-- what a byte of the mask chooses: `hid` says that it hides its pixel
hidden_or : (hid : Bool) (t : ℕ) → cond (not hid) t 10000 ≡ cond hid 10000 t
hidden_or true t = refl
hidden_or false t = refl

module _ (n : ℕ) (slopes offsets : List ℤ) (ns inverses : List ℕ) (win : Windows n slopes offsets ns inverses) (i : ℕ) (less : i < n) where
  -- the sums fit an i64
  slope_is : rd (get_or slopes i (pos 0)) ≡ get_or slopes i (pos 0)
  slope_is = rd_is (get_or slopes i (pos 0)) (omega (arith, win.few i less, win.a_le i less))

  offset_is : rd (get_or offsets i (pos 0)) ≡ get_or offsets i (pos 0)
  offset_is = rd_is (get_or offsets i (pos 0)) (omega (arith, win.few i less, win.b_le i less))

  -- what is chosen of the refined value t is the entry of position p + i
  pub entry_is : (mask frame : List ℕ) (p : ℕ) (j : Rgb) (g t e : ℕ) → j ≡ pixel_at frame (p + i) → g ≡ guide j
      → t ≡ refine_of (get_or ns i 0) (rd (get_or slopes i (pos 0))) (rd (get_or offsets i (pos 0))) g → e ≡ cond (seen_at mask (p + i)) t 10000
      → e ≡ entry_from mask frame p slopes offsets ns (p + i)
  entry_is mask frame p j g t e ej eg et ee =
      let k : p + i - p ≡ i = omega arith in
      ee ∙ hidden_or (eqb (get_or mask (p + i) 0) 0) t ∙ rw (et, slope_is, offset_is, eg, ej, k)

-- ---- numbers that are the size of a list of lines, at least 1, and the sums of their slopes and offsets

pub record Read (ls : List Line) (n : ℕ) (sa sb : ℤ) : Type 0 where
  pub size : n ≡ max 1 (length ls)
  pub slopes : sa ≡ total_z (λ i. i.a) ls
  pub offsets : sb ≡ total_z (λ i. i.b) ls

-- give its refined value, where there is a line
read_refined : (ls : List Line) (n : ℕ) (sa sb : ℤ) (g : ℕ) → Read ls n sa sb → 0 < length ls → refine_of n sa sb g ≡ refine g ls
unfolding refine
read_refined ls n sa sb g s some =
    let e : n ≡ length ls = omega (arith, s.size) in
    rw (e, s.slopes, s.offsets)

-- the entry that a byte of the mask chooses: `hid` says that it hides its pixel, and only a seen pixel's refined value is asked for
chosen : (hid : Bool) (t u : ℕ) → (not hid ≡ true → t ≡ u) → cond hid 10000 t ≡ cond (not hid) u 10000
chosen true t u e = refl
chosen false t u e = e refl

-- ---- row y of the view: the sums of slopes and offsets, and the sizes, of its windows

module _ (b v : View) (r y : ℕ) (mask : List ℕ) (l : List ℤ) (base : ℕ) (sums : SquareSums) (sizes : WindowSizes)
    (q : SumsAbout v r (rest l base) (rest l (base + v.w * v.h)) y sums) (k : SizesAbout b v r mask y sizes) (F : Plane (Shown Line)) (lined : Lined l base v.w v.h (box_seen b mask) F) (p : InPlane v) (hr : r ≤ 60) (hy : y < v.tall) where
  abbrev about : ℕ → List Line
  about i = window (whole v) r F (v.top + y) (v.left + i)

  -- the row's pixels lie in the plane
  inside : v.top + y < v.h
  inside = omega (arith, p.fits.rows)

  inside_x : (i : ℕ) → i < v.wide → v.left + i < v.w
  inside_x i h = omega (arith, p.fits.columns)

  -- what the lists hold of one window
  row_read : (i : ℕ) → i < v.wide → Read (about i) (get_or sizes.ns i 0) (get_or sums.first i (pos 0)) (get_or sums.second i (pos 0))
  row_read i h = record {
    size = k.sizes.is i h ∙ size_window v.w v.h r (box_seen b mask) F lined.seen (v.top + y) (v.left + i) inside (inside_x i h);
    slopes =
        q.first.is i h
        ∙ window_sum (whole v) r F (v.top + y) (v.left + i) inside (inside_x i h) (λ k. k.a) _
        (λ y x hy hx. rest_cells l base v.w y x ∙ lined.slopes y x hy hx);
    offsets =
        q.second.is i h
        ∙ window_sum (whole v) r F (v.top + y) (v.left + i) inside (inside_x i h) (λ k. k.b) _
        (λ y x hy hx. rest_cells l (base + v.w * v.h) v.w y x ∙ lined.offsets y x hy hx);
  }

  -- what the row's function asks of all
  pub windows : Windows v.wide sums.first sums.second sizes.ns sizes.inverses
  windows = record {
    a_long = q.first_long;
    b_long = q.second_long;
    n_long = k.ns_long;
    i_long = k.inverses_long;
    some = λ i h. rw (k.sizes.is i h) (size_some v.w v.h r (box_seen b mask) (v.top + y) (v.left + i));
    few = λ i h. rw (k.sizes.is i h) (size_few v.w v.h r (box_seen b mask) (v.top + y) (v.left + i) hr);
    over = k.sizes.over;
    a_le = λ i h.
        rw (row_read i h).slopes
        (omega (arith, (row_read i h).size, window_size (whole v) r F (v.top + y) (v.left + i) inside (inside_x i h) (λ k. k.a) 2560000 lined.a_le));
    b_le = λ i h.
        rw (row_read i h).offsets
        (omega (arith, (row_read i h).size, window_size (whole v) r F (v.top + y) (v.left + i) inside (inside_x i h) (λ k. k.b) 2147483648 lined.b_le));
  }

  -- the row's entries are those of the whole map
  module _ (to : View) (fits : to.left + to.wide ≤ to.w) (same : v.wide ≡ to.wide) (placed : Placed to b v) (frame : List ℕ) where
    abbrev entries : Plane ℕ
    entries = entry_over to v r (pixels (whole to) frame) F

    -- the mask's byte at a pixel's position is that of the pixel itself
    own : (from k : ℕ) → from ≡ row_start to y → k < v.wide → (F (v.top + y) (v.left + k)).seen ≡ seen_at mask (from + k)
    own from k e h =
        let down : b.top + (v.top + y) ≡ to.top + y = omega (arith, placed.top) in
        let rows : (b.top + (v.top + y)) * b.w ≡ (to.top + y) * to.w = ap₂ (λ (i j : ℕ). i * j) down placed.w in
        let place : row_start b (v.top + y) + (v.left + k) ≡ from + k = omega (arith, e, rows, placed.left) in
        lined.seen (v.top + y) (v.left + k) inside (inside_x k h)
        ∙ sym (seen_at_lem b mask (v.top + y) (v.left + k))
        ∙ ap (seen_at mask) place

    -- one of them
    row_entry : (from k : ℕ) → from ≡ row_start to y → k < v.wide → entry_from mask frame from sums.first sums.second sizes.ns (from + k) ≡ at (whole to) entries (from + k)
    unfolding pixels
    row_entry from k e h =
        let back : from + k - from ≡ k = omega arith in
        let place : (to.top + y) * to.w + (to.left + k) ≡ from + k = omega (arith, e) in
        let down : v.top + (to.top + y - to.top) ≡ v.top + y = omega arith in
        let across : v.left + (to.left + k - to.left) ≡ v.left + k = omega arith in
        let m = get_or mask (from + k) 0 in
        let g = guide (pixel_at frame (from + k)) in
        ap (λ (j : ℕ). entry_by m (refine_of (get_or sizes.ns j 0) (get_or sums.first j (pos 0)) (get_or sums.second j (pos 0)) g)) back
        ∙ chosen (eqb m 0) (refine_of (get_or sizes.ns k 0) (get_or sums.first k (pos 0)) (get_or sums.second k (pos 0)) g) (refine g (about k))
        (λ s.
        read_refined (about k) (get_or sizes.ns k 0) (get_or sums.first k (pos 0)) (get_or sums.second k (pos 0)) g (row_read k h)
        (window_some (whole v) r F (v.top + y) (v.left + k) inside (inside_x k h) (own from k e h ∙ s)))
        ∙ ap (λ (s : Bool). cond s (refine g (about k)) 10000) (sym (own from k e h))
        ∙ ap (λ (j : ℕ). cond (F (v.top + y) (v.left + k)).seen (refine (guide (pixel_at frame j)) (about k)) 10000) (sym place)
        ∙ sym
        (ap₂ (λ (i j : ℕ). cond (F i j).seen (refine (guide (pixel_at frame ((to.top + y) * to.w + (to.left + k)))) (window (whole v) r F i j)) 10000) down across)
        ∙ sym (at_place (whole to) entries (to.top + y) (to.left + k) (omega arith))
        ∙ ap (at (whole to) entries) place

    pub row_entries : (from : ℕ) (old new : List ℕ) → from ≡ row_start to y → Run (entry_from mask frame from sums.first sums.second sizes.ns) from v.wide old new
        → Run (at (whole to) entries) from to.wide old new
    row_entries from old new e run =
        run_to _ _ same (run_as (entry_from mask frame from sums.first sums.second sizes.ns) (at (whole to) entries) from from v.wide old new (λ k h. row_entry from k e h) run)

-- ---- the whole map: its entries are transmissions

-- a refined value is one
refine_le : (g : ℕ) (l : List Line) → refine g l ≤ 10000
unfolding refine
refine_le g l = refined_le (length l) (total_z (λ i. i.a) l) (total_z (λ i. i.b) l) g

-- and so is a hidden pixel's entry
shown_le : (s : Bool) (t : ℕ) → t ≤ 10000 → cond s t 10000 ≤ 10000
shown_le true t h = h
shown_le false t h = omega arith

entry_le : (to v : View) (r : ℕ) (f : Plane Rgb) (F : Plane (Shown Line)) (y x : ℕ) → entry_over to v r f F y x ≤ 10000
entry_le to v r f F y x =
    let i = v.top + (y - to.top) in
    let j = v.left + (x - to.left) in
    shown_le (F i j).seen (refine (guide (f y x)) (window (whole v) r F i j)) (refine_le (guide (f y x)) (window (whole v) r F i j))

-- and so are those of the view, once all rows are written
pub map_held : (to v : View) (r : ℕ) (f : Plane Rgb) (F : Plane (Shown Line)) (old new : List ℕ) → InPlane to → length old ≡ to.w * to.h
    → Upto (at (whole to) (entry_over to v r f F)) (entry_in to.w (rect_of to)) old new → Entries to new
map_held to v r f F old new i long u = record { most = most }
  where
    most : (y x : ℕ) → y < to.tall → x < to.wide → get_or new (row_start to y + x) 0 ≤ 10000
    most y x hy hx =
        let p = row_start to y + x in
        let place : (to.top + y) * to.w + (to.left + x) ≡ row_start to y + x = omega arith in
        let near : entry_in to.w (rect_of to) p ≡ true =
        ap (entry_in to.w (rect_of to)) (sym place)
        ∙ at_place (whole to) (near 0 (rect_of to)) (to.top + y) (to.left + x) (omega (arith, i.fits.columns))
        ∙ near_yes 0 (rect_of to) (to.top + y) (to.left + x) (record { top = omega arith; bottom = omega arith; left = omega arith; right = omega arith })
        in
        let e : get_or new p 0 ≡ at (whole to) (entry_over to v r f F) p =
        u.at p (omega (arith, row_inside to y i hy)) ∙ ap (λ (t : Bool). cond t (at (whole to) (entry_over to v r f F) p) (get_or old p 0)) near
        in
        rw e (entry_le to v r f F (p / to.w) (p % to.w))
