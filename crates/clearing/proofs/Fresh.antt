-- What is written by way of a box and its lines is what the whole frame has, and what the passes leave of the work area is wiped alike. Assumes nothing.
use mathlib.Core.Path.{◌≡◌, refl, ap, ap₂, ◌∙◌, sym}
use mathlib.Core.Bool.{Bool, true, cond}
use mathlib.Core.List.{List}
use Prim.Native.Nat.{ℕ, ◌+◌, ◌-◌, ◌*◌, ◌≤◌, ◌<◌, max}
use native.Mathlib.Nat.{mul-le-mul}
use native.Mathlib.Omega.{arith}
use lib.IntN.{ℤ}
use Rattle.rules.specs.Shape.{Shape, room}
use Rattle.rules.specs.declared.Settings.{Settings}
use Rattle.rules.specs.declared.Rgb.{Rgb}
use Rattle.rules.specs.declared.Rect.{Rect}
use Rattle.rules.specs.Window.{Plane, Shown, window}
use Rattle.rules.specs.Light.{guide}
use Rattle.rules.specs.Transmission.{Line, sample, fit, refine, refined, map_entry}
use Rattle.rules.specs.Picture.{recover3, cleared}
use Rattle.rules.specs.Buffers.{pixels, seen_in, masked, values, bytes, entries, patch, near, map_with, frame_with}
use Rattle.rules.specs.Box.{part, Fits, Covers}
use Rattle.rules.proofs.Buffers.{patch_cong, entries_cong, bytes_cong, values_entries}
use Rattle.rules.proofs.Local.{window_local}
use Rattle.rules.proofs.Near.{Near, near_yes, near_facts}
use Rattle.rules.proofs.Box.{Boxed, window_box, fit_box}
use Rattle.planes.specs.declared.View.{View}
use Rattle.planes.specs.View.{whole, box_of, rect_of, InPlane, Framed}
use Rattle.planes.specs.Cells.{SameFrom}
use Rattle.planes.specs.Stage.{Given, GivenView, Lined, box_seen, box_pixels}
use Rattle.filter.specs.Fit.{fitted}
use Rattle.writer.specs.Write.{Placed, entry_over, recovered_by}
use Rattle.clearing.specs.Call.{whole_rect, shape_of, view_of, in_view, Inside, Nested}

-- ---- the box law at a pixel of the frame that is covered

covered : {A B : Type 0} (z b : Shape) (top left : ℕ) (fits : Fits z b top left) (q : ℕ) (t : ℕ → ℕ → Bool) → Covers z b top left q t
    → (F : Shape → Plane A → Plane B) → Boxed z b top left fits q F → (f : Plane A) (v u : ℕ) → v < z.h → u < z.w → t v u ≡ true
    → F b (part top left f) (v - top) (u - left) ≡ F z f v u
covered z b top left fits q t covers F law f v u hv hu e =
    let r : top ≤ v = covers.row v u hv hu e in
    let s : left ≤ u = covers.column v u hv hu e in
    sym (law f (v - top) (u - left) (covers.sees v u hv hu e))
    ∙ ap₂ (F z f) (let i : top + (v - top) ≡ v = omega arith in i) (let i : left + (u - left) ≡ u = omega arith in i)

-- what is written where the test holds
patch_at : {A : Type 0} (t : ℕ → ℕ → Bool) (new old : Plane A) (v u : ℕ) → t v u ≡ true → patch t new old v u ≡ new v u
unfolding patch
patch_at t new old v u e = rw e

module _ {z : Shape} {k : Settings} (a : Rgb) (g : Plane (Shown Rgb)) {f p o : Rect} (n : Nested z k f p o) where
  box_fits : Fits z (shape_of f) f.y f.x
  box_fits = record { rows = omega (arith, n.box.down); columns = omega (arith, n.box.east) }

  part_fits : Fits z (shape_of p) p.y p.x
  part_fits = record { rows = omega (arith, n.box.down, n.part.down); columns = omega (arith, n.box.east, n.part.east) }

  -- the lines of p, as they stand in the box
  abbrev pub box_lines : Plane (Shown Line)
  box_lines = part (p.y - f.y) (p.x - f.x) (fit (shape_of f) k a (part f.y f.x g))

  -- are the frame's
  lines_are : (y x : ℕ) → y < p.h → x < p.w → box_lines y x ≡ part p.y p.x (fit z k a g) y x
  lines_are y x hy hx =
      let i = n.part in
      ap₂ (fit (shape_of f) k a (part f.y f.x g)) (let e : p.y - f.y + y ≡ p.y + y - f.y = omega (arith, i.up) in e) (let e : p.x - f.x + x ≡ p.x + x - f.x = omega (arith, i.west) in e)
      ∙ covered z (shape_of f) f.y f.x box_fits (k.s + k.r) (near 0 p) n.lines (λ z. fit z k a) (fit_box z (shape_of f) f.y f.x box_fits k a) g (p.y + y) (p.x + x)
      (omega (arith, part_fits.rows)) (omega (arith, part_fits.columns))
      (near_yes 0 p (p.y + y) (p.x + x) (record { top = omega arith; bottom = omega arith; left = omega arith; right = omega arith }))

  abbrev to : View
  to = view_of z o

  -- the frame's bytes
  abbrev colours : Plane Rgb
  colours v u = (g v u).value

  -- a pixel of o, in p
  module _ (v u : ℕ) (m : Near 0 o v u) where
    row : o.y - p.y + (v - o.y) ≡ v - p.y
    row = omega (arith, n.rect.up, m.top)

    column : o.x - p.x + (u - o.x) ≡ u - p.x
    column = omega (arith, n.rect.west, m.left)

    low : v - p.y < p.h
    low = omega (arith, n.rect.up, n.rect.down, m.top, m.bottom)

    right : u - p.x < p.w
    right = omega (arith, n.rect.west, n.rect.east, m.left, m.right)

    -- is seen by its line as in the frame
    line_seen : (box_lines (o.y - p.y + (v - o.y)) (o.x - p.x + (u - o.x))).seen ≡ (g v u).seen
    unfolding fit
    line_seen =
        ap (λ (i : Shown Line). i.seen)
        (ap₂ box_lines row column
        ∙ lines_are (v - p.y) (u - p.x) low right
        ∙ ap₂ (fit z k a g) (let e : p.y + (v - p.y) ≡ v = omega (arith, n.rect.up, m.top) in e) (let e : p.x + (u - p.x) ≡ u = omega (arith, n.rect.west, m.left) in e))

    -- and has the frame's window of lines
    line_window : v < z.h → u < z.w → near 0 o v u ≡ true
        → window (shape_of p) k.r box_lines (o.y - p.y + (v - o.y)) (o.x - p.x + (u - o.x)) ≡ window z k.r (fit z k a g) v u
    line_window hv hu e =
        ap₂ (window (shape_of p) k.r box_lines) row column
        ∙ window_local (shape_of p) k.r box_lines (part p.y p.x (fit z k a g)) (v - p.y) (u - p.x) low right (λ y x w. lines_are y x w.row w.column)
        ∙ covered z (shape_of p) p.y p.x part_fits k.r (near 0 o) n.entries (λ z. window z k.r) (window_box z (shape_of p) p.y p.x part_fits k.r) (fit z k a g) v u hv hu e

  -- so the map entries by them are the frame's
  entry_is : (v u : ℕ) → v < z.h → u < z.w → near 0 o v u ≡ true → entry_over to (in_view p o) k.r colours box_lines v u ≡ map_entry z k a g v u
  unfolding map_entry refined
  entry_is v u hv hu e =
      let m : Near 0 o v u = near_facts 0 o v u e in
      ap₂ (λ (b : Bool) (l : List Line). cond b (refine (guide (g v u).value) l) 10000) (line_seen v u m) (line_window v u m hv hu e)

  pub map_fresh : (old : Plane ℕ) → entries z (patch (near 0 o) (entry_over to (in_view p o) k.r colours box_lines) old) ≡ entries z (patch (near 0 o) (map_entry z k a g) old)
  map_fresh old = entries_cong z _ _ (λ v u hv hu. patch_cong (near 0 o) _ _ old v u (entry_is v u hv hu))

  -- and the pixels recovered from a map that has them
  pub picture_fresh : (m : List ℕ) (old_map : Plane ℕ) (old : Plane Rgb) → m ≡ entries z (patch (near 0 o) (map_entry z k a g) old_map)
      → bytes z (patch (near 0 o) (recovered_by a k.t0 colours (values z m)) old) ≡ bytes z (patch (near 0 o) (cleared z k a g) old)
  unfolding cleared
  picture_fresh m old_map old e =
      bytes_cong z _ _
      (λ v u hv hu. patch_cong (near 0 o) _ _ old v u
      (λ t. ap (λ (n : ℕ). recover3 a (g v u).value (max n k.t0))
      (ap (λ (l : List ℕ). values z l v u) e ∙ values_entries z _ v u hv hu ∙ patch_at (near 0 o) (map_entry z k a g) old_map v u t)))

-- ---- the work area

-- a rectangle has no more pixels than the one that it lies in
pub inside_area : (outer inner : Rect) → Inside outer inner → inner.w * inner.h ≤ outer.w * outer.h
inside_area outer inner i =
    let w : inner.w ≤ outer.w = omega (arith, i.west, i.east) in
    let h : inner.h ≤ outer.h = omega (arith, i.up, i.down) in
    mul-le-mul w h

-- samples and lines have room in the frame's work area
pub planes_le : (z : Shape) (f p : Rect) → Inside (whole_rect z) f → Inside f p → 2 * (f.w * f.h) + 2 * (p.w * p.h) ≤ room z
planes_le z f p i j = omega (arith, inside_area (whole_rect z) f i, inside_area f p j)

-- what two passes leave alone
pub same_after : (l m n : List ℤ) (a b c : ℕ) → SameFrom l m a → SameFrom m n b → a ≤ c → b ≤ c → SameFrom l n c
same_after l m n a b c s t h k = record { same = λ i e. t.same i (omega arith) ∙ s.same i (omega arith) }

-- the lines that the filter fits to the samples of a box are the box's
pub lines_fit : (l : List ℤ) (v p : View) (k : Settings) (a : Rgb) (M : Plane Bool) (g : Plane (Shown Rgb)) → p.w ≡ v.wide → p.h ≡ v.tall
    → Lined l (2 * (p.w * p.h)) p.wide p.tall M (part p.top p.left (fitted p.w p.h k.r k.e (sample (box_of v) k a g)))
    → Lined l (2 * (v.wide * v.tall)) p.wide p.tall M (part p.top p.left (fit (box_of v) k a g))
unfolding fit sample
lines_fit l v p k a M g ew eh h = rw (ew, eh) at h

-- lines under a mask that is said in another way
lined_seen : {l : List ℤ} {base w h : ℕ} {M N : Plane Bool} {F : Plane (Shown Line)} → Lined l base w h M F → ((y x : ℕ) → y < h → x < w → M y x ≡ N y x) → Lined l base w h N F
lined_seen d same = record {
  room = d.room;
  seen = λ y x hy hx. d.seen y x hy hx ∙ same y x hy hx;
  a_le = d.a_le;
  b_le = d.b_le;
  slopes = d.slopes;
  offsets = d.offsets;
}

-- ---- what the passes ask for and leave, in words of the rectangles

module _ {z : Shape} {k : Settings} {a : Rgb} {mask frame : List ℕ} (given : Given z z 0 0 k a mask frame) {f p o : Rect} (n : Nested z k f p o) where
  frame_view : (c : Rect) → Inside (whole_rect z) c → InPlane (view_of z c)
  frame_view c i = record {
    short = given.size.wide;
    low = given.size.tall;
    area = given.size.area;
    fits = record { rows = omega (arith, i.down); columns = omega (arith, i.east) };
    across = i.across;
    down = i.tall;
  }

  -- a rectangle in another that lies in the frame
  inner_view : (outer inner : Rect) → Inside (whole_rect z) outer → Inside outer inner → InPlane (in_view outer inner)
  inner_view outer inner i j = record {
    short = omega (arith, i.east, given.size.wide);
    low = omega (arith, i.down, given.size.tall);
    area = omega (arith, inside_area (whole_rect z) outer i, given.size.area);
    fits = record { rows = omega (arith, j.up, j.down); columns = omega (arith, j.west, j.east) };
    across = j.across;
    down = j.tall;
  }

  part_whole : Inside (whole_rect z) p
  part_whole =
      record { up = omega arith; down = omega (arith, n.box.down, n.part.down); west = omega arith; east = omega (arith, n.box.east, n.part.east); across = n.part.across; tall = n.part.tall }

  rect_whole : Inside (whole_rect z) o
  rect_whole =
      record { up = omega arith; down = omega (arith, part_whole.down, n.rect.down); west = omega arith; east = omega (arith, part_whole.east, n.rect.east); across = n.rect.across; tall = n.rect.tall }

  pub box_view : InPlane (view_of z f)
  box_view = frame_view f n.box

  pub rect_view : InPlane (view_of z o)
  rect_view = frame_view o rect_whole

  pub lines_view : InPlane (in_view f p)
  lines_view = inner_view f p n.box n.part

  pub entries_view : InPlane (in_view p o)
  entries_view = inner_view p o part_whole n.rect

  -- the lines are those of p in the frame
  pub entries_framed : Framed (view_of z p) (in_view p o) mask
  entries_framed = record { box = frame_view p part_whole; wide = refl; tall = refl; bytes = given.shown }

  pub entries_placed : Placed (view_of z o) (view_of z p) (in_view p o)
  entries_placed = record { w = refl; h = refl; top = omega (arith, n.rect.up); left = omega (arith, n.rect.west) }

  pub box_given : GivenView (view_of z f) k a mask frame
  box_given = record {
    size = given.size;
    settings = given.settings;
    light = given.light;
    shown = given.shown;
    bytes = given.bytes;
    fits = box_view.fits;
    across = n.box.across;
    down = n.box.tall;
  }

  -- the lines that the passes leave are those of p in the box
  pub lines_left : (l : List ℤ) (v w : View) → v ≡ view_of z f → w ≡ in_view f p
      → Lined l (2 * (v.wide * v.tall)) w.wide w.tall (part w.top w.left (box_seen v mask)) (part w.top w.left (fit (box_of v) k a (box_pixels v mask frame)))
      → Lined l (2 * (f.w * f.h)) p.w p.h (box_seen (view_of z p) mask) (box_lines a (masked z mask frame) n)
  lines_left l v w ev ew h =
      let i = n.part in
      lined_seen (rw (ev, ew) at h)
      (λ y x hy hx. ap₂ (seen_in z mask) (let e : f.y + (p.y - f.y + y) ≡ p.y + y = omega (arith, i.up) in e) (let e : f.x + (p.x - f.x + x) ≡ p.x + x = omega (arith, i.west) in e))

  -- the map that is written is the frame's
  pub map_left : (to v : View) → to ≡ view_of z o → v ≡ in_view p o → (old new : List ℕ)
      → new ≡ map_with (whole to) (near 0 (rect_of to)) (entry_over to v k.r (pixels (whole to) frame) (box_lines a (masked z mask frame) n)) old
      → new ≡ map_with z (near 0 o) (map_entry z k a (masked z mask frame)) old
  unfolding masked
  map_left to v et ev old new h = (rw (et, ev) at h) ∙ map_fresh a (masked z mask frame) n (values z old)

  -- and so is the picture
  pub picture_left : (to : View) → to ≡ view_of z o → (old_map map old new : List ℕ) → map ≡ map_with z (near 0 o) (map_entry z k a (masked z mask frame)) old_map
      → new ≡ frame_with (whole to) (near 0 (rect_of to)) (recovered_by a k.t0 (pixels (whole to) frame) (values (whole to) map)) old
      → new ≡ frame_with z (near 0 o) (cleared z k a (masked z mask frame)) old
  unfolding masked
  picture_left to et old_map map old new em h = (rw et at h) ∙ picture_fresh a (masked z mask frame) n map (values z old_map) (pixels z old) em
