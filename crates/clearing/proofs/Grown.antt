-- The rectangles that are brought up to date: the whole frame, and the new pixels' grown ones, which see far enough in one another. Assumes nothing.
use mathlib.Core.Path.{◌≡◌, ap, ◌∙◌, sym}
use mathlib.Core.Bool.{Bool, true, cond}
use mathlib.Core.List.{List}
use Prim.Native.Nat.{ℕ, ◌+◌, ◌≤◌, ◌<◌}
use native.Mathlib.Nat.{sub-zero}
use native.Mathlib.Omega.{arith}
use lib.ListN.{length}
use Rattle.rules.specs.Shape.{Shape}
use Rattle.rules.specs.declared.Settings.{Settings}
use Rattle.rules.specs.declared.Rgb.{Rgb}
use Rattle.rules.specs.declared.Rect.{Rect}
use Rattle.rules.specs.Window.{Plane}
use Rattle.rules.specs.Buffers.{bytes, entries, near, patch}
use Rattle.rules.specs.Good.{GoodSize, GoodRect}
use Rattle.rules.specs.Box.{Covers}
use Rattle.rules.specs.Count.{grown_rect}
use Rattle.rules.proofs.Buffers.{entries_cong, bytes_cong}
use Rattle.rules.proofs.Near.{Near, near_yes, near_facts}
use Rattle.rules.proofs.Grown.{grown_good, grown_near}
use Rattle.rules.proofs.Box.{whole_sees}
use Rattle.planes.specs.Stage.{Given}
use Rattle.clearing.specs.Call.{whole_rect, shape_of, Inside, Nested}

-- two tests that agree in the frame write the same
patch_test : {A : Type 0} (s t : ℕ → ℕ → Bool) (new old : Plane A) (v u : ℕ) → s v u ≡ t v u → patch s new old v u ≡ patch t new old v u
unfolding patch
patch_test s t new old v u e = ap (λ (b : Bool). cond b (new v u) (old v u)) e

-- ---- the whole frame

near_whole : (z : Shape) (v u : ℕ) → v < z.h → u < z.w → near 0 (whole_rect z) v u ≡ true
near_whole z v u hv hu = near_yes 0 (whole_rect z) v u (record { top = omega arith; bottom = omega arith; left = omega arith; right = omega arith })

module _ (z : Shape) where
  covers_all : (q : ℕ) → Covers z z 0 0 q (near 0 (whole_rect z))
  covers_all q = record {
    row = λ v u hv hu e. omega arith;
    column = λ v u hv hu e. omega arith;
    sees = λ v u hv hu e. simp sub-zero (whole_sees z q v u hv hu);
  }

  inside_self : (c : Rect) → 0 < c.w → 0 < c.h → Inside c c
  inside_self c w h = record { up = omega arith; down = omega arith; west = omega arith; east = omega arith; across = w; tall = h }

  pub nested_all : (k : Settings) → GoodSize z → Nested z k (whole_rect z) (whole_rect z) (whole_rect z)
  nested_all k g =
      let i = inside_self (whole_rect z) g.across g.down in
      record { box = i; part = i; rect = i; lines = covers_all (k.s + k.r); entries = covers_all k.r }

  pub entries_all : (new old : Plane ℕ) → entries z (patch (near 0 (whole_rect z)) new old) ≡ entries z new
  unfolding patch
  entries_all new old = entries_cong z _ _ (λ v u hv hu. patch_test (near 0 (whole_rect z)) (λ v u. true) new old v u (near_whole z v u hv hu))

  pub bytes_all : (new old : Plane Rgb) → bytes z (patch (near 0 (whole_rect z)) new old) ≡ bytes z new
  unfolding patch
  bytes_all new old = bytes_cong z _ _ (λ v u hv hu. patch_test (near 0 (whole_rect z)) (λ v u. true) new old v u (near_whole z v u hv hu))

-- ---- the rectangle c, grown

-- a rectangle that is grown by n, however the code comes by that number
pub grown_by : (z : Shape) (c f : Rect) {m : ℕ} (n : ℕ) → f ≡ grown_rect z m c → m ≡ n → f ≡ grown_rect z n c
grown_by z c f n e h = e ∙ ap (λ (k : ℕ). grown_rect z k c) h

module _ (z : Shape) (c : Rect) (i : GoodRect z c) where
  -- it lies in the frame, and in itself grown farther
  grown_whole : (q : ℕ) → Inside (whole_rect z) (grown_rect z q c)
  grown_whole q =
      let g = grown_good z q c i in
      record { up = omega arith; down = omega (arith, g.down); west = omega arith; east = omega (arith, g.across); across = g.some_w; tall = g.some_h }

  grown_inside : (q m : ℕ) → q ≤ m → Inside (grown_rect z m c) (grown_rect z q c)
  grown_inside q m l =
      record { up = omega arith; down = omega (arith, i.down); west = omega arith; east = omega (arith, i.across); across = omega (arith, i.some_w, i.across); tall = omega (arith, i.some_h, i.down) }

  -- grown by q, it sees as far as m in itself grown by as much more
  grown_covers : (q m n : ℕ) → q + m ≤ n → Covers z (shape_of (grown_rect z n c)) (grown_rect z n c).y (grown_rect z n c).x m (near 0 (grown_rect z q c))
  grown_covers q m n l = record {
    row = λ v u hv hu e. let h : Near q c v u = facts v u hv hu e in omega (arith, h.top);
    column = λ v u hv hu e. let h : Near q c v u = facts v u hv hu e in omega (arith, h.left);
    sees = λ v u hv hu e. let h : Near q c v u = facts v u hv hu e in record {
      row = omega (arith, h.top, h.bottom, i.down);
      column = omega (arith, h.left, h.right, i.across);
      up = omega (arith, h.top);
      down = omega (arith, h.bottom, i.down);
      west = omega (arith, h.left);
      east = omega (arith, h.right, i.across);
    };
  }
    where
      facts : (v u : ℕ) → v < z.h → u < z.w → near 0 (grown_rect z q c) v u ≡ true → Near q c v u
      facts v u hv hu e = near_facts q c v u (sym (grown_near z q c v u hv hu) ∙ e)

  -- the box grown by n, the rectangle that has lines by m, the one that is brought up to date by q: each as much farther as the next one looks
  pub nested_grown : (k : Settings) (f p o : Rect) (q : ℕ) {m n : ℕ} → f ≡ grown_rect z n c → p ≡ grown_rect z m c → o ≡ grown_rect z q c → q + k.r ≤ m → m + (k.s + k.r) ≤ n → Nested z k f p o
  nested_grown k f p o q {m} {n} ef ep eo hm hn = rw (ef, ep, eo) (record {
    box = grown_whole n;
    part = grown_inside m n (omega arith);
    rect = grown_inside q m (omega arith);
    lines = grown_covers m (k.s + k.r) n hn;
    entries = grown_covers q k.r m hm;
  })

  module _ (q : ℕ) (o : Rect) (eo : o ≡ grown_rect z q c) where
    test_is : (v u : ℕ) → v < z.h → u < z.w → near 0 o v u ≡ near q c v u
    test_is v u hv hu = rw eo (grown_near z q c v u hv hu)

    pub grown_entries : (new old : Plane ℕ) → entries z (patch (near 0 o) new old) ≡ entries z (patch (near q c) new old)
    grown_entries new old = entries_cong z _ _ (λ v u hv hu. patch_test (near 0 o) (near q c) new old v u (test_is v u hv hu))

    pub grown_bytes : (new old : Plane Rgb) → bytes z (patch (near 0 o) new old) ≡ bytes z (patch (near q c) new old)
    grown_bytes new old = bytes_cong z _ _ (λ v u hv hu. patch_test (near 0 o) (near q c) new old v u (test_is v u hv hu))

-- a frame of the same length is given as well
pub given_after : (z : Shape) (k : Settings) (a : Rgb) (mask frame frame' : List ℕ) → length frame' ≡ length frame → Given z z 0 0 k a mask frame → Given z z 0 0 k a mask frame'
given_after z k a mask frame frame' e g =
    record { size = g.size; settings = g.settings; light = g.light; shown = g.shown; bytes = e ∙ g.bytes; fits = g.fits; across = g.across; down = g.down }
