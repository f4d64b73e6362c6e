-- A test that does not hold, as orders: what is known of a size, of settings, of a light, of lengths, of a mask and of a rectangle that are not refused.
-- Assumes nothing.
use mathlib.Core.Path.{◌≡◌, refl, ap, ◌∙◌}
use mathlib.Core.Bool.{Bool, true, false, not, ◌&&◌, ◌||◌, true≢false}
use mathlib.Core.List.{List, [], ◌∷◌}
use Prim.Native.Nat.{ℕ, zero, suc, ◌+◌, ◌*◌, ◌≤◌, ◌<◌, zero-le}
use native.Mathlib.Omega.{arith}
use lib.Dec.{ltb, eqb}
use lib.ListN.{length, get_or}
use borrow.Author.Tests.{ltb-false, ltb-true, eqb-true, eqb-false, ne_eqb}
use Rattle.rules.specs.Shape.{Shape, described, room}
use Rattle.rules.specs.declared.Size.{Size}
use Rattle.rules.specs.declared.Settings.{Settings}
use Rattle.rules.specs.declared.Rgb.{Rgb}
use Rattle.rules.specs.declared.Rect.{Rect}
use Rattle.rules.specs.Light.{at}
use Rattle.rules.specs.Buffers.{seen_in}
use Rattle.rules.specs.Refusals.{out, off, bad_size, bad_settings, bad_frame, bad_map, bad_mask, bad_work, bad_light, bad_rect, bad_new, bad_band, bad_entries, bad_seen}
use Rattle.rules.specs.Good.{GoodSize, GoodSettings, GoodLight, GoodRect}
use Rattle.rules.proofs.Near.{apart}
use Rattle.rules.proofs.Buffers.{at_seen}

-- neither of two tests
pub neither : (a b : Bool) → (a || b) ≡ false → (a ≡ false) × (b ≡ false)
neither true b e = absurd (true≢false e)
neither false b e = (refl, e)

pub same_of : (n m : ℕ) → off n m ≡ false → n ≡ m
same_of n m e = go (eqb n m) refl e
  where
    go : (t : Bool) → eqb n m ≡ t → not t ≡ false → n ≡ m
    go true h e = eqb-true n m h
    go false h e = absurd (true≢false e)

pub between : (lo hi n : ℕ) → out lo hi n ≡ false → (lo ≤ n) × (n ≤ hi)
between lo hi n e = let a = neither (ltb n lo) (ltb hi n) e in (ltb-false n lo a.0, ltb-false hi n a.1)

some_of : (n : ℕ) → eqb n 0 ≡ false → 0 < n
some_of n e = let h : n ≡ 0 → ⊥ = eqb-false n 0 e in omega arith

pub size_good : (z : Size) → bad_size z ≡ false → GoodSize (described z)
unfolding bad_size
size_good z e =
    let a = neither (out 1 1024 z.w || out 1 1024 z.h) (ltb 262144 (z.w * z.h)) e in
    let b = neither (out 1 1024 z.w) (out 1 1024 z.h) a.0 in
    let w = between 1 1024 z.w b.0 in
    let h = between 1 1024 z.h b.1 in
    record { across = w.0; down = h.0; wide = w.1; tall = h.1; area = ltb-false 262144 (z.w * z.h) a.1 }

pub settings_good : (k : Settings) → bad_settings k ≡ false → GoodSettings k
unfolding bad_settings
settings_good k e =
    let f = neither (ltb 30 k.s || ltb 60 k.r || out 1 10000 k.omega || out 1 585225 k.e || out 1 10000 k.t0) (out 1 1000 k.share) e in
    let d = neither (ltb 30 k.s || ltb 60 k.r || out 1 10000 k.omega || out 1 585225 k.e) (out 1 10000 k.t0) f.0 in
    let c = neither (ltb 30 k.s || ltb 60 k.r || out 1 10000 k.omega) (out 1 585225 k.e) d.0 in
    let b = neither (ltb 30 k.s || ltb 60 k.r) (out 1 10000 k.omega) c.0 in
    let a = neither (ltb 30 k.s) (ltb 60 k.r) b.0 in
    let omega' = between 1 10000 k.omega b.1 in
    let e' = between 1 585225 k.e c.1 in
    let floor = between 1 10000 k.t0 d.1 in
    let share = between 1 1000 k.share f.1 in
    record {
      s_most = ltb-false 30 k.s a.0;
      r_most = ltb-false 60 k.r a.1;
      omega_some = omega'.0;
      omega_most = omega'.1;
      e_some = e'.0;
      e_most = e'.1;
      floor_some = floor.0;
      floor_most = floor.1;
      share_some = share.0;
      share_most = share.1;
    }

pub light_good : (a : Rgb) → bad_light a ≡ false → GoodLight a
unfolding bad_light
light_good a e =
    let p = neither (eqb a.r 0 || eqb a.g 0) (eqb a.b 0) e in
    let q = neither (eqb a.r 0) (eqb a.g 0) p.0 in
    record { red = some_of a.r q.0; green = some_of a.g q.1; blue = some_of a.b p.1 }

-- ---- lengths

pub frame_good : (z : Size) (n : ℕ) → bad_frame z n ≡ false → n ≡ 3 * (z.w * z.h)
unfolding bad_frame
frame_good z n e = same_of n (3 * (z.w * z.h)) e

pub map_good : (z : Size) (n : ℕ) → bad_map z n ≡ false → n ≡ z.w * z.h
unfolding bad_map
map_good z n e = same_of n (z.w * z.h) e

pub mask_good : (z : Size) (n : ℕ) → bad_mask z n ≡ false → n ≡ z.w * z.h
unfolding bad_mask
mask_good z n e = same_of n (z.w * z.h) e

pub work_good : (z : Size) (n : ℕ) → bad_work z n ≡ false → room (described z) ≤ n
unfolding bad_work
work_good z n e = ltb-false n (room (described z)) e

-- ---- a map's entries

-- none is above 10,000
pub entries_good : (map : List ℕ) → bad_entries map ≡ false → (p : ℕ) → get_or map p 0 ≤ 10000
unfolding bad_entries
entries_good [] e p = zero-le
entries_good (t ∷ map) e zero = ltb-false 10000 t (neither (ltb 10000 t) (bad_entries map) e).0
entries_good (t ∷ map) e (suc p) = entries_good map (neither (ltb 10000 t) (bad_entries map) e).1 p

-- ---- a mask's bytes

-- one of them is not 0
abbrev pub SomeSeen : List ℕ → Type 0
SomeSeen mask = (p : ℕ) × (p < length mask) × (get_or mask p 0 ≡ 0 → ⊥)

pub seen_good : (mask : List ℕ) → bad_seen mask ≡ false → SomeSeen mask
unfolding bad_seen
seen_good [] e = absurd (true≢false e)
seen_good (i ∷ mask) e = go (eqb i 0) refl e (seen_good mask)
  where
    go : (b : Bool) → eqb i 0 ≡ b → (b && bad_seen mask) ≡ false → (bad_seen mask ≡ false → SomeSeen mask) → SomeSeen (i ∷ mask)
    go false h f ih = (0, omega arith, eqb-false i 0 h)
    go true h f ih = let s = ih f in (suc s.0, omega (arith, s.1), s.2)

-- so a mask of the right length shows a pixel of the frame
pub seen_place : (z : Shape) (mask : List ℕ) → length mask ≡ z.w * z.h → bad_seen mask ≡ false → (p : ℕ) × (p < z.w * z.h) × (at z (seen_in z mask) p ≡ true)
seen_place z mask n e =
    let s = seen_good mask e in
    (s.0, omega (arith, s.1), at_seen z mask s.0 ∙ ap not (ne_eqb (get_or mask s.0 0) 0 s.2))

-- and each is 0 where the test holds
pub seen_none : (mask : List ℕ) → bad_seen mask ≡ true → (p : ℕ) → get_or mask p 0 ≡ 0
unfolding bad_seen
seen_none [] e p = refl
seen_none (i ∷ mask) e zero = eqb-true i 0 (apart (eqb i 0) (bad_seen mask) e).0
seen_none (i ∷ mask) e (suc p) = seen_none mask (apart (eqb i 0) (bad_seen mask) e).1 p

-- ---- a rectangle, its pixels, a band

pub rect_good : (z : Size) (c : Rect) → bad_rect z c ≡ false → GoodRect (described z) c
unfolding bad_rect
rect_good z c e =
    let a = neither (eqb c.w 0 || eqb c.h 0 || ltb z.w (c.x + c.w)) (ltb z.h (c.y + c.h)) e in
    let b = neither (eqb c.w 0 || eqb c.h 0) (ltb z.w (c.x + c.w)) a.0 in
    let d = neither (eqb c.w 0) (eqb c.h 0) b.0 in
    record {
      some_w = some_of c.w d.0;
      some_h = some_of c.h d.1;
      across = ltb-false z.w (c.x + c.w) b.1;
      down = ltb-false z.h (c.y + c.h) a.1;
    }

pub new_good : (c : Rect) (n : ℕ) → bad_new c n ≡ false → n ≡ 3 * (c.w * c.h)
unfolding bad_new
new_good c n e = same_of n (3 * (c.w * c.h)) e

pub band_good : (z : Size) (start end : ℕ) → bad_band z start end ≡ false → (start < end) × (end ≤ z.h)
unfolding bad_band
band_good z start end e =
    let a = neither (not (ltb start end)) (ltb z.h end) e in
    (ltb-true start end (not_not (ltb start end) a.0), ltb-false z.h end a.1)
  where
    not_not : (b : Bool) → not b ≡ false → b ≡ true
    not_not true h = refl
    not_not false h = absurd (true≢false h)
