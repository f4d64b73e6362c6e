-- What is written to a buffer is read from it again, at each pixel of the frame; and planes that agree in the frame are written alike. A pixel is seen
-- exactly where the mask's byte is not 0, and frames that agree at a pixel agree there under any mask. Assumes nothing.
use mathlib.Core.Path.{◌≡◌, refl, ap, ap₂, ◌∙◌, sym}
use mathlib.Core.Bool.{Bool, true, false, not, cond}
use mathlib.Core.List.{List}
use Prim.Native.Nat.{ℕ, zero, suc, ◌+◌, ◌*◌, ◌/◌, ◌%◌, ◌≤◌, ◌<◌}
use native.Mathlib.Nat.{mod-lt, div-lt_iff_lt-mul, div-add-mod', add-zero}
use native.Mathlib.Omega.{arith}
use lib.Dec.{eqb}
use borrow.Author.Tests.{eq-eqb, ne_eqb}
use lib.ListN.{length, get_or, set}
use lib.Seq.{ext_get_or, get_or-set_same, get_or-set_other}
use native.Mathlib.Decide.{dec_lt}
use lib.Arith.{digits_lt, digits_div, digits_mod}
use Rattle.rules.specs.Shape.{Shape}
use Rattle.rules.specs.declared.Rgb.{Rgb}
use Rattle.rules.specs.Window.{Plane, from}
use Rattle.rules.specs.Light.{at}
use Rattle.rules.specs.Buffers.{pixel_at, pixels, seen_in, masked, channel, bytes, values, entries, patch}
use Rattle.rules.proofs.Local.{Agree, from_cong, from_length}

from_get_or' : {A : Type 0} (a n : ℕ) (f : ℕ → A) (i : ℕ) (d : A) → i < n → get_or (from a n f) i d ≡ f (a + i)
from_get_or' a zero f i d h = absurd (let z : 1 ≤ 0 = omega arith in omega arith)
from_get_or' a (suc n) f zero d h = ap f (omega arith)
from_get_or' a (suc n) f (suc i) d h = from_get_or' (suc a) n f i d (omega arith) ∙ ap f (omega arith)

pub from_get_or : {A : Type 0} (n : ℕ) (f : ℕ → A) (i : ℕ) (d : A) → i < n → get_or (from 0 n f) i d ≡ f i
from_get_or n f i d h = from_get_or' 0 n f i d h ∙ ap f (omega arith)

-- positions in row order
pub place_lt : (z : Shape) (y x : ℕ) → y < z.h → x < z.w → y * z.w + x < z.w * z.h
place_lt z y x hy hx = omega (arith, digits_lt hy hx)

width_pos : (w h p : ℕ) → p < w * h → 0 < w
width_pos zero h p l = omega arith
width_pos (suc w) h p l = omega arith

pub row_lt : (z : Shape) (p : ℕ) → p < z.w * z.h → p / z.w < z.h
row_lt z p l = (div-lt_iff_lt-mul (width_pos z.w z.h p l)).1 (omega arith)

pub column_lt : (z : Shape) (p : ℕ) → p < z.w * z.h → p % z.w < z.w
column_lt z p l = mod-lt p (width_pos z.w z.h p l)

pub at_place : {A : Type 0} (z : Shape) (f : Plane A) (y x : ℕ) → x < z.w → at z f (y * z.w + x) ≡ f y x
at_place z f y x hx = ap₂ f (digits_div y hx) (digits_mod y hx)

pub values_entries : (z : Shape) (f : Plane ℕ) (y x : ℕ) → y < z.h → x < z.w → values z (entries z f) y x ≡ f y x
unfolding values entries
values_entries z f y x hy hx = from_get_or (z.w * z.h) (at z f) (y * z.w + x) 0 (place_lt z y x hy hx) ∙ at_place z f y x hx

-- byte c of the pixel at position p
pub byte : (z : Shape) (f : Plane Rgb) (p c : ℕ) → p < z.w * z.h → c < 3 → get_or (bytes z f) (3 * p + c) 0 ≡ channel c (at z f p)
unfolding bytes
byte z f p c hp hc =
    let m : (3 * p + c) % 3 ≡ c = omega arith in
    let d : (3 * p + c) / 3 ≡ p = omega arith in
    from_get_or (3 * (z.w * z.h)) (λ k. channel (k % 3) (at z f (k / 3))) (3 * p + c) 0 (omega arith)
    ∙ ap₂ (λ (n m : ℕ). channel n (at z f m)) m d

pub pixels_bytes : (z : Shape) (f : Plane Rgb) (y x : ℕ) → y < z.h → x < z.w → pixels z (bytes z f) y x ≡ f y x
unfolding pixels
pixels_bytes z f y x hy hx =
    let p : ℕ = y * z.w + x in
    let l : p < z.w * z.h = place_lt z y x hy hx in
    let e : at z f p ≡ f y x = at_place z f y x hx in
    let n : 3 * p ≡ 3 * p + 0 = omega arith in
    let red : get_or (bytes z f) (3 * p) 0 ≡ (f y x).r = ap (λ (j : ℕ). get_or (bytes z f) j 0) n ∙ byte z f p 0 l (omega arith) ∙ ap (channel 0) e in
    let green : get_or (bytes z f) (3 * p + 1) 0 ≡ (f y x).g = byte z f p 1 l (omega arith) ∙ ap (channel 1) e in
    let blue : get_or (bytes z f) (3 * p + 2) 0 ≡ (f y x).b = byte z f p 2 l (omega arith) ∙ ap (channel 2) e in
    λ i. record { r = red i; g = green i; b = blue i }

-- new values that agree where the test holds are written alike
pub patch_cong : {A : Type 0} (t : ℕ → ℕ → Bool) (new new' old : Plane A) (y x : ℕ) → (t y x ≡ true → new y x ≡ new' y x) → patch t new old y x ≡ patch t new' old y x
unfolding patch
patch_cong t new new' old y x h = go (t y x) refl
  where
    go : (c : Bool) → t y x ≡ c → cond c (new y x) (old y x) ≡ cond c (new' y x) (old y x)
    go true e = h e
    go false e = refl

pub entries_cong : (z : Shape) (f g : Plane ℕ) → ((y x : ℕ) → y < z.h → x < z.w → f y x ≡ g y x) → entries z f ≡ entries z g
unfolding entries
entries_cong z f g h =
    from_cong 0 (z.w * z.h) (at z f) (at z g) (λ p _ l. h (p / z.w) (p % z.w) (row_lt z p (omega arith)) (column_lt z p (omega arith)))

pub bytes_cong : (z : Shape) (f g : Plane Rgb) → ((y x : ℕ) → y < z.h → x < z.w → f y x ≡ g y x) → bytes z f ≡ bytes z g
unfolding bytes
bytes_cong z f g h =
    from_cong 0 (3 * (z.w * z.h)) _ _
    (λ k _ l. ap (channel (k % 3)) (h (k / 3 / z.w) (k / 3 % z.w) (row_lt z (k / 3) (omega arith)) (column_lt z (k / 3) (omega arith))))

pub length_entries : (z : Shape) (f : Plane ℕ) → length (entries z f) ≡ z.w * z.h
unfolding entries
length_entries z f = from_length 0 (z.w * z.h) (at z f)

pub length_bytes : (z : Shape) (f : Plane Rgb) → length (bytes z f) ≡ 3 * (z.w * z.h)
unfolding bytes
length_bytes z f = from_length 0 (3 * (z.w * z.h)) (λ k. channel (k % 3) (at z f (k / 3)))

-- ---- what a loop over the positions shows: a list that has each value of f is the list of them; so one that has each entry, or each byte, is the whole
-- map, or the whole frame

pub from_of : (n : ℕ) (f : ℕ → ℕ) (l : List ℕ) → length l ≡ n → ((k : ℕ) → k < n → get_or l k 0 ≡ f k) → l ≡ from 0 n f
from_of n f l e h = ext_get_or 0 l _ (e ∙ sym (from_length 0 n f)) (λ k m. let j : k < n = omega arith in h k j ∙ sym (from_get_or n f k 0 j))

pub entries_of : (z : Shape) (f : Plane ℕ) (l : List ℕ) → length l ≡ z.w * z.h → ((p : ℕ) → p < z.w * z.h → get_or l p 0 ≡ at z f p) → l ≡ entries z f
unfolding entries
entries_of z f l n h = from_of (z.w * z.h) (at z f) l n h

pub bytes_of : (z : Shape) (f : Plane Rgb) (l : List ℕ) → length l ≡ 3 * (z.w * z.h) → ((k : ℕ) → k < 3 * (z.w * z.h) → get_or l k 0 ≡ channel (k % 3) (at z f (k / 3))) → l ≡ bytes z f
unfolding bytes
bytes_of z f l n h = from_of (3 * (z.w * z.h)) (λ k. channel (k % 3) (at z f (k / 3))) l n h

-- the pixel at position p, by its bytes
pub at_pixels : (z : Shape) (l : List ℕ) (p : ℕ) → at z (pixels z l) p ≡ record { r = get_or l (3 * p) 0; g = get_or l (3 * p + 1) 0; b = get_or l (3 * p + 2) 0 }
unfolding pixels
at_pixels z l p = rw (div-add-mod' p z.w)

pub byte_of_lem : (l : List ℕ) (p c : ℕ) → c < 3 → get_or l (3 * p + c) 0 ≡ channel c (record { r = get_or l (3 * p) 0; g = get_or l (3 * p + 1) 0; b = get_or l (3 * p + 2) 0 })
byte_of_lem l p zero h = ap (λ (n : ℕ). get_or l n 0) (add-zero (3 * p))
byte_of_lem l p (suc zero) h = refl
byte_of_lem l p (suc (suc zero)) h = refl
byte_of_lem l p (suc (suc (suc c))) h = absurd (let z : 1 ≤ 0 = omega arith in omega arith)

-- a frame of the right length is what its pixels are written to
pub bytes_pixels : (z : Shape) (l : List ℕ) → length l ≡ 3 * (z.w * z.h) → l ≡ bytes z (pixels z l)
bytes_pixels z l n =
    bytes_of z (pixels z l) l n
    (λ k h.
    let e : k ≡ 3 * (k / 3) + k % 3 = omega arith in
    ap (λ (i : ℕ). get_or l i 0) e ∙ byte_of_lem l (k / 3) (k % 3) (omega arith) ∙ ap (channel (k % 3)) (sym (at_pixels z l (k / 3))))

-- ---- a mask

-- the byte at position p, and the pixel there, seen or hidden
pub at_seen : (z : Shape) (mask : List ℕ) (p : ℕ) → at z (seen_in z mask) p ≡ not (eqb (get_or mask p 0) 0)
unfolding seen_in
at_seen z mask p = rw (div-add-mod' p z.w)

pub at_masked : (z : Shape) (mask frame : List ℕ) (p : ℕ) → at z (masked z mask frame) p ≡ record { seen = not (eqb (get_or mask p 0) 0); value = pixel_at frame p }
unfolding masked
at_masked z mask frame p = cc (at_seen z mask p, at_pixels z frame p)

-- any byte but 0 is that of a seen pixel
pub seen_byte : (z : Shape) (mask : List ℕ) (y x : ℕ) → (get_or mask (y * z.w + x) 0 ≡ 0 → ⊥) → seen_in z mask y x ≡ true
unfolding seen_in
seen_byte z mask y x h = ap not (ne_eqb (get_or mask (y * z.w + x) 0) 0 h)

pub hidden_byte : (z : Shape) (mask : List ℕ) (y x : ℕ) → get_or mask (y * z.w + x) 0 ≡ 0 → seen_in z mask y x ≡ false
unfolding seen_in
hidden_byte z mask y x h = ap not (eq-eqb (get_or mask (y * z.w + x) 0) 0 h)

-- the two halves of a pixel under a mask
pub masked_seen : (z : Shape) (mask frame : List ℕ) (y x : ℕ) → (masked z mask frame y x).seen ≡ seen_in z mask y x
unfolding masked
masked_seen z mask frame y x = refl

pub masked_value : (z : Shape) (mask frame : List ℕ) (y x : ℕ) → (masked z mask frame y x).value ≡ pixels z frame y x
unfolding masked
masked_value z mask frame y x = refl

-- what is written is read again, seen where the mask says
pub masked_bytes : (z : Shape) (mask : List ℕ) (f : Plane Rgb) (y x : ℕ) → y < z.h → x < z.w → masked z mask (bytes z f) y x ≡ record { seen = seen_in z mask y x; value = f y x }
unfolding masked
masked_bytes z mask f y x hy hx = cc (pixels_bytes z f y x hy hx)

-- frames that agree at the pixels about (y, x) agree there under the same mask
pub masked_agree :
    (z : Shape) (mask : List ℕ) (q y x : ℕ) (frame other : List ℕ)
    → Agree z q y x (pixels z frame) (pixels z other)
    → Agree z q y x (masked z mask frame) (masked z mask other)
unfolding masked
masked_agree z mask q y x frame other h v u w = cc (h v u w)

-- ---- a loop that fills a list

-- one more element written: what a loop that fills a list from the front keeps
pub wrote : (g : ℕ → ℕ) (l : List ℕ) (p v : ℕ) → p < length l → ((k : ℕ) → k < p → get_or l k 0 ≡ g k) → v ≡ g p → (k : ℕ) → k < p + 1 → get_or (set l p v) k 0 ≡ g k
wrote g l p v n h e k m = go (dec_lt k p)
  where
    go : Dec (k < p) → get_or (set l p v) k 0 ≡ g k
    go (yes j) = get_or-set_other l p k v 0 (λ f. omega arith) ∙ h k j
    go (no j) = let f : k ≡ p = omega arith in rw f (get_or-set_same l p v 0 n ∙ e)
