-- What a refused call says: the test behind each number, and for each operation the numbers that it checks, in order. 0 stands for an accepted
-- call. A buffer is given by its length. Assumes nothing.
use Rattle.std.specs.Prelude.{ℕ, ◌+◌, ◌*◌, Bool, true, false, not, cond, ◌&&◌, ◌||◌, length, ltb, eqb}
use mathlib.Core.List.{List, [], ◌∷◌, foldr}
use Rattle.rules.specs.declared.Size.{Size}
use Rattle.rules.specs.declared.Settings.{Settings}
use Rattle.rules.specs.declared.Rgb.{Rgb}
use Rattle.rules.specs.declared.Rect.{Rect}
use Rattle.rules.specs.Shape.{described, room}

-- numbers with their tests, and the first number whose test holds, or 0
abbrev pub Tests : Type 0
Tests = List (ℕ × Bool)

abbrev pub first : Tests → ℕ
first l = foldr (λ c n. cond c.1 c.0 n) 0 l

-- n is outside lo..hi; n is not m
abbrev pub out : ℕ → ℕ → ℕ → Bool
out lo hi n = ltb n lo || ltb hi n

abbrev pub off : ℕ → ℕ → Bool
off n m = not (eqb n m)

-- ---- the table

-- 1: W, H or W·H is outside its range
unfoldable pub bad_size : Size → Bool
bad_size z = out 1 1024 z.w || out 1 1024 z.h || ltb 262144 (z.w * z.h)

-- 2: a setting is outside its range
unfoldable pub bad_settings : Settings → Bool
bad_settings k =
    ltb 30 k.s || ltb 60 k.r || out 1 10000 k.omega || out 1 585225 k.e || out 1 10000 k.t0 || out 1 1000 k.share

-- 3: the input frame isn't 3·W·H bytes; 4 says the same of a cleared or hazed frame
unfoldable pub bad_frame : Size → ℕ → Bool
bad_frame z n = off n (3 * (z.w * z.h))

-- 4: a map isn't W·H entries, a mask isn't W·H bytes, or the work area has fewer than 8·(W+1)·(H+1) entries
unfoldable pub bad_map : Size → ℕ → Bool
bad_map z n = off n (z.w * z.h)

unfoldable pub bad_work : Size → ℕ → Bool
bad_work z n = ltb n (room (described z))

unfoldable pub bad_mask : Size → ℕ → Bool
bad_mask z n = off n (z.w * z.h)

-- 5: a light channel is 0
unfoldable pub bad_light : Rgb → Bool
bad_light a = eqb a.r 0 || eqb a.g 0 || eqb a.b 0

-- 6: the rectangle or band is empty or reaches outside the frame
unfoldable pub bad_rect : Size → Rect → Bool
bad_rect z c = eqb c.w 0 || eqb c.h 0 || ltb z.w (c.x + c.w) || ltb z.h (c.y + c.h)

unfoldable pub bad_band : Size → ℕ → ℕ → Bool
bad_band z start end = not (ltb start end) || ltb z.h end

-- 7: the new pixels aren't 3·w·h bytes for a w by h rectangle
unfoldable pub bad_new : Rect → ℕ → Bool
bad_new c n = off n (3 * (c.w * c.h))

-- 8: a map entry given as input is above 10,000, anywhere in the map
unfoldable pub bad_entries : List ℕ → Bool
bad_entries map = foldr (λ t b. ltb 10000 t || b) false map

-- 14: no pixel is seen
unfoldable pub bad_seen : List ℕ → Bool
bad_seen mask = foldr (λ i b. eqb i 0 && b) true mask

-- ---- for each operation its tests in order. `none` says whether no pixel is seen

-- Light checks 1, 2, 3, 4, 14
abbrev pub tests_light : Size → Settings → ℕ → Bool → ℕ → ℕ → Tests
tests_light z k mask none frame work =
    (1, bad_size z) ∷ (2, bad_settings k) ∷ (3, bad_frame z frame) ∷ (4, bad_mask z mask || bad_work z work) ∷ (14, none) ∷ []

-- Clear 1 to 5
abbrev pub tests_clear : Size → Settings → Rgb → ℕ → ℕ → ℕ → ℕ → ℕ → Tests
tests_clear z k a mask frame map picture work =
    (1, bad_size z)
    ∷ (2, bad_settings k)
    ∷ (3, bad_frame z frame)
    ∷ (4, bad_mask z mask || bad_frame z picture || bad_map z map || bad_work z work)
    ∷ (5, bad_light a)
    ∷ []

-- Replace 1 to 7
abbrev pub tests_replace : Size → Settings → Rgb → Rect → ℕ → ℕ → ℕ → ℕ → ℕ → ℕ → Tests
tests_replace z k a c new mask frame map picture work =
    (1, bad_size z)
    ∷ (2, bad_settings k)
    ∷ (3, bad_frame z frame)
    ∷ (4, bad_mask z mask || bad_frame z picture || bad_map z map || bad_work z work)
    ∷ (5, bad_light a)
    ∷ (6, bad_rect z c)
    ∷ (7, bad_new c new)
    ∷ []

-- Haze 1, 3, 4, 5, 8
abbrev pub tests_haze : Size → Rgb → ℕ → List ℕ → ℕ → Tests
tests_haze z a clean map hazed =
    (1, bad_size z) ∷ (3, bad_frame z clean) ∷ (4, bad_frame z hazed || bad_map z (length map)) ∷ (5, bad_light a) ∷ (8, bad_entries map) ∷ []

-- Band figure 1, 4, 6, 8
abbrev pub tests_band : Size → List ℕ → ℕ → ℕ → Tests
tests_band z map start end = (1, bad_size z) ∷ (4, bad_map z (length map)) ∷ (6, bad_band z start end) ∷ (8, bad_entries map) ∷ []

-- ---- and the number that it is refused with

unfoldable pub refuse_light : Size → Settings → ℕ → Bool → ℕ → ℕ → ℕ
refuse_light z k mask none frame work = first (tests_light z k mask none frame work)

unfoldable pub refuse_clear : Size → Settings → Rgb → ℕ → ℕ → ℕ → ℕ → ℕ → ℕ
refuse_clear z k a mask frame map picture work = first (tests_clear z k a mask frame map picture work)

unfoldable pub refuse_replace : Size → Settings → Rgb → Rect → ℕ → ℕ → ℕ → ℕ → ℕ → ℕ → ℕ
refuse_replace z k a c new mask frame map picture work = first (tests_replace z k a c new mask frame map picture work)

unfoldable pub refuse_haze : Size → Rgb → ℕ → List ℕ → ℕ → ℕ
refuse_haze z a clean map hazed = first (tests_haze z a clean map hazed)

unfoldable pub refuse_band : Size → List ℕ → ℕ → ℕ → ℕ
refuse_band z map start end = first (tests_band z map start end)
