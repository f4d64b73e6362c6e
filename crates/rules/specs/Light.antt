-- From frame to light, step by step. z is the frame's shape, k the settings, f the frame as a plane of pixels, seen or hidden. Assumes nothing.
use Rattle.std.specs.Prelude.{ℕ, ◌+◌, ◌*◌, ◌/◌, ◌%◌, min, max, List, [], ◌∷◌, Bool, cond, ◌&&◌, ◌||◌, ltb, eqb, length}
use Rattle.rules.specs.Shape.{Shape}
use Rattle.rules.specs.declared.Settings.{Settings}
use Rattle.rules.specs.declared.Rgb.{Rgb}
use Rattle.rules.specs.Window.{Plane, Shown, alike, from, window, least, total}

-- ---- 1. dark value: the least byte of all channels in the window of radius s

abbrev pub darkest : Rgb → ℕ
darkest i = min i.r (min i.g i.b)

unfoldable pub dark : Shape → ℕ → Plane (Shown Rgb) → Plane ℕ
dark z s f y x = least 255 (window z s (λ v u. alike darkest (f v u)) y x)

-- ---- positions in row order

abbrev pub at : {A : Type 0} → Shape → Plane A → ℕ → A
at z f p = f (p / z.w) (p % z.w)

abbrev pub keep : {A : Type 0} → (A → Bool) → List A → List A
keep t [] = []
keep t (p ∷ l) = cond (t p) (p ∷ keep t l) (keep t l)

-- those of the seen pixels
abbrev pub places : {A : Type 0} → Shape → Plane (Shown A) → List ℕ
places z f = keep (λ p. (at z f p).seen) (from 0 (z.w * z.h) (λ p. p))

-- ---- 2. candidates: m of them, by greater dark value, then by lower position

-- of n seen pixels
abbrev pub m : ℕ → Settings → ℕ
m n k = max 1 (n * k.share / 1000)

-- o goes before p; d is the dark value by position
abbrev pub before : (ℕ → ℕ) → ℕ → ℕ → Bool
before d o p = ltb (d p) (d o) || (eqb (d p) (d o) && ltb o p)

abbrev pub count : {A : Type 0} → (A → Bool) → List A → ℕ
count t l = total (λ o. cond (t o) 1 0) l

-- a pixel's rank is the number of those of l that go before it
unfoldable pub rank : List ℕ → (ℕ → ℕ) → ℕ → ℕ
rank l d p = count (λ o. before d o p) l

unfoldable pub candidates : Shape → Settings → Plane (Shown Rgb) → List ℕ
candidates z k f = let l = places z f in keep (λ p. ltb (rank l (at z (dark z k.s f)) p) (m (length l) k)) l

-- ---- 3. the candidate with the greatest R+G+B, the first on a tie; a channel of 0 becomes 1

abbrev pub guide : Rgb → ℕ
guide i = i.r + i.g + i.b

abbrev pub best : (ℕ → ℕ) → ℕ → List ℕ → ℕ
best g p [] = p
best g p (o ∷ l) = best g (cond (ltb (g p) (g o)) o p) l

abbrev pub brightest : (ℕ → ℕ) → List ℕ → ℕ
brightest g [] = 0
brightest g (p ∷ l) = best g p l

abbrev pub lifted : Rgb → Rgb
lifted i = record { r = max 1 i.r; g = max 1 i.g; b = max 1 i.b }

unfoldable pub light : Shape → Settings → Plane (Shown Rgb) → Rgb
light z k f = lifted (at z f (brightest (λ p. guide (at z f p).value) (candidates z k f))).value
