-- "The lowest number that applies is given": where the numbers of a list ascend, the first whose test holds is the least of those whose tests hold
-- (`lowest`). Then, for each call, which numbers it checks, and that they ascend. Assumes nothing.
use mathlib.Core.Path.{◌≡◌, refl, sym, ◌∙◌}
use mathlib.Core.Bool.{Bool, true, false, cond, true≢false}
use mathlib.Core.List.{List, [], ◌∷◌, map}
use Prim.Native.Nat.{ℕ, ◌≤◌, ◌<◌}
use native.Mathlib.Omega.{arith}
use lib.Dec.{ltb}
use lib.ListN.{length}
use borrow.Author.Tests.{ltb-true}
use Rattle.rules.specs.declared.Size.{Size}
use Rattle.rules.specs.declared.Settings.{Settings}
use Rattle.rules.specs.declared.Rgb.{Rgb}
use Rattle.rules.specs.declared.Rect.{Rect}
use Rattle.rules.specs.Setup.{Setup}
use Rattle.rules.specs.Refusals.{Tests, first, tests_light, tests_clear, tests_replace, tests_haze, tests_band, refuse_light, refuse_clear, refuse_replace, refuse_haze, refuse_band}
use Rattle.rules.specs.Promise.{Lent, no_clear, no_replace}

-- n stands in the list with a test that holds
pub data Applies (n : ℕ) : Tests → Type 0 where
  here : {c : ℕ × Bool} {l : Tests} → c.0 ≡ n → c.1 ≡ true → Applies n (c ∷ l)
  later : {c : ℕ × Bool} {l : Tests} → Applies n l → Applies n (c ∷ l)

-- the first number is above m, and each other above the one before it
abbrev pub climbing : ℕ → Tests → Bool
climbing m [] = true
climbing m (c ∷ l) = cond (ltb m c.0) (climbing c.0 l) false

abbrev pub ascending : Tests → Bool
ascending l = climbing 0 l

-- the numbers of a list, in its order
abbrev pub numbers : Tests → List ℕ
numbers l = map (λ (c : ℕ × Bool). c.0) l

-- the list checks the numbers ns, and n is the least of them that applies; where none does, n is 0, and only there
pub record Lowest (ns : List ℕ) (n : ℕ) (l : Tests) : Type 0 where
  pub checks : numbers l ≡ ns
  pub least : (m : ℕ) → Applies m l → n ≤ m
  pub some : (m : ℕ) → Applies m l → 0 < n
  pub itself : 0 < n → Applies n l

step : (m n : ℕ) (b : Bool) → cond (ltb m n) b false ≡ true → (m < n) × (b ≡ true)
step m n b e = go (ltb m n) refl e
  where
    go : (t : Bool) → ltb m n ≡ t → cond t b false ≡ true → (m < n) × (b ≡ true)
    go true h k = (ltb-true m n h, k)
    go false h k = absurd (true≢false (sym k))

between : (m : ℕ) (l : Tests) → climbing m l ≡ true → (n : ℕ) → Applies n l → (m < first l) × (first l ≤ n)
between m [] p n a = elim a [ ]
between m (c ∷ l) p n a = go c.1 refl a (λ b. between c.0 l (step m c.0 (climbing c.0 l) p).1 n b)
  where
    over : m < c.0
    over = (step m c.0 (climbing c.0 l) p).0

    go : (t : Bool) → c.1 ≡ t → Applies n (c ∷ l) → (Applies n l → (c.0 < first l) × (first l ≤ n)) → (m < cond t c.0 (first l)) × (cond t c.0 (first l) ≤ n)
    go true h (here e t) ih = (over, omega arith)
    go true h (later b) ih = let r = ih b in (over, omega arith)
    go false h (here e t) ih = absurd (true≢false (sym t ∙ h))
    go false h (later b) ih = let r = ih b in (omega (arith, over), r.1)

stands : (l : Tests) → 0 < first l → Applies (first l) l
stands [] h = absurd (omega arith)
stands (c ∷ l) h = go c.1 refl h (stands l)
  where
    go : (t : Bool) → c.1 ≡ t → 0 < cond t c.0 (first l) → (0 < first l → Applies (first l) l) → Applies (cond t c.0 (first l)) (c ∷ l)
    go true e k ih = here refl e
    go false e k ih = later (ih k)

pub lowest : (l : Tests) → ascending l ≡ true → Lowest (numbers l) (first l) l
lowest l p = record { checks = refl; least = λ m a. (between 0 l p m a).1; some = λ m a. (between 0 l p m a).0; itself = stands l }

-- ---- each call

pub light_lowest :
    (z : Size) (k : Settings) (mask : ℕ) (none : Bool) (frame work : ℕ)
    → Lowest (1 ∷ 2 ∷ 3 ∷ 4 ∷ 14 ∷ []) (refuse_light z k mask none frame work) (tests_light z k mask none frame work)
unfolding refuse_light
light_lowest z k mask none frame work = lowest _ refl

pub clear_lowest :
    (p : Setup) (l : Lent)
    → Lowest
    (1 ∷ 2 ∷ 3 ∷ 4 ∷ 5 ∷ [])
    (no_clear p l)
    (tests_clear p.size p.settings p.light (length p.mask) (length l.frame) (length l.map) (length l.picture) (length l.work))
unfolding refuse_clear
clear_lowest p l = lowest _ refl

pub replace_lowest :
    (p : Setup) (c : Rect) (new : List ℕ) (l : Lent)
    → Lowest
    (1 ∷ 2 ∷ 3 ∷ 4 ∷ 5 ∷ 6 ∷ 7 ∷ [])
    (no_replace p c new l)
    (tests_replace p.size p.settings p.light c (length new) (length p.mask) (length l.frame) (length l.map) (length l.picture) (length l.work))
unfolding refuse_replace
replace_lowest p c new l = lowest _ refl

pub haze_lowest : (z : Size) (a : Rgb) (clean : ℕ) (map : List ℕ) (hazed : ℕ) → Lowest (1 ∷ 3 ∷ 4 ∷ 5 ∷ 8 ∷ []) (refuse_haze z a clean map hazed) (tests_haze z a clean map hazed)
unfolding refuse_haze
haze_lowest z a clean map hazed = lowest _ refl

pub band_lowest : (z : Size) (map : List ℕ) (start end : ℕ) → Lowest (1 ∷ 4 ∷ 6 ∷ 8 ∷ []) (refuse_band z map start end) (tests_band z map start end)
unfolding refuse_band
band_lowest z map start end = lowest _ refl
