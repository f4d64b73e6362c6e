-- What a mask does to windows. The window of a seen pixel has a value (`window_some`), and no window has more than its square (`window_most`,
-- `window_few`, `window_cap`). Planes that are alike where they are seen have equal windows (`window_same`). The map entry is the refined value at a
-- seen pixel and 10,000 at a hidden one (`entry_seen`, `entry_hidden`). What holds of each value of a window is in Windowed. Assumes nothing.
use mathlib.Core.Path.{◌≡◌, refl, sym, ap, ap₂, ◌∙◌}
use mathlib.Core.Bool.{Bool, true, false, cond}
use mathlib.Core.List.{List, [], ◌∷◌, ◌++◌}
use Prim.Native.Nat.{ℕ, zero, suc, ◌+◌, ◌*◌, ◌≤◌, ◌<◌}
use native.Mathlib.Nat.{mul-le-mul}
use native.Mathlib.Omega.{arith}
use native.Mathlib.Decide.{dec_le}
use lib.ListN.{length}
use Rattle.rules.specs.Shape.{Shape}
use Rattle.rules.specs.declared.Settings.{Settings}
use Rattle.rules.specs.declared.Rgb.{Rgb}
use Rattle.rules.specs.Window.{Plane, Shown, seen_of, from, flat, low, many, around, square, window, total}
use Rattle.rules.specs.Transmission.{refined, map_entry}
use Rattle.rules.specs.Fold.{Σ}
use Rattle.rules.proofs.Fold.{map_square, square_fold, square_length, fold_map, window_length}

-- ---- how many values

sum_has : (a n : ℕ) (f : ℕ → ℕ) (v : ℕ) → a ≤ v → v < a + n → f v ≤ Σ ◌+◌ 0 a n f
sum_has a zero f v l h = absurd (let z : 1 ≤ 0 = omega arith in omega arith)
sum_has a (suc n) f v l h = go (dec_le v a) (sum_has (suc a) n f v)
  where
    go : Dec (v ≤ a) → (suc a ≤ v → v < suc a + n → f v ≤ Σ ◌+◌ 0 (suc a) n f) → f v ≤ f a + Σ ◌+◌ 0 (suc a) n f
    go (yes e) ih = let s : a ≡ v = omega arith in omega (arith, ap f s)
    go (no e) ih = omega (arith, ih (omega arith) (omega arith))

-- a sum over a square is at least the number at the pixel itself
square_has : {A : Type 0} (g : A → ℕ) (w h q : ℕ) (f : Plane A) (y x : ℕ) → y < h → x < w → g (f y x) ≤ total g (square w h q f y x)
square_has g w h q f y x hy hx =
    let e =
    fold_map ◌+◌ 0 g (square w h q f y x)
    ∙ ap (λ (l : List ℕ). total (λ i. i) l) (map_square g w h q f y x)
    ∙ square_fold ◌+◌ 0 (λ a b c. omega arith) (λ a b. omega arith) refl w h q (λ v u. g (f v u)) y x
    in
    let i = sum_has (low q y) (many h q y) (λ v. Σ ◌+◌ 0 (low q x) (many w q x) (λ u. g (f v u))) y (omega arith) (omega arith) in
    let j = sum_has (low q x) (many w q x) (λ u. g (f y u)) x (omega arith) (omega arith) in
    rw e (omega (arith, i, j))

pub window_some : {A : Type 0} (z : Shape) (q : ℕ) (f : Plane (Shown A)) (y x : ℕ) → y < z.h → x < z.w → (f y x).seen ≡ true → 0 < length (window z q f y x)
window_some z q f y x hy hx s =
    let i = rw s at (square_has (λ i. cond i.seen 1 0) z.w z.h q f y x hy hx) in
    rw (window_length z q f y x) (omega (arith, i))

seen_most : {A : Type 0} (l : List (Shown A)) → length (seen_of l) ≤ length l
seen_most [] = omega arith
seen_most (i ∷ l) = go i.seen (seen_most l)
  where
    go : (b : Bool) → length (seen_of l) ≤ length l → length (cond b (i.value ∷ seen_of l) (seen_of l)) ≤ suc (length l)
    go true h = omega arith
    go false h = omega arith

pub window_most : {A : Type 0} (z : Shape) (q : ℕ) (f : Plane (Shown A)) (y x : ℕ) → length (window z q f y x) ≤ length (square z.w z.h q f y x)
unfolding window
window_most z q f y x = seen_most (square z.w z.h q f y x)

pub window_few : {A : Type 0} (z : Shape) (q : ℕ) (f : Plane (Shown A)) (y x : ℕ) → length (window z q f y x) ≤ (2 * q + 1) * (2 * q + 1)
window_few z q f y x =
    let a : many z.h q y * many z.w q x ≤ (2 * q + 1) * (2 * q + 1) = mul-le-mul (omega arith) (omega arith) in
    omega (arith, window_most z q f y x, square_length z.w z.h q f y x, a)

-- for the largest radius, 60
pub window_cap : {A : Type 0} (z : Shape) (q : ℕ) (f : Plane (Shown A)) (y x : ℕ) → q ≤ 60 → length (window z q f y x) ≤ 14641
window_cap z q f y x h =
    let a : 2 * q + 1 ≤ 121 = omega arith in
    omega (arith, window_few z q f y x, mul-le-mul a a)

-- ---- planes that are alike where they are seen

-- both are seen, with equal values, or both are hidden
pub record Same {A : Type 0} (i j : Shown A) : Type 0 where
  pub seen : i.seen ≡ j.seen
  pub value : i.seen ≡ true → i.value ≡ j.value

same_more : {A : Type 0} (i j : Shown A) (l m : List (Shown A)) → Same i j → seen_of l ≡ seen_of m → seen_of (i ∷ l) ≡ seen_of (j ∷ m)
same_more i j l m h e = go i.seen refl
  where
    go : (b : Bool) → i.seen ≡ b → cond i.seen (i.value ∷ seen_of l) (seen_of l) ≡ cond j.seen (j.value ∷ seen_of m) (seen_of m)
    go true t = rw (← h.seen, t) (ap₂ ◌∷◌ (h.value t) e)
    go false t = rw (← h.seen, t) e

same_from : {A : Type 0} (a n : ℕ) (f g : ℕ → Shown A) → ((i : ℕ) → a ≤ i → i < a + n → Same (f i) (g i)) → seen_of (from a n f) ≡ seen_of (from a n g)
same_from a zero f g h = refl
same_from a (suc n) f g h = same_more (f a) (g a) (from (suc a) n f) (from (suc a) n g) (h a (omega arith) (omega arith)) (same_from (suc a) n f g (λ i l m. h i (omega arith) (omega arith)))

pub seen_append : {A : Type 0} (l m : List (Shown A)) → seen_of (l ++ m) ≡ seen_of l ++ seen_of m
seen_append [] m = refl
seen_append {A} (i ∷ l) m = go i.seen (seen_append l m)
  where
    go : (b : Bool) → seen_of (l ++ m) ≡ seen_of l ++ seen_of m → cond b (i.value ∷ seen_of (l ++ m)) (seen_of (l ++ m)) ≡ cond b (i.value ∷ seen_of l) (seen_of l) ++ seen_of m
    go true e = ap (λ (r : List A). i.value ∷ r) e
    go false e = e

same_flat : {A : Type 0} (a n : ℕ) (f g : ℕ → List (Shown A)) → ((i : ℕ) → a ≤ i → i < a + n → seen_of (f i) ≡ seen_of (g i)) → seen_of (flat (from a n f)) ≡ seen_of (flat (from a n g))
same_flat a zero f g h = refl
same_flat a (suc n) f g h =
    seen_append (f a) (flat (from (suc a) n f))
    ∙ ap₂ ◌++◌ (h a (omega arith) (omega arith)) (same_flat (suc a) n f g (λ i l m. h i (omega arith) (omega arith)))
    ∙ sym (seen_append (g a) (flat (from (suc a) n g)))

pub window_same : {A : Type 0} (z : Shape) (q : ℕ) (f g : Plane (Shown A)) (y x : ℕ) → ((v u : ℕ) → v < z.h → u < z.w → Same (f v u) (g v u))
    → window z q f y x ≡ window z q g y x
unfolding window square
window_same z q f g y x h =
    same_flat (low q y) (many z.h q y) (λ v. around z.w q x (λ u. f v u)) (λ v. around z.w q x (λ u. g v u))
    (λ v a b. same_from (low q x) (many z.w q x) (λ u. f v u) (λ u. g v u) (λ u c d. h v u (omega arith) (omega arith)))

-- ---- the map entry

module _ (z : Shape) (k : Settings) (a : Rgb) (f : Plane (Shown Rgb)) (y x : ℕ) where
  pub entry_seen : (f y x).seen ≡ true → map_entry z k a f y x ≡ refined z k a f y x
  unfolding map_entry
  entry_seen s = rw s

  pub entry_hidden : (f y x).seen ≡ false → map_entry z k a f y x ≡ 10000
  unfolding map_entry
  entry_hidden s = rw s
