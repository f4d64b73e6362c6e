-- What holds of a window as a list: something of each of its values, where it holds of each seen value of the square (`all_window`), and that a rule
-- for one value may be applied before or after (`map_window`). How many values it has is in Seen. Assumes nothing.
use mathlib.Core.Path.{◌≡◌, refl, ap, ◌∙◌}
use mathlib.Core.Bool.{Bool, true, false, cond}
use mathlib.Core.List.{List, [], ◌∷◌, ◌++◌, map}
use Prim.Native.Nat.{ℕ, zero, suc, ◌+◌, ◌≤◌, ◌<◌}
use native.Mathlib.Omega.{arith}
use Rattle.rules.specs.Shape.{Shape}
use Rattle.rules.specs.Window.{Plane, Shown, alike, seen_of, from, flat, low, many, around, square, window}
use Rattle.rules.proofs.Local.{Within}
use Rattle.rules.proofs.Fold.{map_square}

-- ---- something of each value of a list

pub data All {A : Type 0} (P : A → Type 0) : List A → Type 0 where
  none : All P []
  more : {i : A} {l : List A} → P i → All P l → All P (i ∷ l)

all_append : {A : Type 0} {P : A → Type 0} {l m : List A} → All P l → All P m → All P (l ++ m)
all_append none k = k
all_append (more i h) k = more i (all_append h k)

all_from : {A : Type 0} (P : A → Type 0) (a n : ℕ) (f : ℕ → A) → ((i : ℕ) → a ≤ i → i < a + n → P (f i)) → All P (from a n f)
all_from P a zero f h = none
all_from P a (suc n) f h = more (h a (omega arith) (omega arith)) (all_from P (suc a) n f (λ i k l. h i (omega arith) (omega arith)))

all_flat : {A : Type 0} (P : A → Type 0) (a n : ℕ) (f : ℕ → List A) → ((i : ℕ) → a ≤ i → i < a + n → All P (f i)) → All P (flat (from a n f))
all_flat P a zero f h = none
all_flat P a (suc n) f h = all_append (h a (omega arith) (omega arith)) (all_flat P (suc a) n f (λ i k l. h i (omega arith) (omega arith)))

-- what is asked of a value only where it is seen
abbrev Asked : {A : Type 0} → (A → Type 0) → Shown A → Type 0
Asked P i = i.seen ≡ true → P i.value

all_seen : {A : Type 0} (P : A → Type 0) (l : List (Shown A)) → All (Asked P) l → All P (seen_of l)
all_seen P [] none = none
all_seen {A} P (i ∷ l) (more h k) = go i.seen refl (all_seen P l k)
  where
    go : (b : Bool) → i.seen ≡ b → All P (seen_of l) → All P (cond b (i.value ∷ seen_of l) (seen_of l))
    go true e a = more (h e) a
    go false e a = a

pub all_window : {A : Type 0} (P : A → Type 0) (z : Shape) (q : ℕ) (f : Plane (Shown A)) (y x : ℕ)
    → ((v u : ℕ) → Within z q y x v u → (f v u).seen ≡ true → P (f v u).value)
    → All P (window z q f y x)
unfolding window square
all_window P z q f y x h =
    all_seen P _
    (all_flat (Asked P) (low q y) (many z.h q y) (λ v. around z.w q x (λ u. f v u))
    (λ v a b.
    all_from (Asked P) (low q x) (many z.w q x) (λ u. f v u)
    (λ u c d. h v u (record { row = omega arith; column = omega arith; above = omega arith; below = omega arith; left = omega arith; right = omega arith }))))

-- ---- a rule for one value, before or after

map_seen : {A B : Type 0} (g : A → B) (l : List (Shown A)) → map g (seen_of l) ≡ seen_of (map (alike g) l)
map_seen g [] = refl
map_seen {A} {B} g (i ∷ l) = go i.seen (map_seen g l)
  where
    go : (b : Bool) → map g (seen_of l) ≡ seen_of (map (alike g) l)
        → map g (cond b (i.value ∷ seen_of l) (seen_of l)) ≡ cond b (g i.value ∷ seen_of (map (alike g) l)) (seen_of (map (alike g) l))
    go true e = ap (λ (r : List B). g i.value ∷ r) e
    go false e = e

pub map_window : {A B : Type 0} (g : A → B) (z : Shape) (q : ℕ) (f : Plane (Shown A)) (y x : ℕ) → map g (window z q f y x) ≡ window z q (λ v u. alike g (f v u)) y x
unfolding window
map_window {A} {B} g z q f y x =
    map_seen g (square z.w z.h q f y x) ∙ ap (λ (l : List (Shown B)). seen_of l) (map_square (alike g) z.w z.h q f y x)
