-- Window facts once over the folded operation: sums of naturals, sums of integers, minima. A fold over a square is a fold over its rows of folds over
-- its columns (`square_fold`), and rows and columns change places (`swap`).
-- Asked of the operation: it is associative and commutative, and twice the start is the start (0 + 0, min top top). Assumes nothing else.
use mathlib.Core.Path.{◌≡◌, refl, ap, ap₂, ◌∙◌, sym}
use mathlib.Core.List.{List, [], ◌∷◌, ◌++◌, foldr, map}
use Prim.Native.Nat.{ℕ, zero, suc, ◌+◌, ◌*◌, min}
use native.Mathlib.Nat.{add-zero, zero-add, add-suc, suc-add}
use native.Mathlib.Omega.{arith}
use mathlib.Core.Bool.{Bool, true, false, cond}
use lib.ListN.{length, length-append}
use lib.IntN.{ℤ, pos, ◌+ℤ◌, +ℤ_assoc, +ℤ_comm}
use Rattle.rules.specs.Shape.{Shape}
use Rattle.rules.specs.Fold.{Σ}
use Rattle.rules.proofs.Local.{from_cong, from_length}
use Rattle.rules.specs.Window.{Plane, Shown, plain, seen_of, from, flat, low, many, around, square, window, total, total_z, least}

module _ {A : Type 0} (◌⊕◌ : A → A → A) (ε : A) (assoc : (a b c : A) → ◌⊕◌ (◌⊕◌ a b) c ≡ ◌⊕◌ a (◌⊕◌ b c)) (comm : (a b : A) → ◌⊕◌ a b ≡ ◌⊕◌ b a) (twice : ◌⊕◌ ε ε ≡ ε) where
  infixl 6 ◌⊕◌
  left : (a b c : A) → a ⊕ (b ⊕ c) ≡ b ⊕ (a ⊕ c)
  left a b c = sym (assoc a b c) ∙ ap (λ (x : A). x ⊕ c) (comm a b) ∙ assoc b a c

  -- the start changes no fold
  start : (l : List A) → ε ⊕ foldr ◌⊕◌ ε l ≡ foldr ◌⊕◌ ε l
  start [] = twice
  start (i ∷ l) = left ε i (foldr ◌⊕◌ ε l) ∙ ap (λ (x : A). i ⊕ x) (start l)

  -- a fold over the seen values is one over all, with the start in the place of the hidden ones
  pub fold_seen : {B : Type 0} (g : B → A) (l : List (Shown B)) → foldr (λ i n. g i ⊕ n) ε (seen_of l) ≡ foldr ◌⊕◌ ε (map (λ i. cond i.seen (g i.value) ε) l)
  fold_seen g [] = refl
  fold_seen {B} g (i ∷ l) = go i.seen (fold_seen g l)
    where
      go : (b : Bool) → foldr (λ j n. g j ⊕ n) ε (seen_of l) ≡ foldr ◌⊕◌ ε (map (λ j. cond j.seen (g j.value) ε) l)
          → foldr (λ j n. g j ⊕ n) ε (cond b (i.value ∷ seen_of l) (seen_of l)) ≡ cond b (g i.value) ε ⊕ foldr ◌⊕◌ ε (map (λ j. cond j.seen (g j.value) ε) l)
      go true e = ap (λ (x : A). g i.value ⊕ x) e
      go false e = e ∙ sym (start (map (λ j. cond j.seen (g j.value) ε) l))

  pub fold_append : (l m : List A) → foldr ◌⊕◌ ε (l ++ m) ≡ foldr ◌⊕◌ ε l ⊕ foldr ◌⊕◌ ε m
  fold_append [] m = sym (start m)
  fold_append (i ∷ l) m = ap (λ (x : A). i ⊕ x) (fold_append l m) ∙ sym (assoc i (foldr ◌⊕◌ ε l) (foldr ◌⊕◌ ε m))

  pub fold_flat : (a n : ℕ) (f : ℕ → List A) → foldr ◌⊕◌ ε (flat (from a n f)) ≡ Σ ◌⊕◌ ε a n (λ i. foldr ◌⊕◌ ε (f i))
  fold_flat a zero f = refl
  fold_flat a (suc n) f = fold_append (f a) (flat (from (suc a) n f)) ∙ ap (λ (x : A). foldr ◌⊕◌ ε (f a) ⊕ x) (fold_flat (suc a) n f)

  pub fold_from : (a n : ℕ) (f : ℕ → A) → foldr ◌⊕◌ ε (from a n f) ≡ Σ ◌⊕◌ ε a n f
  fold_from a zero f = refl
  fold_from a (suc n) f = ap (λ (x : A). f a ⊕ x) (fold_from (suc a) n f)

  pub Σ_cong : (a n : ℕ) (f g : ℕ → A) → ((i : ℕ) → f i ≡ g i) → Σ ◌⊕◌ ε a n f ≡ Σ ◌⊕◌ ε a n g
  Σ_cong a zero f g h = refl
  Σ_cong a (suc n) f g h = ap₂ ◌⊕◌ (h a) (Σ_cong (suc a) n f g h)

  four : (a b c d : A) → (a ⊕ b) ⊕ (c ⊕ d) ≡ (a ⊕ c) ⊕ (b ⊕ d)
  four a b c d = simp (assoc, left)

  pub Σ_add : (a n : ℕ) (f g : ℕ → A) → Σ ◌⊕◌ ε a n (λ i. f i ⊕ g i) ≡ Σ ◌⊕◌ ε a n f ⊕ Σ ◌⊕◌ ε a n g
  Σ_add a zero f g = sym twice
  Σ_add a (suc n) f g = ap (λ (x : A). (f a ⊕ g a) ⊕ x) (Σ_add (suc a) n f g) ∙ four (f a) (g a) (Σ ◌⊕◌ ε (suc a) n f) (Σ ◌⊕◌ ε (suc a) n g)

  Σ_start : (a n : ℕ) (f : ℕ → A) → ε ⊕ Σ ◌⊕◌ ε a n f ≡ Σ ◌⊕◌ ε a n f
  Σ_start a zero f = twice
  Σ_start a (suc n) f = left ε (f a) (Σ ◌⊕◌ ε (suc a) n f) ∙ ap (λ (x : A). f a ⊕ x) (Σ_start (suc a) n f)

  pub Σ_split : (a n m : ℕ) (f : ℕ → A) → Σ ◌⊕◌ ε a (n + m) f ≡ Σ ◌⊕◌ ε a n f ⊕ Σ ◌⊕◌ ε (a + n) m f
  Σ_split a zero m f = rw (zero-add, add-zero) (sym (Σ_start a m f))
  Σ_split a (suc n) m f =
      rw (suc-add, add-suc, ← suc-add a n)
      (ap (λ (x : A). f a ⊕ x) (Σ_split (suc a) n m f) ∙ sym (assoc (f a) (Σ ◌⊕◌ ε (suc a) n f) (Σ ◌⊕◌ ε (suc a + n) m f)))

  -- rows first or columns first
  Σ_empty : (a n : ℕ) → Σ ◌⊕◌ ε a n (λ i. ε) ≡ ε
  Σ_empty a zero = refl
  Σ_empty a (suc n) = ap (λ (x : A). ε ⊕ x) (Σ_empty (suc a) n) ∙ twice

  pub swap : (f : Plane A) (y n x m : ℕ) → Σ ◌⊕◌ ε y n (λ v. Σ ◌⊕◌ ε x m (λ u. f v u)) ≡ Σ ◌⊕◌ ε x m (λ u. Σ ◌⊕◌ ε y n (λ v. f v u))
  swap f y zero x m = sym (Σ_empty x m)
  swap f y (suc n) x m = ap (λ (s : A). Σ ◌⊕◌ ε x m (λ u. f y u) ⊕ s) (swap f (suc y) n x m) ∙ sym (Σ_add x m (λ u. f y u) (λ u. Σ ◌⊕◌ ε (suc y) n (λ v. f v u)))

  -- a square, row by row
  pub square_fold : (w h q : ℕ) (f : Plane A) (y x : ℕ)
      → foldr ◌⊕◌ ε (square w h q f y x) ≡ Σ ◌⊕◌ ε (low q y) (many h q y) (λ v. Σ ◌⊕◌ ε (low q x) (many w q x) (λ u. f v u))
  unfolding square
  square_fold w h q f y x =
      fold_flat (low q y) (many h q y) (λ v. around w q x (λ u. f v u))
      ∙ Σ_cong (low q y) (many h q y) _ _ (λ v. fold_from (low q x) (many w q x) (λ u. f v u))

-- a fold of what is read off each value of a window is a fold over the window of the plane so read
map_append : {A B : Type 0} (g : A → B) (l m : List A) → map g (l ++ m) ≡ map g l ++ map g m
map_append g [] m = refl
map_append {A} {B} g (i ∷ l) m = ap (λ (r : List B). g i ∷ r) (map_append g l m)

map_from : {A B : Type 0} (g : A → B) (a n : ℕ) (f : ℕ → A) → map g (from a n f) ≡ from a n (λ i. g (f i))
map_from g a zero f = refl
map_from {A} {B} g a (suc n) f = ap (λ (r : List B). g (f a) ∷ r) (map_from g (suc a) n f)

map_flat : {A B : Type 0} (g : A → B) (a n : ℕ) (f : ℕ → List A) → map g (flat (from a n f)) ≡ flat (from a n (λ i. map g (f i)))
map_flat g a zero f = refl
map_flat {A} {B} g a (suc n) f = map_append g (f a) (flat (from (suc a) n f)) ∙ ap (λ (r : List B). map g (f a) ++ r) (map_flat g (suc a) n f)

pub map_square : {A B : Type 0} (g : A → B) (w h q : ℕ) (f : Plane A) (y x : ℕ) → map g (square w h q f y x) ≡ square w h q (λ v u. g (f v u)) y x
unfolding square
map_square g w h q f y x =
    map_flat g (low q y) (many h q y) (λ v. around w q x (λ u. f v u))
    ∙ ap flat (from_cong (low q y) (many h q y) _ _ (λ v _ _. map_from g (low q x) (many w q x) (λ u. f v u)))

pub fold_map : {A B C : Type 0} (op : B → C → C) (e : C) (g : A → B) (l : List A) → foldr (λ i n. op (g i) n) e l ≡ foldr op e (map g l)
fold_map op e g [] = refl
fold_map op e g (i ∷ l) = ap (op (g i)) (fold_map op e g l)

-- how many values a square has
flat_length : {A : Type 0} (a n m : ℕ) (f : ℕ → List A) → ((i : ℕ) → length (f i) ≡ m) → length (flat (from a n f)) ≡ n * m
flat_length a zero m f h = omega arith
flat_length a (suc n) m f h = length-append (f a) (flat (from (suc a) n f)) ∙ omega (arith, h a, flat_length (suc a) n m f h)

pub square_length : {A : Type 0} (w h q : ℕ) (f : Plane A) (y x : ℕ)
    → length (square w h q f y x) ≡ (many h q y) * (many w q x)
unfolding square
square_length w h q f y x =
    flat_length (low q y) (many h q y) (many w q x) (λ v. around w q x (λ u. f v u)) (λ v. from_length (low q x) _ (λ u. f v u))

-- ---- windows

abbrev bare : {A : Type 0} → A → Shown A
bare i = record { seen = true; value = i }

-- where all is seen, a window is the square of the frame's shape
seen_all : {A : Type 0} (l : List A) → seen_of (map bare l) ≡ l
seen_all [] = refl
seen_all {A} (i ∷ l) = ap (λ (r : List A). i ∷ r) (seen_all l)

pub window_square : {A : Type 0} (z : Shape) (q : ℕ) (f : Plane A) (y x : ℕ) → window z q (plain f) y x ≡ square z.w z.h q f y x
unfolding window
window_square {A} z q f y x = ap (λ (l : List (Shown A)). seen_of l) (sym (map_square bare z.w z.h q f y x)) ∙ seen_all (square z.w z.h q f y x)

-- what the leaves work on: the least value is that of the plane that has the top value at hidden pixels, a sum that of the plane that has 0 there,
-- and the number of values is a sum
pub window_least : (top : ℕ) (z : Shape) (q : ℕ) (f : Plane (Shown ℕ)) (y x : ℕ)
    → least top (window z q f y x) ≡ least top (square z.w z.h q (λ v u. cond (f v u).seen (f v u).value top) y x)
unfolding window
window_least top z q f y x =
    fold_seen min top (λ a b c. omega arith) (λ a b. omega arith) (omega arith) (λ i. i) (square z.w z.h q f y x)
    ∙ ap (least top) (map_square (λ i. cond i.seen i.value top) z.w z.h q f y x)

pub window_total : {A : Type 0} (g : A → ℤ) (z : Shape) (q : ℕ) (f : Plane (Shown A)) (y x : ℕ)
    → total_z g (window z q f y x) ≡ total_z (λ i. cond i.seen (g i.value) (pos 0)) (square z.w z.h q f y x)
unfolding window
window_total g z q f y x =
    fold_seen ◌+ℤ◌ (pos 0) +ℤ_assoc +ℤ_comm refl g (square z.w z.h q f y x)
    ∙ sym (fold_map ◌+ℤ◌ (pos 0) (λ i. cond i.seen (g i.value) (pos 0)) (square z.w z.h q f y x))

length_total : {A : Type 0} (l : List A) → length l ≡ total (λ i. 1) l
length_total [] = refl
length_total (i ∷ l) = omega (arith, length_total l)

pub window_length : {A : Type 0} (z : Shape) (q : ℕ) (f : Plane (Shown A)) (y x : ℕ) → length (window z q f y x) ≡ total (λ i. cond i.seen 1 0) (square z.w z.h q f y x)
unfolding window
window_length z q f y x =
    length_total (window z q f y x)
    ∙ fold_seen ◌+◌ 0 (λ a b c. omega arith) (λ a b. omega arith) refl (λ i. 1) (square z.w z.h q f y x)
    ∙ sym (fold_map ◌+◌ 0 (λ i. cond i.seen 1 0) (square z.w z.h q f y x))

-- the uses: a square's least value, and its sum, row by row
pub least_square : (top w h q : ℕ) (f : Plane ℕ) (y x : ℕ)
    → least top (square w h q f y x) ≡ Σ min top (low q y) (many h q y) (λ v. Σ min top (low q x) (many w q x) (λ u. f v u))
least_square top = square_fold min top (λ a b c. omega arith) (λ a b. omega arith) (omega arith)

pub total_square : {A : Type 0} (g : A → ℤ) (w h q : ℕ) (f : Plane A) (y x : ℕ)
    → total_z g (square w h q f y x) ≡ Σ ◌+ℤ◌ (pos 0) (low q y) (many h q y) (λ v. Σ ◌+ℤ◌ (pos 0) (low q x) (many w q x) (λ u. g (f v u)))
total_square g w h q f y x =
    fold_map ◌+ℤ◌ (pos 0) g (square w h q f y x)
    ∙ ap (foldr ◌+ℤ◌ (pos 0)) (map_square g w h q f y x)
    ∙ square_fold ◌+ℤ◌ (pos 0) +ℤ_assoc +ℤ_comm refl w h q (λ v u. g (f v u)) y x

pub total_pos : {A : Type 0} (g : A → ℕ) (l : List A) → total_z (λ i. pos (g i)) l ≡ pos (total g l)
total_pos g [] = refl
total_pos g (i ∷ l) = ap (λ (n : ℤ). pos (g i) +ℤ n) (total_pos g l)
