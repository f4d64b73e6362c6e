-- Planes and windows. A plane has a value at each row and column. A window is the list of the seen values that it covers, in row order,
-- so its size n is the list's length, and a least value or a sum over it is a fold of that list. Assumes nothing.
use Rattle.std.specs.Prelude.{ℕ, zero, suc, ◌+◌, ◌-◌, min, Bool, true, cond, ℤ, pos, ◌+ℤ◌}
use mathlib.Core.List.{List, [], ◌∷◌, ◌++◌, foldr}
use Rattle.rules.specs.Shape.{Shape}

-- the value at row y and column x
abbrev pub Plane : Type 0 → Type 0
Plane A = ℕ → ℕ → A

-- f a, f (a + 1) and so on: n values
abbrev pub from : {A : Type 0} → ℕ → ℕ → (ℕ → A) → List A
from a zero f = []
from a (suc n) f = f a ∷ from (suc a) n f

abbrev pub flat : {A : Type 0} → List (List A) → List A
flat [] = []
flat (l ∷ ls) = l ++ flat ls

-- the numbers at most q from p and below the end: the first of them, and how many there are
abbrev pub low : ℕ → ℕ → ℕ
low q p = p - q

abbrev pub many : ℕ → ℕ → ℕ → ℕ
many end q p = min end (p + q + 1) - low q p

-- f at each of them
abbrev pub around : {A : Type 0} → ℕ → ℕ → ℕ → (ℕ → A) → List A
around end q p f = from (low q p) (many end q p) f

-- the values at most q rows and q columns from (y, x), cut off at the edges of w columns and h rows
unfoldable pub square : {A : Type 0} → ℕ → ℕ → ℕ → Plane A → Plane (List A)
square w h q f y x = flat (around h q y (λ v. around w q x (λ u. f v u)))

-- ---- what a mask hides

-- a value that is seen or hidden
pub record Shown (A : Type 0) : Type 0 where
  pub seen : Bool
  pub value : A

-- another value, seen where this one is
abbrev pub alike : {A B : Type 0} → (A → B) → Shown A → Shown B
alike g i = record { seen = i.seen; value = g i.value }

-- a plane of which all is seen
abbrev pub plain : {A : Type 0} → Plane A → Plane (Shown A)
plain f y x = record { seen = true; value = f y x }

-- the values that are seen, in order
abbrev pub seen_of : {A : Type 0} → List (Shown A) → List A
seen_of [] = []
seen_of (i ∷ l) = cond i.seen (i.value ∷ seen_of l) (seen_of l)

-- the window of radius q about a pixel of the frame: hidden values are not in it
unfoldable pub window : {A : Type 0} → Shape → ℕ → Plane (Shown A) → Plane (List A)
window z q f y x = seen_of (square z.w z.h q f y x)

-- folds over a window: the least value, at most top; the sums in ℕ and in ℤ of what g reads off each value
abbrev pub least : ℕ → List ℕ → ℕ
least top l = foldr min top l

abbrev pub total : {A : Type 0} → (A → ℕ) → List A → ℕ
total g l = foldr (λ i n. g i + n) 0 l

abbrev pub total_z : {A : Type 0} → (A → ℤ) → List A → ℤ
total_z g l = foldr (λ i n. g i +ℤ n) (pos 0) l
