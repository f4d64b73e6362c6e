-- The parts of a list between separators: the lines of a text, the fields of a line. Assumes nothing.
use Rattle.std.specs.Prelude.{◌≡◌, Bool, true, false, ◌&&◌, List, [], ◌∷◌, ℕ, zero, suc, ◌+◌, ◌≤◌, ◌<◌, eqb, length, get_or}

abbrev pub cons_head : ℕ → List (List ℕ) → List (List ℕ)
cons_head x [] = (x ∷ []) ∷ []
cons_head x (f ∷ fs) = (x ∷ f) ∷ fs

abbrev pub joined : Bool → ℕ → List (List ℕ) → List (List ℕ)
joined true x fs = [] ∷ fs
joined false x fs = cons_head x fs

-- the parts between bytes sep, at least one
abbrev pub split : ℕ → List ℕ → List (List ℕ)
split sep [] = [] ∷ []
split sep (x ∷ xs) = joined (eqb x sep) x (split sep xs)

-- the n-th part, and the empty list where there is none
unfoldable pub field_of : ℕ → List ℕ → ℕ → List ℕ
field_of sep s n = get_or (split sep s) n []

-- where part n begins, the first at `at` and one separator after each; 0 where there is none
abbrev pub begins : ℕ → List (List ℕ) → ℕ → ℕ
begins at [] n = 0
begins at (f ∷ fs) zero = at
begins at (f ∷ fs) (suc n) = begins (at + length f + 1) fs n

-- where the n-th part begins
unfoldable pub field_at : ℕ → List ℕ → ℕ → ℕ
field_at sep s n = begins 0 (split sep s) n

-- two lists are the same
abbrev pub same : List ℕ → List ℕ → Bool
same [] [] = true
same [] (y ∷ ys) = false
same (x ∷ xs) [] = false
same (x ∷ xs) (y ∷ ys) = eqb x y && same xs ys

-- r is the first place of sep at or after at, or the length
pub record Ends (s : List ℕ) (at sep r : ℕ) : Type 0 where
  pub from : at ≤ r
  pub within : r ≤ length s
  pub none : (k : ℕ) → at ≤ k → k < r → get_or s k 0 ≡ sep → ⊥
  pub here : r < length s → get_or s r 0 ≡ sep
