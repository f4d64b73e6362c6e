-- A test of every element of a list. Assumes nothing.
use Rattle.std.specs.Prelude.{Bool, true, ◌&&◌, List, [], ◌∷◌, ℕ, leb, ltb, length}

abbrev pub every : {A : Type 0} → (A → Bool) → List A → Bool
every t [] = true
every t (x ∷ xs) = t x && every t xs

-- 1 to `most` bytes, each of which passes
abbrev pub up_to : ℕ → (ℕ → Bool) → List ℕ → Bool
up_to most t s = ltb 0 (length s) && leb (length s) most && every t s
