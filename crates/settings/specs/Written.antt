-- A text as it is written, from names with their values, and the value of a name among them. Assumes nothing.
use Rattle.std.specs.Prelude.{Bool, cond, ◌&&◌, List, [], ◌∷◌, ◌++◌, ℕ}
use Rattle.fields.specs.Words.{bytes}
use Rattle.fields.specs.Every.{every}
use Rattle.fields.specs.Fields.{same}
use Rattle.settings.specs.Texts.{word}

-- a name and its value
abbrev pub Pair : Type 0
Pair = List ℕ × List ℕ

-- `keep`, name, value, parted by one tab
abbrev pub row : Pair → List ℕ
row p = bytes "keep" ++ 9 ∷ (p.0 ++ 9 ∷ p.1)

-- each line ended by LF
abbrev pub written : List Pair → List ℕ
written [] = []
written (p ∷ ps) = row p ++ 10 ∷ written ps

abbrev pub words : List Pair → Bool
words ps = every (λ (p : Pair). word p.0 && word p.1) ps

-- the value of the first that has the name, empty where none has it
abbrev pub lookup : List Pair → List ℕ → List ℕ
lookup [] name = []
lookup (p ∷ ps) name = cond (same p.0 name) p.1 (lookup ps name)
