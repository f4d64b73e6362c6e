-- Lines as they are written, and what a writer leaves in lent memory. Assumes nothing.
use Rattle.std.specs.Prelude.{◌≡◌, List, [], ◌∷◌, ◌++◌, ℕ, ◌+◌, ◌≤◌, length}
use Rattle.std.proofs.lemmas.List.Edits.{sets}
use Rattle.fields.specs.Decimal.{decimal}

-- each number after a tab, then the line end
abbrev pub columns : List ℕ → List ℕ
columns [] = 10 ∷ []
columns (n ∷ ns) = 9 ∷ decimal n ++ columns ns

-- a line: a word and its numbers
abbrev pub row : List ℕ → List ℕ → List ℕ
row word ns = word ++ columns ns

-- the bytes stand in out from at on, up to end; all else is as it was
pub record Wrote (bytes out : List ℕ) (at : ℕ) (out' : List ℕ) (end : ℕ) : Type 0 where
  pub ends : end ≡ at + length bytes
  pub within : end ≤ length out
  pub is : out' ≡ sets out at bytes
