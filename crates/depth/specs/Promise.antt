-- What the depths of a map promise, for every input: the answer, and what stands in the lent memory afterwards. Assumes nothing.
use Rattle.std.specs.Prelude.{◌≡◌, ℕ, ◌||◌, List, [], ◌∷◌, Result, map, length}
use Rattle.rules.specs.declared.Size.{Size}
use Rattle.rules.specs.declared.Refusal.{Refusal}
use Rattle.rules.specs.Refusals.{Tests, first, bad_size, bad_map, bad_entries}
use Rattle.rules.specs.Answers.{or}
use Rattle.rules.specs.Promise.{unless}
use Rattle.depth.specs.Table.{depth_of}

-- 1, 4 for either length, 8; out is the length of the lent depths
abbrev pub tests_depths : Size → List ℕ → ℕ → Tests
tests_depths z entries out = (1, bad_size z) ∷ (4, bad_map z (length entries) || bad_map z out) ∷ (8, bad_entries entries) ∷ []

unfoldable pub refuse_depths : Size → List ℕ → ℕ → ℕ
refuse_depths z entries out = first (tests_depths z entries out)

-- out is the lent depths before, out' afterwards
pub record Depths (z : Size) (entries out : List ℕ) (r : Result (Unit {0}) Refusal) (out' : List ℕ) : Type 0 where
  pub answer : r ≡ or (refuse_depths z entries (length out)) tt
  pub after : out' ≡ unless (refuse_depths z entries (length out)) (map depth_of entries) out
