-- A run written at the front of a list, and a pixel written in one. Assumes nothing.
use Rattle.std.specs.Prelude.{◌≡◌, List, ℕ, ◌+◌, ◌*◌, ◌≤◌, ◌<◌, length, get_or, set}
use Rattle.rules.specs.declared.Rgb.{Rgb}

-- the first n entries are F from place first on, the others are as they were
pub record Run (F : ℕ → ℕ) (first n : ℕ) (old new : List ℕ) : Type 0 where
  pub same : length new ≡ length old
  pub in_run : (k : ℕ) → k < n → get_or new k 0 ≡ F (first + k)
  pub past : (k : ℕ) → n ≤ k → get_or new k 0 ≡ get_or old k 0

-- pixel i of a list of bytes set to j
abbrev pub set_pixel : List ℕ → ℕ → Rgb → List ℕ
set_pixel l i j = set (set (set l (3 * i) j.r) (3 * i + 1) j.g) (3 * i + 2) j.b
