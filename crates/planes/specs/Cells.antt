-- Planes in the work area: rows of w entries, one after the other. Assumes nothing.
use Rattle.std.specs.Prelude.{◌≡◌, List, ℕ, ◌+◌, ◌*◌, ◌≤◌, get_or, ℤ, pos}
use Rattle.rules.specs.Window.{Plane}

-- the plane of w columns that starts at base
abbrev pub cells : List ℤ → ℕ → ℕ → Plane ℤ
cells l base w y x = get_or l (base + (y * w + x)) (pos 0)

-- m is l from n on
pub record SameFrom (l m : List ℤ) (n : ℕ) : Type 0 where
  pub same : (i : ℕ) → n ≤ i → get_or m i (pos 0) ≡ get_or l i (pos 0)
