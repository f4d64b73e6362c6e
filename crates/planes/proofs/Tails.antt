-- A list from a place on, as it is lent: what the function that it is lent to reads there. Assumes nothing.
use mathlib.Core.Path.{◌≡◌, ap, ◌∙◌}
use mathlib.Core.List.{List}
use Prim.Native.Nat.{ℕ, ◌+◌, ◌-◌, ◌*◌}
use native.Mathlib.Nat.{zero-add}
use native.Mathlib.Omega.{arith}
use lib.ListN.{length, get_or, take, drop, length-drop}
use lib.Seq.{get_or-drop, take_all, length-take-le}
use lib.IntN.{ℤ, pos}
use Rattle.planes.specs.Cells.{cells}

-- l from place a on
abbrev pub rest : {A : Type 0} → List A → ℕ → List A
rest l a = take (length l - a) (drop a l)

module _ {A : Type 0} (l : List A) (a : ℕ) where
  -- its length
  pub rest_length : length (rest l a) ≡ length l - a
  rest_length = length-take-le (length l - a) (drop a l) (simp length-drop (omega arith))

  -- its entries
  pub rest_at : (i : ℕ) (d : A) → get_or (rest l a) i d ≡ get_or l (a + i) d
  rest_at i d = ap (λ (m : List A). get_or m i d) (take_all (length l - a) (drop a l) (omega (arith, length-drop a l))) ∙ get_or-drop a l i d

-- a plane that starts there
pub rest_cells : (l : List ℤ) (a w y x : ℕ) → cells (rest l a) 0 w y x ≡ cells l a w y x
rest_cells l a w y x = rest_at l a (0 + (y * w + x)) (pos 0) ∙ ap (λ (i : ℕ). get_or l (a + i) (pos 0)) (zero-add (y * w + x))
