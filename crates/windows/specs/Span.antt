-- A span of a line joined by an operation: the view that the loops have of a window. A line is a function ℕ → A. No span is empty, so no law
-- asks for a unit. Assumes nothing.
use Rattle.std.specs.Prelude.{ℕ, zero, suc, ◌+◌, ◌-◌}
use Rattle.rules.specs.Count.{lo, hi}

module _ {A : Type 0} (op : A → A → A) where
  -- f a, f (a + 1) .. f (a + d), joined from the left
  unfoldable pub run : (ℕ → A) → ℕ → ℕ → A
  run f a zero = f a
  run f a (suc d) = op (run f a d) (f (a + suc d))

  -- f a .. f b, joined, for a at most b
  unfoldable pub span : (ℕ → A) → ℕ → ℕ → A
  span f a b = run f a (b - a)

-- the window about sample i of the line f, joined
abbrev pub windowed : {A : Type 0} → (A → A → A) → (ℕ → A) → ℕ → ℕ → ℕ → A
windowed op f s n i = span op f (lo s i) (hi s n i)
