-- The fold of a run of values: what the window sums are worked out by. Assumes nothing.
use Rattle.std.specs.Prelude.{ℕ, zero, suc}

-- f a, f (a + 1) and so on: n values, folded
abbrev pub Σ : {A : Type 0} → (A → A → A) → A → ℕ → ℕ → (ℕ → A) → A
Σ op ε a zero f = ε
Σ op ε a (suc n) f = op (f a) (Σ op ε (suc a) n f)
