-- Blocks of k samples from a line's first on, and how a window is put together from them. Assumes nothing.
use Rattle.std.specs.Prelude.{cond, ℕ, ◌+◌, ◌-◌, ◌*◌, ◌/◌, min, ltb, eqb}

-- the first sample of the block of k that holds sample i
unfoldable pub start : ℕ → ℕ → ℕ
start k i = i / k * k

-- its last sample, on a line of n
abbrev pub stop : ℕ → ℕ → ℕ → ℕ
stop k n i = min (start k i + k) n - 1

-- x is what the span to the end of its block gives at a window's first sample a, and y what the span from the start of its block gives at the
-- last. c is the start of the last sample's block
unfoldable pub choose : {A : Type 0} → (A → A → A) → ℕ → ℕ → A → A → A
choose op a c x y = cond (ltb a c) (op x y) (cond (eqb a c) y x)
