-- A frame's description, as the rules see it. Assumes nothing.
use Rattle.std.specs.Prelude.{ℕ, ◌+◌, ◌*◌}
use Rattle.rules.specs.declared.Size.{Size}

-- w columns by h rows
pub record Shape : Type 0 where
  pub w : ℕ
  pub h : ℕ

-- what a call is handed, as a description
abbrev pub described : Size → Shape
described z = record { w = z.w; h = z.h }

-- how many entries of the work area a call may use: 8·(W+1)·(H+1)
abbrev pub room : Shape → ℕ
room z = 8 * ((z.w + 1) * (z.h + 1))
