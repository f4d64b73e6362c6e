-- The lines that fit the windows of a plane of samples. Assumes nothing.
use Rattle.std.specs.Prelude.{ℕ}
use Rattle.rules.specs.Shape.{Shape}
use Rattle.rules.specs.Window.{Plane, Shown, alike, window}
use Rattle.rules.specs.Transmission.{Sample, Line, line}

-- at regularisation e, of the windows of radius r in w by h samples
abbrev pub fitted : ℕ → ℕ → ℕ → ℕ → Plane (Shown Sample) → Plane (Shown Line)
fitted w h r e S y x = let z : Shape = record { w = w; h = h } in alike (λ i. line e (window z r S y x)) (S y x)
