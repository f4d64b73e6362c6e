-- What a run of calls holds fixed: the size, the settings, the light and the mask. Promises and theorems about runs take it whole. Assumes nothing.
use Rattle.std.specs.Prelude.{ℕ, List}
use Rattle.rules.specs.Shape.{Shape, described}
use Rattle.rules.specs.declared.Size.{Size}
use Rattle.rules.specs.declared.Settings.{Settings}
use Rattle.rules.specs.declared.Rgb.{Rgb}

pub record Setup : Type 0 where
  pub size : Size
  pub settings : Settings
  pub light : Rgb
  pub mask : List ℕ

-- what a call is handed, as a setup
abbrev pub handed : Size → Settings → Rgb → List ℕ → Setup
handed z k a mask = record { size = z; settings = k; light = a; mask = mask }

-- the description of its frame
abbrev pub shape : Setup → Shape
shape p = described p.size
