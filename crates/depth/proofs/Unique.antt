-- No second answer meets a promise. Assumes nothing.
use mathlib.Core.Path.{◌≡◌}
use mathlib.Core.List.{List}
use Prim.Native.Nat.{ℕ}
use Rattle.rules.specs.declared.Size.{Size}
use Rattle.std.specs.Prelude.{Result}
use Rattle.rules.specs.declared.Refusal.{Refusal}
use Rattle.depth.specs.Promise.{Depths}
use Rattle.depth.specs.Table.{depth_of}

pub depths_one : (z : Size) (entries out : List ℕ) (r r' : Result (Unit {0}) Refusal) (m m' : List ℕ) → Depths z entries out r m → Depths z entries out r' m' → (r ≡ r') × (m ≡ m')
depths_one z entries out r r' m m' p q = (cc, cc)

pub depth_one : (t d d' : ℕ) → d ≡ depth_of t → d' ≡ depth_of t → d ≡ d'
depth_one t d d' p q = cc
