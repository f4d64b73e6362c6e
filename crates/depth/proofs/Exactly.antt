-- Each number is given exactly when its test holds and none before it does, and a call is taken exactly when none holds. The lowest number that applies is
-- given. Assumes nothing.
use mathlib.Core.Path.{refl}
use mathlib.Core.List.{List, [], ◌∷◌}
use Prim.Native.Nat.{ℕ}
use Rattle.rules.specs.declared.Size.{Size}
use Rattle.rules.proofs.Exactly.{Exact, exact}
use Rattle.rules.proofs.Lowest.{Lowest, lowest}
use Rattle.depth.specs.Promise.{tests_depths, refuse_depths}

pub depths_exact : (z : Size) (entries : List ℕ) (out : ℕ) → Exact (refuse_depths z entries out) (tests_depths z entries out)
unfolding refuse_depths
depths_exact z entries out = exact _ refl

pub depths_lowest : (z : Size) (entries : List ℕ) (out : ℕ) → Lowest (1 ∷ 4 ∷ 8 ∷ []) (refuse_depths z entries out) (tests_depths z entries out)
unfolding refuse_depths
depths_lowest z entries out = lowest _ refl
