-- No second answer meets the promise of an exported function that returns a refusal number: each is an instance of `Returns`. Assumes nothing.
use mathlib.Core.Path.{◌≡◌}
use Prim.Native.Nat.{ℕ}
use Rattle.boundary.specs.Returns.{Returns}

pub returns_one :
    {A : Type 0} (refusal : ℕ) (new old : A) (n n' : ℕ) (m m' : A)
    → Returns refusal new old n m
    → Returns refusal new old n' m'
    → (n ≡ n') × (m ≡ m')
returns_one refusal new old n n' m m' p q = (cc, cc)
