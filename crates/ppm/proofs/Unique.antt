-- No second answer meets a promise. Assumes nothing.
use mathlib.Core.Path.{◌≡◌}
use mathlib.Core.List.{List}
use Prim.Native.Nat.{ℕ}
use Rattle.std.specs.Prelude.{Result}
use Rattle.rules.specs.declared.Size.{Size}
use Rattle.rules.specs.declared.Refusal.{Refusal}
use Rattle.ppm.specs.Promise.{length_for, Sizes, Reads, Writes}

pub sizes_one : (s : List ℕ) (r r' : Result Size Refusal) → Sizes s r → Sizes s r' → r ≡ r'
sizes_one s r r' p q = cc

pub reads_one : (s frame : List ℕ) (r r' : Result Size Refusal) (m m' : List ℕ) → Reads s frame r m → Reads s frame r' m' → (r ≡ r') × (m ≡ m')
reads_one s frame r r' m m' p q = (cc, cc)

pub writes_one : (z : Size) (frame out : List ℕ) (r r' : Result (Unit {0}) Refusal) (m m' : List ℕ) → Writes z frame out r m → Writes z frame out r' m' → (r ≡ r') × (m ≡ m')
writes_one z frame out r r' m m' p q = (cc, cc)

pub length_one : (z : Size) (n n' : ℕ) → n ≡ length_for z → n' ≡ length_for z → n ≡ n'
length_one z n n' p q = cc
