-- No second answer meets the promise. Assumes nothing.
use mathlib.Core.Path.{◌≡◌}
use mathlib.Core.List.{List}
use Prim.Native.Nat.{ℕ}
use Rattle.std.specs.Prelude.{Option}
use Rattle.pnm.specs.declared.Head.{Head}
use Rattle.pnm.specs.Header.{header_of}

pub header_one : (kind : ℕ) (s : List ℕ) (r r' : Option Head) → r ≡ header_of kind s → r' ≡ header_of kind s → r ≡ r'
header_one kind s r r' p q = cc
