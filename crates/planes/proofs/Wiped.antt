-- Two work areas of one length that are alike past what is wiped are wiped alike. Assumes nothing.
use mathlib.Core.Path.{◌≡◌, ◌∙◌, ap, sym}
use mathlib.Core.List.{List, ◌++◌}
use Prim.Native.Nat.{ℕ, ◌+◌, ◌≤◌}
use native.Mathlib.Omega.{arith}
use lib.ListN.{length, replicate, drop, length-drop}
use lib.Seq.{get_or-drop, ext_get_or}
use lib.IntN.{ℤ, pos}
use Rattle.rules.specs.Shape.{Shape, room}
use Rattle.rules.specs.Promise.{wiped}
use Rattle.planes.specs.Cells.{SameFrom}

pub wiped_same : (z : Shape) (l m : List ℤ) (n : ℕ) → length m ≡ length l → n ≤ room z → SameFrom l m n → wiped z m ≡ wiped z l
unfolding wiped
wiped_same z l m n long le s =
    ap (λ (t : List ℤ). replicate (room z) (pos 0) ++ t)
    (ext_get_or (pos 0) (drop (room z) m) (drop (room z) l) (simp length-drop (omega arith))
    (λ i q. get_or-drop (room z) m i (pos 0) ∙ s.same (room z + i) (omega arith) ∙ sym (get_or-drop (room z) l i (pos 0))))
