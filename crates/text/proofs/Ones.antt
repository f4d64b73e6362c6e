-- The mask of a text, on which each byte is 1: a beginning of a longer one, of the length that is asked for, and it shows a pixel. Assumes nothing.
use mathlib.Core.Path.{◌≡◌, refl, ap, ◌∙◌}
use mathlib.Core.Bool.{false}
use mathlib.Core.List.{List, ◌∷◌}
use Prim.Native.Nat.{ℕ, zero, suc, ◌≤◌, ◌<◌}
use native.Mathlib.Nat.{mul-pos}
use native.Mathlib.Omega.{arith}
use lib.ListN.{length, take, replicate, length-replicate}
use Rattle.rules.specs.declared.Size.{Size}
use Rattle.rules.specs.Refusals.{bad_size, bad_seen}
use Rattle.rules.proofs.Good.{size_good}
use Rattle.records.specs.Judging.{cells}
use Rattle.text.specs.Text.{ones}

take_replicate : (n m a : ℕ) → n ≤ m → take n (replicate m a) ≡ replicate n a
take_replicate zero m a h = refl
take_replicate (suc n) zero a h = absurd (let z : ⊥ = omega arith in z)
take_replicate (suc n) (suc m) a h = ap (λ (l : List ℕ). a ∷ l) (take_replicate n m a (omega arith))

pub ones_begin : (z : Size) (m : ℕ) → cells z ≤ m → take (cells z) (replicate m 1) ≡ ones z
ones_begin z m h = take_replicate (cells z) m 1 h

pub ones_length : (z : Size) (mask : List ℕ) → mask ≡ ones z → length mask ≡ cells z
ones_length z mask e = ap length e ∙ length-replicate (cells z) 1

seen : (n : ℕ) → 0 < n → bad_seen (replicate n 1) ≡ false
unfolding bad_seen
seen zero h = absurd (let z : ⊥ = omega arith in z)
seen (suc n) h = refl

pub ones_seen : (z : Size) (mask : List ℕ) → bad_size z ≡ false → mask ≡ ones z → bad_seen mask ≡ false
ones_seen z mask s e = let g = size_good z s in ap bad_seen e ∙ seen (cells z) (mul-pos g.across g.down)
