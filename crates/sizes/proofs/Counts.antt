-- The table of reciprocals before any is known, and one more size of a row. Assumes nothing.
use mathlib.Core.Path.{◌≡◌}
use mathlib.Core.List.{List}
use Prim.Native.Nat.{ℕ, ◌+◌, ◌<◌, max}
use native.Mathlib.Omega.{arith}
use lib.ListN.{length, set, replicate, length-replicate, get_or-replicate}
use lib.IntN.{ℤ, nat_abs}
use Rattle.planes.proofs.Stored.{stored}
use Rattle.sizes.specs.Sizes.{Table, Count, Counted, span_at}

-- ---- the table

-- no reciprocal is known yet
pub table_none : Table (replicate 14642 0)
table_none = record { long = length-replicate {A = ℕ} 14642 0; is = λ n some few known. absurd (omega (arith, get_or-replicate {A = ℕ} 14642 n 0 0 (omega arith))) }

-- ---- a row

-- what is a count is one under another name
pub count_as : {z s : ℤ} → z ≡ s → Count s → Count z
count_as e c = rw e c

-- one size more
pub counted_more : {cols : List ℤ} {x d i : ℕ} {ns : List ℕ} → Counted cols x d i ns → i < length ns → (n : ℕ) → n ≡ max 1 (nat_abs (span_at cols x d i))
    → Counted cols x d (i + 1) (set ns i n)
counted_more {cols} {x} {d} {i} {ns} c room n e =
    record { is = λ j q. stored (λ (j k : ℕ). k ≡ max 1 (nat_abs (span_at cols x d j))) ns i n 0 room e j (λ ne. c.is j (omega arith)) }
