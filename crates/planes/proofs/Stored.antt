-- A list after a store. Assumes nothing.
use mathlib.Core.Path.{◌≡◌}
use mathlib.Core.List.{List}
use Prim.Native.Nat.{ℕ, ◌<◌}
use native.Mathlib.Decide.{ℕ_discrete}
use lib.ListN.{length, get_or, set}
use lib.Seq.{get_or-set_same, get_or-set_other}

-- what holds of the value that is stored, and of entry j if that is another, holds of entry j
pub stored : {A : Type 0} (P : ℕ → A → Type 0) (l : List A) (n : ℕ) (v d : A) → n < length l → P n v → (j : ℕ) → ((j ≡ n → ⊥) → P j (get_or l j d)) → P j (get_or (set l n v) j d)
stored P l n v d room here j other = by (ℕ_discrete j n)
  where
    by : Dec (j ≡ n) → P j (get_or (set l n v) j d)
    by (yes e) = rw (e, get_or-set_same l n v d room) here
    by (no ne) = rw (get_or-set_other l n j v d ne) (other ne)
