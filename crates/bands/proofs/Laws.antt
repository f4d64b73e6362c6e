-- The sum and the least of a band in the words of the rules, and the band as a part of its map. Assumes nothing.
use mathlib.Core.Path.{◌≡◌, refl, sym, ap}
use mathlib.Core.List.{List, [], ◌∷◌}
use Prim.Native.Nat.{ℕ, ◌+◌, ◌-◌, ◌*◌, min, ◌≤◌, ◌<◌}
use native.Mathlib.Omega.{arith}
use Rattle.std.specs.List.{sum, fold}
use Rattle.std.proofs.lemmas.List.Recursion.{is_sum_by}
use Rattle.rules.specs.Window.{least, total}

pub sum_is : (l : List ℕ) → sum l ≡ total (λ t. t) l
sum_is l = sym (is_sum_by (total (λ t. t)) (λ t. t) refl (λ t m. refl) l)

least_le : (l : List ℕ) → least 10000 l ≤ 10000
least_le [] = omega arith
least_le (t ∷ l) = omega (arith, least_le l)

fold_min : (a : ℕ) (l : List ℕ) → a ≤ 10000 → fold min a l ≡ min a (least 10000 l)
fold_min a [] h = omega arith
fold_min a (t ∷ l) h = omega (arith, fold_min (min a t) l (omega arith))

pub least_is : (l : List ℕ) → fold min 10000 l ≡ least 10000 l
least_is l = omega (arith, fold_min 10000 l (omega arith), least_le l)

-- ---- the rows from .. to, as one part of the map

pub rows_count : (w from to : ℕ) → from < to → to * w - from * w ≡ (to - from) * w
rows_count w from to l =
    let k : to * w ≡ (from + (to - from)) * w = ap (λ (i : ℕ). i * w) (let j : to ≡ from + (to - from) = omega arith in j) in
    omega arith
