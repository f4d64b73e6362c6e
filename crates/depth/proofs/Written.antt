-- What the two loops end in: the list with f at each entry of another, and the depths of 0 to 10,000. Assumes nothing.
use mathlib.Core.Path.{◌≡◌, refl, sym, ◌∙◌}
use mathlib.Core.List.{List, [], ◌∷◌, map}
use Prim.Native.Nat.{ℕ, zero, suc, ◌≤◌, ◌<◌}
use native.Mathlib.Omega.{arith}
use lib.ListN.{length, get_or, length-map}
use lib.Seq.{ext_get_or}
use Rattle.rules.proofs.Local.{from_length}
use Rattle.rules.proofs.Buffers.{from_get_or, from_of}
use Rattle.depth.specs.Table.{depth_of, every_depth}

pub map_at : (f : ℕ → ℕ) (xs : List ℕ) (k : ℕ) → k < length xs → get_or (map f xs) k 0 ≡ f (get_or xs k 0)
map_at f [] k h = absurd (let z : 1 ≤ 0 = omega arith in omega arith)
map_at f (x ∷ xs) zero h = refl
map_at f (x ∷ xs) (suc k) h = map_at f xs k (omega arith)

pub written : (f : ℕ → ℕ) (xs ys : List ℕ) → length ys ≡ length xs → ((k : ℕ) → k < length xs → get_or ys k 0 ≡ f (get_or xs k 0)) → ys ≡ map f xs
written f xs ys n h =
    ext_get_or 0 ys (map f xs) (n ∙ sym (length-map xs f)) (λ k m. let j : k < length xs = omega arith in h k j ∙ sym (map_at f xs k j))

pub every_long : length every_depth ≡ 10001
unfolding every_depth
every_long = from_length 0 10001 depth_of

pub every_at : (t : ℕ) → t ≤ 10000 → get_or every_depth t 0 ≡ depth_of t
unfolding every_depth
every_at t h = from_get_or 10001 depth_of t 0 (omega arith)

pub every_of : (l : List ℕ) → length l ≡ 10001 → ((t : ℕ) → t < 10001 → get_or l t 0 ≡ depth_of t) → l ≡ every_depth
unfolding every_depth
every_of l n h = from_of 10001 depth_of l n h
