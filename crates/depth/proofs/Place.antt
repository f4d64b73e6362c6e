-- The first place of a list whose entry is at most m, for any list: it is the one place with the two facts `reached` and `before` (`place_one`); a greater m
-- never has a later one (`place_falls`); and in a list that never rises one entry tells on which side of it the place is, so that a search by halves finds it.
-- Assumes nothing.
use mathlib.Core.Path.{◌≡◌, refl}
use mathlib.Core.Bool.{Bool, true, false, cond}
use mathlib.Core.List.{List, [], ◌∷◌}
use Prim.Native.Nat.{ℕ, zero, suc, ◌≤◌, ◌<◌, zero-le}
use native.Mathlib.Omega.{arith}
use lib.Dec.{leb, ltb}
use lib.ListN.{length, get_or}
use borrow.Author.Tests.{leb-true, leb-false, lt-ltb, ltb-true, ltb-false}
use Rattle.std.specs.List.Sorted.{IsPartitionedBy, IsPartitionPoint}
use Rattle.std.proofs.lemmas.Grind.{get_or_default_zero}
use Rattle.depth.specs.Table.{place}

module _ (m : ℕ) where
  pub most : (xs : List ℕ) → place m xs ≤ length xs
  most [] = omega arith
  most (x ∷ xs) = go (leb x m) (most xs)
    where
      go : (b : Bool) → place m xs ≤ length xs → cond b 0 (suc (place m xs)) ≤ suc (length xs)
      go true rest = omega arith
      go false rest = omega arith

  -- the entry there is at most m
  pub reached : (xs : List ℕ) → place m xs < length xs → get_or xs (place m xs) 0 ≤ m
  reached [] h = zero-le
  reached (x ∷ xs) h = go (leb x m) refl h (reached xs)
    where
      go : (b : Bool) → leb x m ≡ b → cond b 0 (suc (place m xs)) < suc (length xs)
          → (place m xs < length xs → get_or xs (place m xs) 0 ≤ m)
          → get_or (x ∷ xs) (cond b 0 (suc (place m xs))) 0 ≤ m
      go true e h rest = leb-true x m e
      go false e h rest = rest (omega arith)

  -- and no entry before it is
  pub before : (xs : List ℕ) (k : ℕ) → k < place m xs → m < get_or xs k 0
  before [] k h = absurd (let z : 1 ≤ 0 = omega arith in omega arith)
  before (x ∷ xs) k h = go (leb x m) refl k h (before xs)
    where
      go : (b : Bool) → leb x m ≡ b → (k : ℕ) → k < cond b 0 (suc (place m xs)) → ((k : ℕ) → k < place m xs → m < get_or xs k 0) → m < get_or (x ∷ xs) k 0
      go true e k h rest = absurd (let z : 1 ≤ 0 = omega arith in omega arith)
      go false e zero h rest = leb-false x m e
      go false e (suc k) h rest = rest k (omega arith)

  -- an entry that is at most m stands at the place or after it
  pub no_later : (xs : List ℕ) (k : ℕ) → get_or xs k 0 ≤ m → place m xs ≤ k
  no_later xs k h =
      let n : k < place m xs → ⊥ = λ l. (let b = before xs k l in omega arith) in
      omega arith

  pub place_one : (xs : List ℕ) (d : ℕ) → d ≤ length xs → (d < length xs → get_or xs d 0 ≤ m) → ((k : ℕ) → k < d → m < get_or xs k 0) → d ≡ place m xs
  place_one xs d top here none =
      let t = most xs in
      let low : d < place m xs → ⊥ = λ l. (let b = before xs d l in let a = here (omega arith) in omega arith) in
      let high : place m xs < d → ⊥ = λ l. (let a = reached xs (omega arith) in let b = none (place m xs) l in omega arith) in
      omega arith

-- no entry is above an earlier one
abbrev pub Falling : List ℕ → Type 0
Falling xs = (j k : ℕ) → j ≤ k → k < length xs → get_or xs k 0 ≤ get_or xs j 0

-- an entry above m stands before the place
pub later : (m : ℕ) (xs : List ℕ) → Falling xs → (k : ℕ) → k < length xs → m < get_or xs k 0 → k < place m xs
later m xs f k h l =
    let n : place m xs ≤ k → ⊥ = λ g. (let a = reached m xs (omega arith) in let b = f (place m xs) k g h in omega arith) in
    omega arith

pub place_falls : (m n : ℕ) (xs : List ℕ) → m ≤ n → place n xs ≤ place m xs
place_falls m n xs h =
    let t = most n xs in
    let no : place m xs < place n xs → ⊥ = λ l. (let a = reached m xs (omega arith) in let b = before n xs (place m xs) l in omega arith) in
    omega arith

-- the entries above m come first in it
pub parted : (m : ℕ) (xs : List ℕ) → Falling xs → IsPartitionedBy (ltb m) xs
parted m xs f i j d h n t =
    let e = get_or_default_zero xs i d (omega arith) in
    let a = ltb-true m (get_or xs j d) t in
    let b = get_or_default_zero xs j d n in
    let g = f i j h n in
    lt-ltb m (get_or xs i d) (omega arith)

-- and where they end is the place
pub parts : (m : ℕ) (xs : List ℕ) (d : ℕ) → d ≤ length xs → IsPartitionPoint (λ x. ltb m x ≡ true) (λ x. ltb m x ≡ false) xs d → d ≡ place m xs
parts m xs d n p =
    place_one m xs d n (λ h. ltb-false m (get_or xs d 0) (p.1 d 0 (omega arith) h)) (λ k h. ltb-true m (get_or xs k 0) (p.0 k 0 (omega arith) h))
