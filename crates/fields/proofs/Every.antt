-- A test of every element of a list: a turn of a loop over it, two lists in a row, one test for another. Then 1 to so many bytes that pass. Assumes nothing.
use mathlib.Core.Path.{◌≡◌, refl, sym, ap, ◌∙◌}
use mathlib.Core.Bool.{Bool, true, false, ◌&&◌, and_assoc, and-eq-true_iff}
use mathlib.Core.List.{List, [], ◌∷◌, ◌++◌}
use Prim.Native.Nat.{ℕ, ◌+◌, ◌≤◌, ◌<◌}
use native.Mathlib.Omega.{arith}
use lib.Dec.{leb, ltb}
use lib.ListN.{length, get_or, drop, drop_of_length-le}
use borrow.Author.Tests.{lt-ltb, le-ltb, le-leb, lt-leb, ltb-true, leb-true}
use Rattle.fields.specs.Every.{every, up_to}
use Rattle.fields.proofs.Steps.{step}

pub both : (a b : Bool) → (a && b) ≡ true → (a ≡ true) × (b ≡ true)
both a b e = (and-eq-true_iff a b).0 e

module _ {A : Type 0} (t : A → Bool) where
  module _ (l : List A) (i : ℕ) (d : A) (h : i < length l) where
    pub every_on : t (get_or l i d) ≡ true → every t (drop i l) ≡ every t (drop (i + 1) l)
    every_on e = ap (every t) (step l i d h) ∙ rw e

    pub every_off : t (get_or l i d) ≡ false → every t (drop i l) ≡ false
    every_off e = ap (every t) (step l i d h) ∙ rw e

  pub every_end : (l : List A) (i : ℕ) → length l ≤ i → every t (drop i l) ≡ true
  every_end l i h = ap (every t) (drop_of_length-le l h)

  pub every_append : (a b : List A) → every t (a ++ b) ≡ (every t a && every t b)
  every_append [] b = refl
  every_append (x ∷ a) b = ap (λ (c : Bool). t x && c) (every_append a b) ∙ sym (and_assoc (t x) (every t a) (every t b))

  -- what passes one test passes another
  pub every_also : (u : A → Bool) → ((x : A) → t x ≡ true → u x ≡ true) → (l : List A) → every t l ≡ true → every u l ≡ true
  every_also u f [] h = refl
  every_also u f (x ∷ xs) h = let p = both (t x) (every t xs) h in rw (f x p.0) (every_also u f xs p.1)

-- ---- 1 to so many bytes

module _ (most : ℕ) (t : ℕ → Bool) (s : List ℕ) where
  pub up_to_empty : length s ≡ 0 → up_to most t s ≡ false
  up_to_empty e = rw (le-ltb 0 (length s) (omega arith))

  pub up_to_long : most < length s → up_to most t s ≡ false
  up_to_long l = rw (lt-ltb 0 (length s) (omega arith), lt-leb (length s) most l)

  pub up_to_is : 0 < length s → length s ≤ most → up_to most t s ≡ every t s
  up_to_is l h = rw (lt-ltb 0 (length s) l, le-leb (length s) most h)

  module _ (e : up_to most t s ≡ true) where
    tests : ((ltb 0 (length s) ≡ true) × (leb (length s) most ≡ true)) × (every t s ≡ true)
    tests = let outer = both (ltb 0 (length s) && leb (length s) most) (every t s) e in (both (ltb 0 (length s)) (leb (length s) most) outer.0, outer.1)

    pub up_to_some : 0 < length s
    up_to_some = ltb-true 0 (length s) tests.0.0

    pub up_to_most : length s ≤ most
    up_to_most = leb-true (length s) most tests.0.1

    pub up_to_every : every t s ≡ true
    up_to_every = tests.1
