-- Positions in row order: counts and choices over a run of them hang on the test at those positions alone, and one position more is one test more.
-- Assumes nothing.
use mathlib.Core.Path.{◌≡◌, refl, ap, ap₂, ◌∙◌}
use mathlib.Core.Bool.{Bool, true, false, cond, ◌&&◌}
use mathlib.Core.List.{List, [], ◌∷◌, ◌++◌}
use Prim.Native.Nat.{ℕ, zero, suc, ◌+◌, ◌-◌, ◌≤◌, ◌<◌}
use native.Mathlib.Nat.{zero-add, add-zero, suc-add, add-suc}
use native.Mathlib.Omega.{arith}
use borrow.Author.Tests.{lt-ltb, le-ltb}
use lib.Dec.{ltb, eqb}
use lib.ListN.{length}
use Rattle.rules.specs.Window.{from}
use Rattle.rules.specs.Light.{keep, count}
use Rattle.rules.proofs.Local.{from_length}
use Rattle.rules.proofs.Rank.{count_le}
use Rattle.light.specs.Steps.{upto, hits}

-- ---- a run of positions in two

from_split : {A : Type 0} (a n m : ℕ) (f : ℕ → A) → from a (n + m) f ≡ from a n f ++ from (a + n) m f
from_split a zero m f = rw (zero-add, add-zero)
from_split {A} a (suc n) m f = rw (suc-add, add-suc, ← suc-add a n) (ap (λ (l : List A). f a ∷ l) (from_split (suc a) n m f))

upto_split : (n m : ℕ) → upto (n + m) ≡ upto n ++ from n m (λ p. p)
upto_split n m = rw (zero-add n) at (from_split 0 n m (λ p. p))

count_append : (t : ℕ → Bool) (l m : List ℕ) → count t (l ++ m) ≡ count t l + count t m
count_append t [] m = omega arith
count_append t (i ∷ l) m = omega (arith, count_append t l m)

keep_append : (t : ℕ → Bool) (l m : List ℕ) → keep t (l ++ m) ≡ keep t l ++ keep t m
keep_append t [] m = refl
keep_append t (i ∷ l) m = go (t i) (keep_append t l m)
  where
    go : (b : Bool) → keep t (l ++ m) ≡ keep t l ++ keep t m → cond b (i ∷ keep t (l ++ m)) (keep t (l ++ m)) ≡ cond b (i ∷ keep t l) (keep t l) ++ keep t m
    go true e = ap (λ (r : List ℕ). i ∷ r) e
    go false e = e

pub keep_more : (t : ℕ → Bool) (n : ℕ) → keep t (upto (n + 1)) ≡ keep t (upto n) ++ cond (t n) (n ∷ []) []
keep_more t n = ap (keep t) (upto_split n 1) ∙ keep_append t (upto n) (n ∷ [])

-- ---- tests that agree at the positions

pub count_cong : (s t : ℕ → Bool) (a n : ℕ) → ((o : ℕ) → a ≤ o → o < a + n → s o ≡ t o) → count s (from a n (λ p. p)) ≡ count t (from a n (λ p. p))
count_cong s t a zero h = refl
count_cong s t a (suc n) h =
    ap₂ ◌+◌ (ap (λ (b : Bool). cond {A = ℕ} b 1 0) (h a (omega arith) (omega arith))) (count_cong s t (suc a) n (λ o l m. h o (omega arith) (omega arith)))

pub keep_cong : (s t : ℕ → Bool) (a n : ℕ) → ((o : ℕ) → a ≤ o → o < a + n → s o ≡ t o) → keep s (from a n (λ p. p)) ≡ keep t (from a n (λ p. p))
keep_cong s t a zero h = refl
keep_cong s t a (suc n) h =
    rw (h a (omega arith) (omega arith), keep_cong s t (suc a) n (λ o l m. h o (omega arith) (omega arith)))

-- ---- how many

pub count_none : (l : List ℕ) → count (λ o. false) l ≡ 0
count_none [] = refl
count_none (i ∷ l) = omega (arith, count_none l)

count_all : (l : List ℕ) → count (λ o. true) l ≡ length l
count_all [] = refl
count_all (i ∷ l) = omega (arith, count_all l)

pub all_upto : (n : ℕ) → count (λ o. true) (upto n) ≡ n
all_upto n = count_all (upto n) ∙ from_length 0 n (λ p. p)

pub hits_more : (d : ℕ → ℕ) (n v : ℕ) → hits d (n + 1) v ≡ hits d n v + cond (eqb v (d n)) 1 0
hits_more d n v =
    ap (count (λ o. eqb v (d o))) (upto_split n 1)
    ∙ count_append (λ o. eqb v (d o)) (upto n) (n ∷ [])
    ∙ ap (λ (k : ℕ). hits d n v + k) (add-zero (cond (eqb v (d n)) 1 0))

pub hits_le : (d : ℕ → ℕ) (n v : ℕ) → hits d n v ≤ n
hits_le d n v = omega (arith, count_le (λ o. eqb v (d o)) (λ o. true) (upto n) (λ o e. refl), all_upto n)

-- those of the first n that stand before p are those of the first p
and_false : (b : Bool) → (b && false) ≡ false
and_false true = refl
and_false false = refl

and_true : (b : Bool) → (b && true) ≡ b
and_true true = refl
and_true false = refl

pub count_before : (t : ℕ → Bool) (n p : ℕ) → p ≤ n → count (λ o. t o && ltb o p) (upto n) ≡ count t (upto p)
count_before t n p h =
    let s : ℕ → Bool = λ o. t o && ltb o p in
    let e : n ≡ p + (n - p) = omega arith in
    let front : count s (upto p) ≡ count t (upto p) = count_cong s t 0 p (λ o a b. rw (lt-ltb o p (omega arith)) (and_true (t o))) in
    let back : count s (from p (n - p) (λ i. i)) ≡ 0 =
    count_cong s (λ o. false) p (n - p) (λ o a b. rw (le-ltb o p a) (and_false (t o))) ∙ count_none (from p (n - p) (λ i. i))
    in
    ap (λ (k : ℕ). count s (upto k)) e
    ∙ ap (count s) (upto_split p (n - p))
    ∙ count_append s (upto p) (from p (n - p) (λ i. i))
    ∙ ap₂ ◌+◌ front back
    ∙ add-zero (count t (upto p))
