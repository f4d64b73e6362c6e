-- Lists of positions: what stands in one, what is kept of it, and rising order. And ranks in a strict order: where each of two numbers goes before the
-- other, of n positions in rising order exactly m have fewer than m that go before them, for each m up to n (`ranked`). Assumes nothing.
use mathlib.Core.Path.{◌≡◌, refl, sym, ap, ◌∙◌}
use mathlib.Core.Bool.{Bool, true, false, cond}
use mathlib.Core.List.{List, [], ◌∷◌}
use Prim.Native.Nat.{ℕ, zero, suc, ◌+◌, ◌≤◌, ◌<◌}
use native.Mathlib.Omega.{arith}
use native.Mathlib.Decide.{dec_le}
use lib.ListN.{length}
use lib.Dec.{ltb}
use borrow.Author.Tests.{ltb-true, lt-ltb, le-ltb}
use Rattle.rules.specs.Window.{from}
use Rattle.rules.specs.Light.{keep, count}
use Rattle.rules.proofs.Near.{same_test}
use Rattle.rules.proofs.Rank.{one_le, count_le}

-- p stands in the list
pub data In (p : ℕ) : List ℕ → Type 0 where
  here : {o : ℕ} {l : List ℕ} → p ≡ o → In p (o ∷ l)
  later : {o : ℕ} {l : List ℕ} → In p l → In p (o ∷ l)

-- in rising order, from a on
abbrev pub Rising : ℕ → List ℕ → Type 0
Rising a [] = Unit {0}
Rising a (p ∷ l) = (a ≤ p) × Rising (suc p) l

pub rising_less : (a b : ℕ) (l : List ℕ) → a ≤ b → Rising b l → Rising a l
rising_less a b [] h r = tt
rising_less a b (p ∷ l) h r = (let j = r.0 in omega arith, r.1)

pub rising_in : (a p : ℕ) (l : List ℕ) → Rising a l → In p l → a ≤ p
rising_in a p [] r x'' = elim x'' [ ]
rising_in a p (o ∷ l) r (here e) = let j = r.0 in omega arith
rising_in a p (o ∷ l) r (later i) = let j = rising_in (suc o) p l r.1 i in let e = r.0 in omega arith

-- n positions from a on
abbrev pub upto : ℕ → ℕ → List ℕ
upto a n = from a n (λ p. p)

pub from_rising : (a n : ℕ) → Rising a (upto a n)
from_rising a zero = tt
from_rising a (suc n) = (omega arith, from_rising (suc a) n)

pub in_some : (p : ℕ) (l : List ℕ) → In p l → 0 < length l
in_some p [] i = elim i [ ]
in_some p (o ∷ l) i = omega arith

pub from_in : (a n p : ℕ) → a ≤ p → p < a + n → In p (upto a n)
from_in a zero p l h = absurd (let z : 1 ≤ 0 = omega arith in omega arith)
from_in a (suc n) p l h = go (dec_le p a) (from_in (suc a) n p)
  where
    go : Dec (p ≤ a) → (suc a ≤ p → p < suc a + n → In p (upto (suc a) n)) → In p (upto a (suc n))
    go (yes e) ih = let s : p ≡ a = omega arith in here s
    go (no e) ih = later (ih (omega arith) (omega arith))

pub from_end : (a n p : ℕ) → In p (upto a n) → p < a + n
from_end a zero p x' = elim x' [ ]
from_end a (suc n) p (here e) = omega arith
from_end a (suc n) p (later i) = omega (arith, from_end (suc a) n p i)

-- what is kept of a list: the members that pass the test
module _ (t : ℕ → Bool) where
  pub keep_length : (l : List ℕ) → length (keep t l) ≡ count t l
  keep_length [] = refl
  keep_length (o ∷ l) = go (t o) (keep_length l)
    where
      go : (b : Bool) → length (keep t l) ≡ count t l → length (cond b (o ∷ keep t l) (keep t l)) ≡ cond b 1 0 + count t l
      go true ih = omega arith
      go false ih = omega arith

  pub keep_in : (p : ℕ) (l : List ℕ) → In p (keep t l) → In p l × (t p ≡ true)
  keep_in p [] i = elim i [ ]
  keep_in p (o ∷ l) i = go (t o) refl (keep_in p l) i
    where
      go : (b : Bool) → t o ≡ b → (In p (keep t l) → In p l × (t p ≡ true)) → In p (cond b (o ∷ keep t l) (keep t l)) → In p (o ∷ l) × (t p ≡ true)
      go true e ih (here s) = (here s, ap t s ∙ e)
      go true e ih (later j) = (later (ih j).0, (ih j).1)
      go false e ih j = (later (ih j).0, (ih j).1)

  pub keep_has : (p : ℕ) (l : List ℕ) → In p l → t p ≡ true → In p (keep t l)
  keep_has p [] x'' e = elim x'' [ ]
  keep_has p (o ∷ l) (here s) e = let f : t o ≡ true = ap t (sym s) ∙ e in rw f (here s)
  keep_has p (o ∷ l) (later i) e = go (t o) (keep_has p l i e)
    where
      go : (b : Bool) → In p (keep t l) → In p (cond b (o ∷ keep t l) (keep t l))
      go true j = later j
      go false j = j

  pub keep_rising : (a : ℕ) (l : List ℕ) → Rising a l → Rising a (keep t l)
  keep_rising a [] r = tt
  keep_rising a (o ∷ l) r = go (t o) (keep_rising (suc o) l r.1)
    where
      go : (b : Bool) → Rising (suc o) (keep t l) → Rising a (cond b (o ∷ keep t l) (keep t l))
      go true j = (r.0, j)
      go false j = rising_less a (suc o) (keep t l) (let h = r.0 in omega arith) j

-- two tests that agree on a list keep the same of it
pub keep_same : (s t : ℕ → Bool) (l : List ℕ) → ((p : ℕ) → In p l → s p ≡ t p) → keep s l ≡ keep t l
keep_same s t [] h = refl
keep_same s t (o ∷ l) h = rw (h o (here refl), keep_same s t l (λ p i. h p (later i)))

-- ---- ranks in a strict order of all numbers: of n positions, m have fewer than m that go before them

count_in : (s t : ℕ → Bool) (l : List ℕ) → ((p : ℕ) → In p l → s p ≡ t p) → count s l ≡ count t l
count_in s t [] h = refl
count_in s t (o ∷ l) h = rw (h o (here refl)) (let i = count_in s t l (λ p j. h p (later j)) in omega arith)

count_most : (t : ℕ → Bool) (l : List ℕ) → count t l ≤ length l
count_most t [] = omega arith
count_most t (o ∷ l) = go (t o) (count_most t l)
  where
    go : (b : Bool) → count t l ≤ length l → cond b 1 0 + count t l ≤ suc (length l)
    go true ih = omega arith
    go false ih = omega arith

ltb_same : (a b c d : ℕ) → (a < b → c < d) → (c < d → a < b) → ltb a b ≡ ltb c d
ltb_same a b c d f g = same_test (ltb a b) (ltb c d) (λ e. lt-ltb c d (f (ltb-true a b e))) (λ e. lt-ltb a b (g (ltb-true c d e)))

-- how many of the list go before p
abbrev pub ahead : (ℕ → ℕ → Bool) → List ℕ → ℕ → ℕ
ahead b l p = count (λ o. b o p) l

module _ (b : ℕ → ℕ → Bool) (never : (p : ℕ) → b p p ≡ false) (through : (o p q : ℕ) → b o p ≡ true → b p q ≡ true → b o q ≡ true) (either : (o p : ℕ) → (o ≡ p → ⊥) → b o p ≡ false → b p o ≡ true) where
  ahead_le : (o p : ℕ) (l : List ℕ) → b o p ≡ true → ahead b l o ≤ ahead b l p
  ahead_le o p l e = count_le (λ q. b q o) (λ q. b q p) l (λ q h. through q o p h e)

  pub ahead_lt : (o p : ℕ) (l : List ℕ) → In o l → b o p ≡ true → ahead b l o < ahead b l p
  ahead_lt o p [] x'' e = elim x'' [ ]
  ahead_lt o p (q ∷ l) (here s) e = rw (← s, never o, e) (omega (arith, ahead_le o p l e))
  ahead_lt o p (q ∷ l) (later i) e = omega (arith, ahead_lt o p l i e, one_le (b q o) (b q p) (λ h. through q o p h e))

  -- one more position a, with so many of the others ahead of it: those behind it move on by one
  behind : (a p : ℕ) (l : List ℕ) → In p l → (a ≡ p → ⊥) → (t : Bool) → b a p ≡ t → (n : ℕ) → n ≤ ahead b l a → ltb (cond t 1 0 + ahead b l p) n ≡ ltb (ahead b l p) n
  behind a p l i d true e n h = let j = ahead_le a p l e in ltb_same (1 + ahead b l p) n (ahead b l p) n (λ f. omega arith) (λ f. omega arith)
  behind a p l i d false e n h = ltb_same (0 + ahead b l p) n (ahead b l p) n (λ f. omega arith) (λ f. omega arith)

  passed : (a p : ℕ) (l : List ℕ) → In p l → (a ≡ p → ⊥) → (t : Bool) → b a p ≡ t → (n : ℕ) → ahead b l a ≤ n → ltb (cond t 1 0 + ahead b l p) (suc n) ≡ ltb (ahead b l p) n
  passed a p l i d true e n h = ltb_same (1 + ahead b l p) (suc n) (ahead b l p) n (λ f. omega arith) (λ f. omega arith)
  passed a p l i d false e n h = let j = ahead_lt p a l i (either a p d e) in ltb_same (0 + ahead b l p) (suc n) (ahead b l p) n (λ f. omega arith) (λ f. omega arith)

  one_more :
      (a : ℕ) (l : List ℕ)
      → ((p : ℕ) → In p l → a ≡ p → ⊥)
      → ((n : ℕ) → n ≤ length l → count (λ p. ltb (ahead b l p) n) l ≡ n)
      → (n : ℕ)
      → n ≤ suc (length l)
      → count (λ p. ltb (ahead b (a ∷ l) p) n) (a ∷ l) ≡ n
  one_more a l d ih n h = go n h (dec_le n (ahead b l a))
    where
      some : ahead b l a ≤ length l
      some = count_most (λ o. b o a) l

      go : (n : ℕ) → n ≤ suc (length l) → Dec (n ≤ ahead b l a) → cond (ltb (cond (b a a) 1 0 + ahead b l a) n) 1 0 + count (λ p. ltb (cond (b a p) 1 0 + ahead b l p) n) l ≡ n
      go n h (yes e) =
          let others : count (λ p. ltb (cond (b a p) 1 0 + ahead b l p) n) l ≡ n =
          count_in _ (λ p. ltb (ahead b l p) n) l (λ p i. behind a p l i (d p i) (b a p) refl n e) ∙ ih n (omega (arith, some))
          in
          rw (never a, le-ltb (0 + ahead b l a) n (omega arith)) (omega arith)
      go zero h (no e) = absurd (omega arith)
      go (suc n) h (no e) =
          let others : count (λ p. ltb (cond (b a p) 1 0 + ahead b l p) (suc n)) l ≡ n =
          count_in _ (λ p. ltb (ahead b l p) n) l (λ p i. passed a p l i (d p i) (b a p) refl n (omega arith)) ∙ ih n (omega arith)
          in
          rw (never a, lt-ltb (0 + ahead b l a) (suc n) (omega arith)) (omega arith)

  pub ranked : (a c : ℕ) (l : List ℕ) → Rising a l → c ≤ length l → count (λ p. ltb (ahead b l p) c) l ≡ c
  ranked a c [] r h = omega arith
  ranked a c (o ∷ l) r h =
      one_more o l (λ p i e. let j = rising_in (suc o) p l r.1 i in omega arith) (λ k j. ranked (suc o) k l r.1 j) c h
