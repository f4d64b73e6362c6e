-- The candidates by levels. A seen pixel's level is one more than its dark value, a hidden one's is 0. So hidden pixels come after all seen ones, and for m
-- up to the number of the seen the first m of all by level are the first m of the seen by dark value (`first_by_level`). Assumes nothing.
use mathlib.Core.Path.{◌≡◌, refl, ap, ◌∙◌, sym}
use mathlib.Core.Bool.{Bool, true, false, cond, ◌&&◌, ◌||◌}
use mathlib.Core.List.{List, [], ◌∷◌}
use Prim.Native.Nat.{ℕ, ◌+◌, ◌≤◌}
use native.Mathlib.Omega.{arith}
use borrow.Author.Tests.{ltb-true, eqb-true, lt-ltb, le-ltb, eq-eqb, ne_eqb}
use lib.Dec.{ltb, eqb}
use lib.ListN.{length}
use Rattle.rules.specs.Light.{keep, count, before, rank}
use Rattle.rules.proofs.Near.{same_test}
use Rattle.rules.proofs.Order.{keep_length}
use Rattle.rules.proofs.Rank.{count_le, count_or}
use Rattle.light.specs.Steps.{upto, hits}
use Rattle.light.proofs.Positions.{all_upto}

-- ---- what is kept of what is kept

keep_both : (s t : ℕ → Bool) (l : List ℕ) → keep s (keep t l) ≡ keep (λ o. t o && s o) l
keep_both s t [] = refl
keep_both s t (o ∷ l) = go (t o) (keep_both s t l)
  where
    go : (b : Bool) → keep s (keep t l) ≡ keep (λ o. t o && s o) l
        → keep s (cond b (o ∷ keep t l) (keep t l)) ≡ cond (b && s o) (o ∷ keep (λ o. t o && s o) l) (keep (λ o. t o && s o) l)
    go true e = ap (λ (r : List ℕ). cond (s o) (o ∷ r) r) e
    go false e = e

count_both : (s t : ℕ → Bool) (l : List ℕ) → count s (keep t l) ≡ count (λ o. t o && s o) l
count_both s t l = sym (keep_length s (keep t l)) ∙ ap (λ (r : List ℕ). length r) (keep_both s t l) ∙ keep_length (λ o. t o && s o) l

-- ---- t says who is seen, d the dark value

ltb_one : (a b : ℕ) → ltb (a + 1) (b + 1) ≡ ltb a b
ltb_one a b =
    same_test (ltb (a + 1) (b + 1)) (ltb a b) (λ e. lt-ltb a b (omega (arith, ltb-true (a + 1) (b + 1) e))) (λ e. lt-ltb (a + 1) (b + 1) (omega (arith, ltb-true a b e)))

eqb_one : (a b : ℕ) → eqb (a + 1) (b + 1) ≡ eqb a b
eqb_one a b =
    same_test (eqb (a + 1) (b + 1)) (eqb a b) (λ e. eq-eqb a b (omega (arith, eqb-true (a + 1) (b + 1) e))) (λ e. eq-eqb (a + 1) (b + 1) (omega (arith, eqb-true a b e)))

module _ (t : ℕ → Bool) (d : ℕ → ℕ) where
  abbrev pub raised : ℕ → ℕ
  raised p = cond (t p) (d p + 1) 0

  -- those that go before a seen pixel are the seen ones that did
  before_seen : (o p : ℕ) → t p ≡ true → before raised o p ≡ (t o && before d o p)
  before_seen o p e = rw e (go (t o))
    where
      go : (b : Bool) → (ltb (d p + 1) (cond b (d o + 1) 0) || (eqb (d p + 1) (cond b (d o + 1) 0) && ltb o p)) ≡ (b && before d o p)
      go true = rw (ltb_one (d p) (d o), eqb_one (d p) (d o))
      go false = rw (le-ltb (d p + 1) 0 (omega arith), ne_eqb (d p + 1) 0 (λ f. omega arith))

  rank_seen : (l : List ℕ) (p : ℕ) → t p ≡ true → rank (keep t l) d p ≡ rank l raised p
  unfolding rank
  rank_seen l p e =
      let same : ◌≡◌ {A = ℕ → Bool} (λ o. t o && before d o p) (λ o. before raised o p) = λ i o. sym (before_seen o p e) i in
      count_both (λ o. before d o p) t l ∙ ap (λ (u : ℕ → Bool). count u l) same

  -- and before a hidden one go all that are seen
  rank_hidden : (l : List ℕ) (p : ℕ) → t p ≡ false → length (keep t l) ≤ rank l raised p
  unfolding rank
  rank_hidden l p e = omega (arith, keep_length t l, count_le t (λ o. before raised o p) l (λ o f. rw (e, f, lt-ltb 0 (d o + 1) (omega arith))))

  pub first_by_level : (l : List ℕ) (m : ℕ) → m ≤ length (keep t l) → keep (λ p. ltb (rank (keep t l) d p) m) (keep t l) ≡ keep (λ p. ltb (rank l raised p) m) l
  first_by_level l m h =
      let same : ◌≡◌ {A = ℕ → Bool} (λ p. t p && ltb (rank (keep t l) d p) m) (λ p. ltb (rank l raised p) m) = λ i p. go p (t p) refl i in
      keep_both (λ p. ltb (rank (keep t l) d p) m) t l ∙ ap (λ (u : ℕ → Bool). keep u l) same
    where
      go : (p : ℕ) (b : Bool) → t p ≡ b → (b && ltb (rank (keep t l) d p) m) ≡ ltb (rank l raised p) m
      go p true e = ap (λ (r : ℕ). ltb r m) (rank_seen l p e)
      go p false e = sym (le-ltb (rank l raised p) m (omega (arith, rank_hidden l p e)))

  -- the pixels of level 0 are those that are not seen
  pub level_none : (n : ℕ) → hits raised n 0 + length (keep t (upto n)) ≡ n
  level_none n =
      let same : ◌≡◌ {A = ℕ → Bool} (λ o. eqb 0 (raised o) || t o) (λ o. true) = λ i o. all o (t o) i in
      let parts = count_or (λ o. eqb 0 (raised o)) t (upto n) (λ o e. apart o (t o) e) in
      let whole = ap (λ (u : ℕ → Bool). count u (upto n)) same ∙ all_upto n in
      omega (arith, keep_length t (upto n), parts, whole)
    where
      all : (o : ℕ) (b : Bool) → (eqb 0 (cond b (d o + 1) 0) || b) ≡ true
      all o true = rw (ne_eqb 0 (d o + 1) (λ f. omega arith))
      all o false = refl

      apart : (o : ℕ) (b : Bool) → eqb 0 (cond b (d o + 1) 0) ≡ true → b ≡ false
      apart o true e = absurd (let j = eqb-true 0 (d o + 1) e in omega arith)
      apart o false e = refl
