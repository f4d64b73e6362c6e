-- The candidates by a cutoff. Where fewer than m pixels have a dark value above c, and at least m reach c, a pixel above c is a candidate,
-- one below c is none, and one at c is by how many at c stand before it. So counts of dark values find them. Assumes nothing.
use mathlib.Core.Path.{◌≡◌, refl, ap, ◌∙◌, sym}
use mathlib.Core.Bool.{Bool, true, false, cond, ◌&&◌, ◌||◌, true≢false}
use mathlib.Core.List.{List, [], ◌∷◌}
use Prim.Native.Nat.{ℕ, suc, ◌+◌, ◌-◌, ◌≤◌, ◌<◌}
use native.Mathlib.Omega.{arith}
use borrow.Author.Tests.{ltb-true, leb-true, eqb-true, lt-ltb, le-ltb, eq-eqb, ne_eqb}
use lib.Dec.{ltb, leb, eqb}
use Rattle.rules.specs.Window.{total}
use Rattle.rules.specs.Light.{count, before, rank}
use native.Mathlib.Decide.{dec_le}

total_le : {A : Type 0} (f g : A → ℕ) (l : List A) → ((o : A) → f o ≤ g o) → total f l ≤ total g l
total_le f g [] h = omega arith
total_le f g (o ∷ l) h = let i = total_le f g l h in let j = h o in omega arith

total_add : {A : Type 0} (f g k : A → ℕ) (l : List A) → ((o : A) → k o ≡ f o + g o) → total k l ≡ total f l + total g l
total_add f g k [] h = refl
total_add f g k (o ∷ l) h = let i = total_add f g k l h in let j = h o in omega arith

pub one_le : (a b : Bool) → (a ≡ true → b ≡ true) → cond {A = ℕ} a 1 0 ≤ cond b 1 0
one_le true b h = rw (h refl) (omega arith)
one_le false b h = omega arith

one_or : (a b : Bool) → (a ≡ true → b ≡ false) → cond {A = ℕ} (a || b) 1 0 ≡ cond a 1 0 + cond b 1 0
one_or true b h = rw (h refl)
one_or false true h = refl
one_or false false h = refl

-- a test that implies another holds no more often; of two that never hold together, one or the other holds as often as both counts say
pub count_le : (a b : ℕ → Bool) (l : List ℕ) → ((o : ℕ) → a o ≡ true → b o ≡ true) → count a l ≤ count b l
count_le a b l h = total_le _ _ l (λ o. one_le (a o) (b o) (h o))

pub count_or : (a b : ℕ → Bool) (l : List ℕ) → ((o : ℕ) → a o ≡ true → b o ≡ false) → count (λ o. a o || b o) l ≡ count a l + count b l
count_or a b l h = total_add _ _ _ l (λ o. one_or (a o) (b o) (h o))

-- ---- rank against a cutoff

or_cases : (a b c : Bool) → (a || (b && c)) ≡ true → (a ≡ true → ⊥) → b ≡ true
or_cases true b c e h = absurd (h refl)
or_cases false true c e h = refl
or_cases false false c e h = e

or_yes : (a b : Bool) → a ≡ true → (a || b) ≡ true
or_yes true b e = refl
or_yes false b e = absurd (true≢false (sym e))

-- a pixel that goes before p is no darker
before_le : (d : ℕ → ℕ) (o p : ℕ) → before d o p ≡ true → d p ≤ d o
before_le d o p e = go (dec_le (d p) (d o))
  where
    go : Dec (d p ≤ d o) → d p ≤ d o
    go (yes h) = h
    go (no h) =
        let f : d p ≡ d o = eqb-true (d p) (d o) (or_cases (ltb (d p) (d o)) (eqb (d p) (d o)) (ltb o p) e (λ t. let l = ltb-true (d p) (d o) t in omega arith)) in
        omega arith

-- how many pixels are above c, how many reach it, and how many stand at it before p
unfoldable pub above : List ℕ → (ℕ → ℕ) → ℕ → ℕ
above z d c = count (λ o. ltb c (d o)) z

unfoldable pub reaching : List ℕ → (ℕ → ℕ) → ℕ → ℕ
reaching z d c = count (λ o. leb c (d o)) z

unfoldable pub earlier : List ℕ → (ℕ → ℕ) → ℕ → ℕ → ℕ
earlier z d c p = count (λ o. eqb c (d o) && ltb o p) z

-- a + n is below m exactly when n is below what is left of m past a
ltb_past : (a n m : ℕ) → a < m → ltb (a + n) m ≡ ltb n (m - a)
ltb_past a n m l = go (dec_le (suc (a + n)) m)
  where
    go : Dec (a + n < m) → ltb (a + n) m ≡ ltb n (m - a)
    go (yes h) = lt-ltb (a + n) m h ∙ sym (lt-ltb n (m - a) (omega arith))
    go (no h) = le-ltb (a + n) m (omega arith) ∙ sym (le-ltb n (m - a) (omega arith))

module _ (z : List ℕ) (d : ℕ → ℕ) (c m : ℕ) where
  pub rank_above : (p : ℕ) → above z d c < m → c < d p → rank z d p < m
  unfolding above rank
  rank_above p h l =
      let i = count_le (λ o. before d o p) (λ o. ltb c (d o)) z (λ o e. lt-ltb c (d o) (let j = before_le d o p e in omega arith)) in
      omega arith

  pub rank_below : (p : ℕ) → m ≤ reaching z d c → d p < c → m ≤ rank z d p
  unfolding reaching rank
  rank_below p h l =
      let i =
      count_le (λ o. leb c (d o)) (λ o. before d o p) z
      (λ o e. or_yes (ltb (d p) (d o)) (eqb (d p) (d o) && ltb o p) (lt-ltb (d p) (d o) (let j = leb-true c (d o) e in omega arith))) in
      omega arith

  pub rank_level : (p : ℕ) → d p ≡ c → rank z d p ≡ above z d c + earlier z d c p
  unfolding above earlier rank
  rank_level p e =
      rw e
      (count_or (λ o. ltb c (d o)) (λ o. eqb c (d o) && ltb o p) z
      (λ o t. let l = ltb-true c (d o) t in ap (λ (b : Bool). b && ltb o p) (ne_eqb c (d o) (λ f. omega arith))))

  -- the first m by rank are those above the cutoff, and at it the first of what is left of m
  pub by_cutoff : above z d c < m → m ≤ reaching z d c → (p : ℕ) → ltb (rank z d p) m ≡ (ltb c (d p) || (eqb c (d p) && ltb (earlier z d c p) (m - above z d c)))
  by_cutoff low high p = go (dec_le (suc c) (d p)) (dec_le (suc (d p)) c)
    where
      go : Dec (c < d p) → Dec (d p < c) → ltb (rank z d p) m ≡ (ltb c (d p) || (eqb c (d p) && ltb (earlier z d c p) (m - above z d c)))
      go (yes g) q = rw (lt-ltb (rank z d p) m (rank_above p low g), lt-ltb c (d p) g)
      go (no g) (yes q) =
          rw (le-ltb (rank z d p) m (rank_below p high q), le-ltb c (d p) (omega arith), ne_eqb c (d p) (λ e. omega arith))
      go (no g) (no q) =
          rw (le-ltb c (d p) (omega arith), eq-eqb c (d p) (omega arith), rank_level p (omega arith))
          (ltb_past (above z d c) (earlier z d c p) m low)
