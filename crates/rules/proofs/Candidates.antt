-- What the candidates are. m is the greatest number with 1000·m ≤ n·share of n seen pixels, or 1 where that is 0 (`m_is`, `m_least`), and at most n
-- where there is one (`m_le`). There are m candidates (`candidates_many`), positions of the frame in row order, each once (`candidates_rising`,
-- `candidates_in`), each of a seen pixel (`candidates_seen`), and each goes before each seen pixel that is none: it has the greater dark value, or the
-- same and the lower position (`candidates_first`). Assumes nothing.
use mathlib.Core.Path.{◌≡◌, refl, sym, ◌∙◌}
use mathlib.Core.Bool.{Bool, true, false, ◌&&◌, ◌||◌, true≢false}
use Prim.Native.Nat.{ℕ, ◌+◌, ◌*◌, ◌/◌, ◌≤◌, ◌<◌}
use native.Mathlib.Nat.{mul-le-mul_left, div-le_of_le-mul}
use native.Mathlib.Omega.{arith}
use native.Mathlib.Decide.{dec_le}
use lib.ListN.{length}
use lib.Dec.{ltb, eqb}
use borrow.Author.Tests.{ltb-true, eqb-true, lt-ltb, le-ltb, eq-eqb}
use Rattle.rules.specs.Shape.{Shape}
use Rattle.rules.specs.declared.Settings.{Settings}
use Rattle.rules.specs.declared.Rgb.{Rgb}
use Rattle.rules.specs.Window.{Plane, Shown}
use Rattle.rules.specs.Light.{at, places, dark, m, before, rank, candidates}
use Rattle.rules.proofs.Near.{apart}
use Rattle.rules.proofs.Order.{In, Rising, upto, in_some, from_rising, from_in, from_end, keep_length, keep_in, keep_has, keep_rising, ahead_lt, ranked}

-- ---- how many

module _ (n : ℕ) (k : Settings) where
  pub m_is : (c : ℕ) → 0 < c → 1000 * c ≤ n * k.share → n * k.share < 1000 * (c + 1) → m n k ≡ c
  m_is c s l h = omega arith

  pub m_least : n * k.share < 1000 → m n k ≡ 1
  m_least h = omega arith

  pub m_le : 0 < n → k.share ≤ 1000 → m n k ≤ n
  m_le h l =
      let q : n * k.share / 1000 ≤ n = div-le_of_le-mul 1000 (omega (arith, mul-le-mul_left n l)) in
      omega arith

-- ---- the order of the dark values: o goes before p with the greater value, or with the same and the lower position

pub data Before (d : ℕ → ℕ) (o p : ℕ) : Type 0 where
  greater : d p < d o → Before d o p
  earlier : d o ≡ d p → o < p → Before d o p

module _ (d : ℕ → ℕ) where
  before_is : (o p : ℕ) → before d o p ≡ true → Before d o p
  before_is o p e = go (ltb (d p) (d o)) refl e
    where
      go : (b : Bool) → ltb (d p) (d o) ≡ b → (b || (eqb (d p) (d o) && ltb o p)) ≡ true → Before d o p
      go true f e = greater (ltb-true (d p) (d o) f)
      go false f e = let t = apart (eqb (d p) (d o)) (ltb o p) e in earlier (sym (eqb-true (d p) (d o) t.0)) (ltb-true o p t.1)

  is_before : (o p : ℕ) → Before d o p → before d o p ≡ true
  is_before o p (greater h) = rw (lt-ltb (d p) (d o) h)
  is_before o p (earlier e h) = rw (le-ltb (d p) (d o) (omega arith), eq-eqb (d p) (d o) (sym e), lt-ltb o p h)

  before_never : (p : ℕ) → before d p p ≡ false
  before_never p = go (before d p p) refl
    where
      not : Before d p p → ⊥
      not (greater h) = omega arith
      not (earlier e h) = omega arith

      go : (b : Bool) → before d p p ≡ b → before d p p ≡ false
      go true e = absurd (not (before_is p p e))
      go false e = e

  before_through : (o p q : ℕ) → before d o p ≡ true → before d p q ≡ true → before d o q ≡ true
  before_through o p q e f = is_before o q (go (before_is o p e) (before_is p q f))
    where
      go : Before d o p → Before d p q → Before d o q
      go (greater h) (greater i) = greater (omega arith)
      go (greater h) (earlier f i) = greater (omega arith)
      go (earlier e h) (greater i) = greater (omega arith)
      go (earlier e h) (earlier f i) = earlier (e ∙ f) (omega arith)

  before_either : (o p : ℕ) → (o ≡ p → ⊥) → before d o p ≡ false → before d p o ≡ true
  before_either o p n e = is_before p o (go (dec_le (d o) (d p)) (dec_le (d p) (d o)) (dec_le o p))
    where
      not : Before d o p → Before d p o
      not b = absurd (true≢false (sym (is_before o p b) ∙ e))

      go : Dec (d o ≤ d p) → Dec (d p ≤ d o) → Dec (o ≤ p) → Before d p o
      go (no h) i j = not (greater (omega arith))
      go (yes h) (no i) j = greater (omega arith)
      go (yes h) (yes i) (yes j) = not (earlier (omega arith) (omega arith))
      go (yes h) (yes i) (no j) = earlier (omega arith) (omega arith)

-- ---- the seen pixels, by position

module _ {A : Type 0} (z : Shape) (f : Plane (Shown A)) where
  pub places_rising : Rising 0 (places z f)
  places_rising = keep_rising _ 0 (upto 0 (z.w * z.h)) (from_rising 0 (z.w * z.h))

  pub places_in : (p : ℕ) → In p (places z f) → p < z.w * z.h
  places_in p i = omega (arith, from_end 0 (z.w * z.h) p (keep_in (λ p. (at z f p).seen) p (upto 0 (z.w * z.h)) i).0)

  pub places_seen : (p : ℕ) → In p (places z f) → (at z f p).seen ≡ true
  places_seen p i = (keep_in (λ p. (at z f p).seen) p (upto 0 (z.w * z.h)) i).1

  pub places_has : (p : ℕ) → p < z.w * z.h → (at z f p).seen ≡ true → In p (places z f)
  places_has p h s = keep_has (λ p. (at z f p).seen) p (upto 0 (z.w * z.h)) (from_in 0 (z.w * z.h) p (omega arith) (omega arith)) s

  pub places_some : (p : ℕ) → p < z.w * z.h → (at z f p).seen ≡ true → 0 < length (places z f)
  places_some p h s = in_some p (places z f) (places_has p h s)

-- ---- the candidates

module _ (z : Shape) (k : Settings) (f : Plane (Shown Rgb)) where
  -- the dark value by position
  abbrev pub darks : ℕ → ℕ
  darks = at z (dark z k.s f)

  -- how many pixels are seen
  abbrev pub seen : ℕ
  seen = length (places z f)

  test : ℕ → Bool
  test p = ltb (rank (places z f) darks p) (m seen k)

  pub candidates_many : m seen k ≤ seen → length (candidates z k f) ≡ m seen k
  unfolding candidates rank test
  candidates_many h =
      keep_length test (places z f)
      ∙ ranked (before darks) (before_never darks) (before_through darks) (before_either darks) 0 (m seen k) (places z f) (places_rising z f) h

  pub candidates_rising : Rising 0 (candidates z k f)
  unfolding candidates
  candidates_rising = keep_rising _ 0 (places z f) (places_rising z f)

  place : (p : ℕ) → In p (candidates z k f) → In p (places z f)
  unfolding candidates
  place p i = (keep_in _ p (places z f) i).0

  pub candidates_in : (p : ℕ) → In p (candidates z k f) → p < z.w * z.h
  candidates_in p i = places_in z f p (place p i)

  pub candidates_seen : (p : ℕ) → In p (candidates z k f) → (at z f p).seen ≡ true
  candidates_seen p i = places_seen z f p (place p i)

  pub candidates_first : (o p : ℕ) → In o (candidates z k f) → p < z.w * z.h → (at z f p).seen ≡ true → (In p (candidates z k f) → ⊥) → Before darks o p
  unfolding candidates rank test
  candidates_first o p i h s n = go (before darks o p) refl
    where
      inside : In p (places z f)
      inside = places_has z f p h s

      kept : In o (places z f) × (test o ≡ true)
      kept = keep_in test o (places z f) i

      low : rank (places z f) darks o < m seen k
      low = ltb-true (rank (places z f) darks o) (m seen k) kept.1

      high : rank (places z f) darks p < m seen k → ⊥
      high l = n (keep_has test p (places z f) inside (lt-ltb (rank (places z f) darks p) (m seen k) l))

      go : (b : Bool) → before darks o p ≡ b → Before darks o p
      go true e = before_is darks o p e
      go false e =
          let differ : o ≡ p → ⊥ = λ s. high (rw (← s) low) in
          let back : before darks p o ≡ true = before_either darks o p differ e in
          absurd (high (let j = ahead_lt (before darks) (before_never darks) (before_through darks) (before_either darks) p o (places z f) inside back in omega (arith, low)))
