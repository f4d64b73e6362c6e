-- Laws of writing: one piece after another, one byte more of a word, the digits of a number. Assumes nothing.
use mathlib.Core.Path.{◌≡◌, refl, sym, ap, ap₂, ◌∙◌}
use mathlib.Core.List.{List, [], ◌∷◌, ◌++◌, append-nil}
use Prim.Native.Nat.{ℕ, zero, suc, ◌+◌, ◌/◌, ◌%◌, ◌^◌, ◌≤◌, ◌<◌}
use native.Mathlib.Nat.{add-zero, pow-succ'}
use native.Mathlib.Decide.{dec_lt}
use native.Mathlib.Omega.{arith}
use lib.ListN.{length, get_or, set, take, drop, length-append, drop_of_length-le}
use lib.Seq.{sets, length-sets, sets-eq, take_at, length-take-le}
use borrow.Author.Tests.{lt-ltb, le-ltb}
use Rattle.fields.specs.Decimal.{decimal_in, decimal}
use Rattle.fields.specs.Written.{Wrote, columns}
use Rattle.fields.proofs.Steps.{step}

-- ---- one piece after another

pub sets_append : (l : List ℕ) (i : ℕ) (a b : List ℕ) → sets l i (a ++ b) ≡ sets (sets l i a) (i + length a) b
sets_append l i [] b = ap (λ (k : ℕ). sets l k b) (sym (add-zero i))
sets_append l i (x ∷ xs) b =
    let e : suc i + length xs ≡ i + suc (length xs) = omega arith in
    sets_append (set l i x) (suc i) xs b ∙ ap (λ (k : ℕ). sets (sets (set l i x) (suc i) xs) k b) e

pub then : {a b l m n : List ℕ} {i j k : ℕ} → Wrote a l i m j → Wrote b m j n k → Wrote (a ++ b) l i n k
then {a} {b} {l} {m} {n} {i} {j} p q =
    record {
      ends = omega (arith, p.ends, q.ends, length-append a b);
      within = let e : length m ≡ length l = ap length p.is ∙ length-sets l i a in omega (arith, q.within);
      is = q.is ∙ ap (λ (x : List ℕ). sets x j b) p.is ∙ ap (λ (k : ℕ). sets (sets l i a) k b) p.ends ∙ sym (sets_append l i a b);
    }

-- the list up to the end of what is written
pub take_sets : (vs l : List ℕ) (i : ℕ) → i + length vs ≤ length l → take (i + length vs) (sets l i vs) ≡ take i l ++ vs
take_sets vs l i h =
    let n : length (take i l ++ vs) ≡ i + length vs = simp length-append (ap (λ (k : ℕ). k + length vs) (length-take-le i l (let z : i ≤ length l = omega arith in z))) in
    ap (take (i + length vs)) (sets-eq vs l i h) ∙ take_at (take i l ++ vs) (drop (i + length vs) l) (i + length vs) n

pub one : (b : ℕ) (l : List ℕ) (i : ℕ) → i < length l → Wrote (b ∷ []) l i (set l i b) (i + 1)
one b l i h = record { ends = refl; within = omega arith; is = refl }

-- ---- a word, byte by byte

module _ (word out : List ℕ) (at i : ℕ) where
  pub word_more : i < length word → sets out (at + i) (drop i word) ≡ sets (set out (at + i) (get_or word i 0)) (at + (i + 1)) (drop (i + 1) word)
  word_more h =
      let e : suc (at + i) ≡ at + (i + 1) = omega arith in
      ap (sets out (at + i)) (step word i 0 h) ∙ ap (λ (k : ℕ). sets (set out (at + i) (get_or word i 0)) k (drop (i + 1) word)) e

  pub word_done : length word ≤ i → sets out (at + i) (drop i word) ≡ out
  word_done h = ap (sets out (at + i)) (drop_of_length-le word h)

-- ---- numbers, each after a tab

module _ (ns : List ℕ) (i : ℕ) where
  pub columns_next : i < length ns → columns (drop i ns) ≡ (9 ∷ decimal (get_or ns i 0)) ++ columns (drop (i + 1) ns)
  columns_next h = ap columns (step ns i 0 h)

  pub columns_length : i < length ns → length (columns (drop i ns)) ≡ 1 + length (decimal (get_or ns i 0)) + length (columns (drop (i + 1) ns))
  columns_length h =
      let a : List ℕ = 9 ∷ decimal (get_or ns i 0) in
      let e : length (a ++ columns (drop (i + 1) ns)) ≡ length a + length (columns (drop (i + 1) ns)) = length-append a (columns (drop (i + 1) ns)) in
      ap length (columns_next h) ∙ (let z : length (a ++ columns (drop (i + 1) ns)) ≡ 1 + length (decimal (get_or ns i 0)) + length (columns (drop (i + 1) ns)) = omega arith in z)

  -- one number more, written
  pub columns_more : (out out' : List ℕ) (at next : ℕ) → i < length ns → Wrote (9 ∷ decimal (get_or ns i 0)) out at out' next
      → sets out at (columns (drop i ns)) ≡ sets out' next (columns (drop (i + 1) ns))
  columns_more out out' at next h w =
      let a : List ℕ = 9 ∷ decimal (get_or ns i 0) in
      ap (sets out at) (columns_next h) ∙ sets_append out at a (columns (drop (i + 1) ns))
      ∙ ap₂ (λ (l : List ℕ) (k : ℕ). sets l k (columns (drop (i + 1) ns))) (sym w.is) (sym w.ends)

-- ---- the digits of a number

small : (f g n : ℕ) → n < 10 → decimal_in (suc f) n ≡ decimal_in (suc g) n
small f g n h = rw (lt-ltb n 10 h)

large : (f g n : ℕ) → (n < 10 → ⊥) → decimal_in f (n / 10) ≡ decimal_in g (n / 10) → decimal_in (suc f) n ≡ decimal_in (suc g) n
large f g n h e = let k : 10 ≤ n = omega arith in rw (le-ltb n 10 k, e)

enough : (f g n : ℕ) → n < f → n < g → decimal_in f n ≡ decimal_in g n
enough zero g n h k = absurd (let z : ⊥ = omega arith in z)
enough (suc f) zero n h k = absurd (let z : ⊥ = omega arith in z)
enough (suc f) (suc g) n h k = go (dec_lt n 10) (λ p q. enough f g (n / 10) p q)
  where
    go : Dec (n < 10) → (n / 10 < f → n / 10 < g → decimal_in f (n / 10) ≡ decimal_in g (n / 10)) → decimal_in (suc f) n ≡ decimal_in (suc g) n
    go (yes s) more = small f g n s
    go (no s) more =
        let p : n / 10 < f = omega arith in
        let q : n / 10 < g = omega arith in
        large f g n s (more p q)

pub digit_one : (n : ℕ) → n < 10 → decimal n ≡ (48 + n) ∷ []
unfolding decimal
digit_one n h = rw (lt-ltb n 10 h)

pub digit_more : (n : ℕ) → 10 ≤ n → decimal n ≡ decimal (n / 10) ++ ((48 + n % 10) ∷ [])
unfolding decimal
digit_more n h =
    let p : n / 10 < n = omega arith in
    let q : n / 10 < suc (n / 10) = omega arith in
    rw (le-ltb n 10 h, enough n (suc (n / 10)) (n / 10) p q)

pub length_one : (n : ℕ) → n < 10 → length (decimal n) ≡ 1
length_one n h = ap length (digit_one n h)

pub length_more : (n : ℕ) → 10 ≤ n → length (decimal n) ≡ length (decimal (n / 10)) + 1
length_more n h = ap length (digit_more n h) ∙ length-append (decimal (n / 10)) ((48 + n % 10) ∷ [])

-- where the digits go
pub ruleset digits_written = (one, digit_one, length_one, length_more)

-- a number below ten has one digit, and ten times the bound is one digit more
pub most : (d n : ℕ) → n < 10 ^ suc d → length (decimal n) ≤ suc d
most zero n h = let e = length_one n h in omega arith
most (suc d) n h = go (dec_lt n 10) (λ k. most d (n / 10) k)
  where
    go : Dec (n < 10) → (n / 10 < 10 ^ suc d → length (decimal (n / 10)) ≤ suc d) → length (decimal n) ≤ suc (suc d)
    go (yes s) more = let e = length_one n s in omega arith
    go (no s) more =
        let k : n / 10 < 10 ^ suc d = omega (arith, pow-succ' 10 (suc d)) in
        let m = more k in
        let e = length_more n (let z : 10 ≤ n = omega arith in z) in
        omega arith

-- what is written over the whole of the memory is all that stands there
pub wrote_all : {bytes out out' : List ℕ} {end : ℕ} → Wrote bytes out 0 out' end → length bytes ≡ length out → out' ≡ bytes
wrote_all {bytes} {out} w e =
    w.is ∙ sets-eq bytes out 0 (let z : 0 + length bytes ≤ length out = omega arith in z)
    ∙ ap (λ (l : List ℕ). bytes ++ l) (drop_of_length-le out (let z : length out ≤ 0 + length bytes = omega arith in z)) ∙ append-nil bytes

-- no second output and no second end meet the promise of a writer
pub wrote_one : (bytes out : List ℕ) (at : ℕ) (out' out'' : List ℕ) (end end' : ℕ) → Wrote bytes out at out' end → Wrote bytes out at out'' end' → (out' ≡ out'') × (end ≡ end')
wrote_one bytes out at out' out'' end end' p q = (cc, cc)
