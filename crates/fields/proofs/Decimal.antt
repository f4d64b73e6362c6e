-- A number that is written is read back: its digits are digits, few enough, and their value is the number. What is known of a number that may be read. Assumes nothing.
use mathlib.Core.Path.{◌≡◌, refl, ap, ◌∙◌}
use mathlib.Core.Bool.{true}
use mathlib.Core.List.{List, [], ◌∷◌, ◌++◌}
use Prim.Native.Nat.{ℕ, zero, suc, ◌+◌, ◌-◌, ◌*◌, ◌/◌, ◌%◌, ◌≤◌, ◌<◌}
use native.Mathlib.Decide.{dec_lt}
use native.Mathlib.Omega.{arith}
use lib.ListN.{length}
use borrow.Author.Tests.{le-leb}
use Rattle.fields.specs.Decimal.{digit, digits, figured, led, numeral, value_from, decimal}
use Rattle.fields.proofs.Every.{both, every_append, up_to_is, up_to_some, up_to_most, up_to_every}
use Rattle.fields.proofs.Written.{digit_one, digit_more, length_one, length_more, most}

-- ---- a list in two parts

pub value_append : (v : ℕ) (a b : List ℕ) → value_from v (a ++ b) ≡ value_from (value_from v a) b
value_append v [] b = refl
value_append v (x ∷ a) b = value_append (10 * v + (x - 48)) a b

-- ---- what holds below ten, and of a number where it holds of its tenth, holds of every number

module _ (P : ℕ → Type 0) (one : (n : ℕ) → n < 10 → P n) (more : (n : ℕ) → 10 ≤ n → P (n / 10) → P n) where
  below : (f n : ℕ) → n < f → P n
  below zero n h = absurd (let z : ⊥ = omega arith in z)
  below (suc f) n h = go (dec_lt n 10) (below f (n / 10))
    where
      go : Dec (n < 10) → (n / 10 < f → P (n / 10)) → P n
      go (yes s) tenth = one n s
      go (no s) tenth = more n (omega arith) (tenth (omega arith))

  by_tenths : (n : ℕ) → P n
  by_tenths n = below (suc n) n (omega arith)

-- ---- what is written

a_digit : (n : ℕ) → n < 10 → digit (48 + n) ≡ true
a_digit n h = rw (le-leb 48 (48 + n) (omega arith), le-leb (48 + n) 57 (omega arith))

pub value_decimal : (n : ℕ) → value_from 0 (decimal n) ≡ n
value_decimal = by_tenths (λ n. value_from 0 (decimal n) ≡ n) one more
  where
    one : (n : ℕ) → n < 10 → value_from 0 (decimal n) ≡ n
    one n h = ap (value_from 0) (digit_one n h) ∙ (let z : 10 * 0 + (48 + n - 48) ≡ n = omega arith in z)

    more : (n : ℕ) → 10 ≤ n → value_from 0 (decimal (n / 10)) ≡ n / 10 → value_from 0 (decimal n) ≡ n
    more n h e =
        ap (value_from 0) (digit_more n h) ∙ value_append 0 (decimal (n / 10)) ((48 + n % 10) ∷ [])
        ∙ (let z : 10 * value_from 0 (decimal (n / 10)) + (48 + n % 10 - 48) ≡ n = omega arith in z)

pub digits_decimal : (n : ℕ) → digits (decimal n) ≡ true
digits_decimal = by_tenths (λ n. digits (decimal n) ≡ true) one more
  where
    one : (n : ℕ) → n < 10 → digits (decimal n) ≡ true
    one n h = ap digits (digit_one n h) ∙ rw (a_digit n h)

    more : (n : ℕ) → 10 ≤ n → digits (decimal (n / 10)) ≡ true → digits (decimal n) ≡ true
    more n h e =
        ap digits (digit_more n h) ∙ every_append digit (decimal (n / 10)) ((48 + n % 10) ∷ []) ∙ rw (e, a_digit (n % 10) (omega arith))

pub some_decimal : (n : ℕ) → 0 < length (decimal n)
some_decimal = by_tenths (λ n. 0 < length (decimal n)) (λ n h. omega (arith, length_one n h)) (λ n h e. omega (arith, length_more n h))

-- 6 digits are the most that is read
pub figured_decimal : (n : ℕ) → n < 1000000 → figured (decimal n) ≡ true
unfolding figured
figured_decimal n h = up_to_is 6 digit (decimal n) (some_decimal n) (most 5 n h) ∙ digits_decimal n

-- ---- what is known of a number that may be read

module _ (s : List ℕ) where
  module _ (e : figured s ≡ true) where
    pub figured_some : 0 < length s
    unfolding figured
    figured_some = up_to_some 6 digit s e

    pub figured_most : length s ≤ 6
    unfolding figured
    figured_most = up_to_most 6 digit s e

    pub figured_digits : digits s ≡ true
    unfolding figured
    figured_digits = up_to_every 6 digit s e

  module _ (e : numeral s ≡ true) where
    numeral_tests : (led s ≡ true) × (figured s ≡ true)
    unfolding numeral
    numeral_tests = both (led s) (figured s) e

    pub numeral_most : length s ≤ 6
    numeral_most = figured_most numeral_tests.1

    pub numeral_led : led s ≡ true
    numeral_led = numeral_tests.0

    pub numeral_digits : digits s ≡ true
    numeral_digits = figured_digits numeral_tests.1
