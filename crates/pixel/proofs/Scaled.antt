-- A quotient by way of a scale: where many are divided by one number, one division makes the scale, and each quotient is then a product cut to
-- whole parts, and exact (`over_exact`). Assumes nothing.
use mathlib.Core.Path.{◌≡◌, sym, ap, ◌∙◌}
use mathlib.Core.Bool.{Bool, true, false, cond}
use Prim.Native.Nat.{ℕ, zero, suc, ◌+◌, ◌-◌, ◌*◌, ◌/◌, ◌%◌, ◌^◌, ◌≤◌, ◌<◌, min, max}
use native.Mathlib.Nat.{add-zero, mul-one, mul-le-mul, mul-le-mul_left, mul-le-mul_right, le_of_mul-le-mul_left, lt_of_mul-lt-mul_left, mul-div-le, div-mul-le_self, lt-mul-div-succ, lt-div-mul-add, div-eq_of_lt-le}
use native.Mathlib.Decide.{dec_le}
use native.Mathlib.Omega.{arith}
use borrow.Author.Tests.{ltb-true, ltb-false}
use lib.Dec.{ltb}
use lib.IntN.{pos, ◌+ℤ◌, ◌-ℤ◌, +ℤ_idl}
use Rattle.rules.specs.Transmission.{held}
use Rattle.rules.specs.Picture.{rounded, recover}
use Rattle.rules.proofs.Integers.{pos_sub, dif_eq}
use Rattle.rules.proofs.Nearest.{half, rounded_le}
use Rattle.rules.proofs.Recover.{recover_up, recover_down}
use Rattle.pixel.specs.Over.{Over, parts}

pub over : (N d B : ℕ) → 0 < d → Over N d B (B * N / d + 1)
over N d B h = record { least = omega (arith, lt-mul-div-succ (B * N) h); most = omega (arith, mul-div-le (B * N) d) }

-- x times N / d, rounded down, while x * d is below B. What is added before the cut is the same on both sides: c / B is h / d
pub over_exact :
    (N d B M x c h : ℕ) → 0 < d → Over N d B M → x * d < B → c * d ≡ h * B → (x * M + c) / B ≡ (x * N + h) / d
over_exact N d B M x c h some o few same =
    let q = (x * N + h) / d in
    let least = mul-le-mul_left B (mul-div-le (x * N + h) d) in
    let most = mul-le-mul_left B (lt-mul-div-succ (x * N + h) some) in
    let low : q * B ≤ x * M + c = le_of_mul-le-mul_left {k = d} (omega (arith, least, mul-le-mul_left x o.least)) some in
    let high : x * M + c < (q + 1) * B = lt_of_mul-lt-mul_left d (omega (arith, most, mul-le-mul_left x o.most)) in
    div-eq_of_lt-le B low high

pub over_whole : (N d B M x : ℕ) → 0 < d → Over N d B M → x * d < B → x * M / B ≡ x * N / d
over_whole N d B M x some o few =
    let none : 0 * d ≡ 0 * B = omega arith in
    let e = over_exact N d B M x 0 0 some o few none in
    rw (add-zero (x * M), add-zero (x * N)) at e

-- and to the nearest, halves up: c and h are the halves of B and d
pub over_rounded :
    (N d B M x : ℕ) → 0 < d → Over N d (2 * B) M → x * d < B → (x * M + B) / (2 * B) ≡ rounded (x * N) d
over_rounded N d B M x some o few =
    let e : x * (2 * N) + d ≡ 2 * (x * N) + d = omega arith in
    let both : Over (2 * N) (2 * d) (2 * B) M = record { least = omega (arith, o.least); most = omega (arith, o.most) } in
    over_exact (2 * N) (2 * d) (2 * B) M x B d (omega arith) both (omega arith) (omega arith) ∙ ap (λ (n : ℕ). n / (2 * d)) e

-- ---- by a reciprocal of n: x / n for x to 2^17 n

module _ (n M : ℕ) (some : 0 < n) (few : n ≤ 14641) (o : Over 1 n parts M) where
  pub inverse_fits : (x : ℕ) → x ≤ 131072 * n → x * M < 2 ^ 64
  inverse_fits x le = omega (arith, mul-le-mul_right M le, o.most, few)

  pub inverse_is : (x : ℕ) → x ≤ 131072 * n → x * M / parts ≡ x / n
  inverse_is x le =
      let nn : n * n ≤ 214358881 = mul-le-mul few few in
      let e = over_whole 1 n parts M x some o (omega (arith, mul-le-mul_right n le, nn)) in
      rw mul-one at e

-- long division by two digits, the lower of 17 bits: q is the upper digit's quotient, and the lower is of what is left
module _ (y n : ℕ) (some : 0 < n) where
  abbrev high : ℕ
  high = y / 131072

  abbrev q : ℕ
  q = high / n

  pub left_le : q * n ≤ high
  left_le = div-mul-le_self high n

  pub low_lt : (high - q * n) * 131072 + y % 131072 < 131072 * n
  low_lt = omega (arith, lt-div-mul-add {a = high} some, left_le)

  pub long : q * 131072 + ((high - q * n) * 131072 + y % 131072) / n ≡ y / n
  long =
      let low = (high - q * n) * 131072 + y % 131072 in
      let is : q * n * 131072 + low ≡ y = omega (arith, left_le) in
      let least = div-mul-le_self low n in
      let most = lt-div-mul-add {a = low} some in
      sym (div-eq_of_lt-le n (omega (arith, is, least)) (omega (arith, is, most)))

-- ---- the recovery: how far from the light a byte at distance d comes to be. All that is past 255 is one to it

-- to 39, each level becomes 256 and more
past : (d t : ℕ) → 0 < t → t ≤ 39 → min (rounded (d * 10000) t) 256 ≡ min (d * 256) 256
past zero t some few = omega (arith, rounded_le 0 t some)
past (suc d) t some few =
    let q = rounded (suc d * 10000) t in
    let l = (half (suc d * 10000) t some).least in
    omega (arith, mul-le-mul_right q few)

stretch_is :
    (d t M : ℕ) → d ≤ 255 → 0 < t → t ≤ 10000 → Over 10000 (max t 39) 8388608 M
    → min ((d * M + 4194304) / 8388608) 256 ≡ min (rounded (d * 10000) t) 256
stretch_is d t M near some few o = go (dec_le 39 t)
  where
    exact : (u : ℕ) → 39 ≤ u → u ≤ 10000 → max t 39 ≡ u → (d * M + 4194304) / 8388608 ≡ rounded (d * 10000) u
    exact u low high e = over_rounded 10000 u 4194304 M d (omega arith) (rw e at o) (omega (arith, mul-le-mul_right u near))

    go : Dec (39 ≤ t) → min ((d * M + 4194304) / 8388608) 256 ≡ min (rounded (d * 10000) t) 256
    go (yes h) = ap (λ (q : ℕ). min q 256) (exact t h few (omega arith))
    go (no h) =
        let l : t ≤ 39 = omega arith in
        let e : max t 39 ≡ 39 = omega arith in
        ap (λ (q : ℕ). min q 256) (exact 39 (omega arith) (omega arith) e) ∙ past d 39 (omega arith) (omega arith) ∙ sym (past d t some l)

held_less : (a q : ℕ) → held 255 (pos a -ℤ pos q) ≡ min (a - q) 255
held_less a q = go (dec_le q a)
  where
    go : Dec (q ≤ a) → held 255 (pos a -ℤ pos q) ≡ min (a - q) 255
    go (yes h) = rw (pos_sub a q h)
    go (no h) =
        let none : 0 ≡ min (a - q) 255 = omega arith in
        rw (dif_eq a q 0 (suc (q - a - 1)) (omega arith), +ℤ_idl) none

less_same : (a q r : ℕ) → a ≤ 255 → min q 256 ≡ min r 256 → min (a - q) 255 ≡ min (a - r) 255
less_same a q r byte e = omega arith

more_same : (a q r : ℕ) → min q 256 ≡ min r 256 → min (a + q) 255 ≡ min (a + r) 255
more_same a q r e = omega arith

-- so the light with that taken from it where the byte is less, else added, comes to be what the rules say
module _ (a i t M : ℕ) (light : a ≤ 255) (byte : i ≤ 255) (some : 0 < t) (few : t ≤ 10000) (o : Over 10000 (max t 39) 8388608 M) where
  abbrev far : ℕ
  far = ((a - i + (i - a)) * M + 4194304) / 8388608

  pub recovered_is : (less : Bool) → ltb i a ≡ less → held 255 (cond less (pos a -ℤ pos far) (pos a +ℤ pos far)) ≡ recover a i t
  recovered_is true e =
      let less = ltb-true i a e in
      let d : a - i + (i - a) ≡ a - i = omega arith in
      let same = stretch_is (a - i) t M (omega arith) some few o in
      rw d (held_less a _ ∙ less_same a _ _ light same ∙ sym (recover_down a i t less))
  recovered_is false e =
      let more : a ≤ i = omega (arith, ltb-false i a e) in
      let d : a - i + (i - a) ≡ i - a = omega arith in
      let same = stretch_is (i - a) t M (omega arith) some few o in
      rw d (more_same a _ _ same ∙ sym (recover_up a i t more))
