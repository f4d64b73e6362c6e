-- Haze and Clear, one byte there and back: a clean byte that is hazed at transmission t and cleared at the same t and light comes back at a
-- distance D from itself with t·(2·D − 1) at most 10,000 (`back`). Half a level is lost in the haze, and grows by 10,000 / t; half a level is
-- lost in the clearing; holding only brings nearer. Bytes come within 20 of it (`met`). Assumes nothing.
use mathlib.Core.Path.{◌≡◌, refl, ap}
use Prim.Native.Nat.{ℕ, zero, suc, ◌+◌, ◌-◌, ◌*◌, ◌/◌, min, max, ◌≤◌, ◌<◌}
use native.Mathlib.Nat.{mul-le-mul_left}
use native.Mathlib.Decide.{dec_le}
use native.Mathlib.Omega.{arith}
use Rattle.rules.specs.Picture.{haze, rounded, recover}
use Rattle.rules.proofs.Integers.{distance}
use Rattle.rules.proofs.Nearest.{Half, half}
use Rattle.rules.proofs.Recover.{recover_up, recover_down}

-- r is close to j
record Close (t r j : ℕ) : Type 0 where
  above : 2 * (t * r) ≤ 2 * (t * j) + 10000 + t
  below : 2 * (t * j) ≤ 2 * (t * r) + 10000 + t

-- holding it at 255 moves it nearer to a byte
close_min : (t r j : ℕ) → j ≤ 255 → Close t r j → Close t (min r 255) j
close_min t r j h c = go (dec_le r 255)
  where
    go : Dec (r ≤ 255) → Close t (min r 255) j
    go (yes l) = let e : min r 255 ≡ r = omega arith in rw e c
    go (no l) =
        let e : min r 255 ≡ 255 = omega arith in
        let up = mul-le-mul_left {m = 255} {n = r} t (omega arith) in
        let low = mul-le-mul_left {m = j} {n = 255} t h in
        rw e (record { above = omega arith; below = omega arith })

gap : (t r d : ℕ) → 2 * (t * (r + d)) ≤ 2 * (t * r) + 10000 + t → 2 * (t * d) ≤ 10000 + t
gap t r d h = omega arith

close_bound : (t r j : ℕ) → Close t r j → 2 * (t * distance r j) ≤ 10000 + t
close_bound t r j c = go (dec_le r j)
  where
    go : Dec (r ≤ j) → 2 * (t * ((r - j) + (j - r))) ≤ 10000 + t
    go (yes l) =
        let e : (r - j) + (j - r) ≡ j - r = omega arith in
        let f : r + (j - r) ≡ j = omega arith in
        rw e (gap t r (j - r) (rw f c.below))
    go (no l) =
        let e : (r - j) + (j - r) ≡ r - j = omega arith in
        let f : j + (r - j) ≡ r = omega arith in
        rw e (gap t j (r - j) (rw f c.above))

-- the two roundings, over plain numbers: s is 10,000 - t, i the hazed byte, d its distance from the light, q the quotient
module _ (a j t s i d q : ℕ) (k : a * (t + s) ≡ a * 10000) (e : i ≡ (j * t + a * s + 5000) / 10000) (h : Half (d * 10000) t q) where
  pure_up : i ≡ a + d → Close t (a + q) j
  pure_up f = let low = h.most in let high = h.least in record { above = omega arith; below = omega arith }

  pure_down : (r : ℕ) → a ≡ i + d → a ≡ r + q → Close t r j
  pure_down r f g =
      let w = ap (λ (n : ℕ). t * n) g in
      let low = h.most in
      let high = h.least in
      record { above = omega arith; below = omega arith }

  pure_under : a ≡ i + d → a ≤ q → Close t 0 j
  pure_under f g =
      let w = mul-le-mul_left {m = a} {n = q} t g in
      let low = h.most in
      record { above = omega arith; below = omega arith }

module _ (a j t : ℕ) (byte : j ≤ 255) (some : 0 < t) (most : t ≤ 10000) where
  whole : a * (t + (10000 - t)) ≡ a * 10000
  whole = let e : t + (10000 - t) ≡ 10000 = omega arith in rw e

  near_up : a ≤ haze a j t → Close t (a + rounded ((haze a j t - a) * 10000) t) j
  near_up h =
      let d : ℕ = haze a j t - a in
      pure_up a j t (10000 - t) (haze a j t) d (rounded (d * 10000) t) whole refl (half (d * 10000) t some) (omega arith)

  near_down : haze a j t < a → Close t (a - rounded ((a - haze a j t) * 10000) t) j
  near_down h = go (dec_le q a)
    where
      d : ℕ
      d = a - haze a j t

      q : ℕ
      q = rounded (d * 10000) t

      go : Dec (q ≤ a) → Close t (a - q) j
      go (yes l) = pure_down a j t (10000 - t) (haze a j t) d q whole refl (half (d * 10000) t some) (a - q) (omega arith) (omega arith)
      go (no l) =
          let e : a - q ≡ 0 = omega arith in
          rw e (pure_under a j t (10000 - t) (haze a j t) d q whole refl (half (d * 10000) t some) (omega arith) (omega arith))

  -- the bound with its 1 taken to the other side, where no difference can be cut off
  pub within : 2 * (t * distance (recover a (haze a j t) t) j) ≤ 10000 + t
  within = go (dec_le a (haze a j t))
    where
      go : Dec (a ≤ haze a j t) → 2 * (t * distance (recover a (haze a j t) t) j) ≤ 10000 + t
      go (yes h) = rw (recover_up a (haze a j t) t h) (close_bound t _ j (close_min t _ j byte (near_up h)))
      go (no h) =
          let l : haze a j t < a = omega arith in
          rw (recover_down a (haze a j t) t l) (close_bound t _ j (close_min t _ j byte (near_down l)))

-- how far from j the byte comes back that is hazed at transmission t and cleared where the map has t and the floor is t0
abbrev pub astray : ℕ → ℕ → ℕ → ℕ → ℕ
astray a j t t0 = distance (recover a (haze a j t) (max t t0)) j

less : (t d : ℕ) → 2 * (t * d) ≤ 10000 + t → t * (2 * d - 1) ≤ 10000
less t zero h = omega arith
less t (suc d) h = let e : 2 * suc d - 1 ≡ 2 * d + 1 = omega arith in rw e (omega arith)

pub back : (a j t t0 : ℕ) → j ≤ 255 → 0 < t0 → t0 ≤ t → t ≤ 10000 → t * (2 * astray a j t t0 - 1) ≤ 10000
back a j t t0 byte some above most =
    let e : max t t0 ≡ t = omega arith in
    rw e (less t (distance (recover a (haze a j t) t) j) (within a j t byte (omega arith) most))

-- byte 249 under light 1 at 0.1996 comes back as 252: a bound below 9,980 is wrong, and at this t no distance beyond 3 is allowed
pub met : 1996 * (2 * astray 1 249 1996 1000 - 1) ≡ 9980
unfolding recover
met = refl

-- `back` asks nothing of the light. Where that is not held to a byte, a bound below 9,999 is wrong
pub met_wide : 9999 * (2 * astray 5000 0 9999 1000 - 1) ≡ 9999
unfolding recover
met_wide = refl
