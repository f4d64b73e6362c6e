-- A fraction and a whole number that are near one another stay so where both are held into 0..n (`worth_hold`). Assumes nothing.
use mathlib.Core.Path.{◌≡◌, refl}
use Prim.Native.Nat.{ℕ, ◌+◌, ◌*◌, min, ◌≤◌, ◌<◌}
use native.Mathlib.Decide.{dec_le}
use native.Mathlib.Nat.{mul-pos, mul-le-mul_left}
use native.Mathlib.Omega.{arith}
use lib.IntN.{ℤ, pos, negsuc}
use Rattle.rules.specs.Transmission.{held}
use Rattle.rules.specs.Fraction.{Fraction, whole, larger, heldᶠ}
use Rattle.rules.proofs.Signs.{up, down}
use Rattle.rules.proofs.Worth.{Worth, worth_as, worth_over}
use Rattle.rules.proofs.WorthOrder.{smaller_is, larger_is}

-- near: r is at least k below E + s/m, and E at least k below r + s'/m, all times D·m

pub record Held (r : Fraction) (E D m s s' k : ℕ) : Type 0 where
  pub x : ℕ
  pub y : ℕ
  pub worth : Worth r x y D
  pub low : x * m + k ≤ y * m + D * m * E + s * D
  pub high : D * m * E + y * m + k ≤ x * m + s' * D

-- what holding does to a whole number: it stays at least as large, or becomes n; at most as large, or becomes 0
data Above (n E u d : ℕ) : Type 0 where
  over : u ≤ E + d → Above n E u d
  full : E ≡ n → Above n E u d

data Below (E u d : ℕ) : Type 0 where
  under : E + d ≤ u → Below E u d
  empty : E ≡ 0 → Below E u d

above : (n : ℕ) (v : ℤ) → Above n (held n v) (up v) (down v)
above n (pos w) = go (dec_le w n)
  where
    go : Dec (w ≤ n) → Above n (min w n) w 0
    go (yes h) = over (omega arith)
    go (no h) = full (omega arith)
above n (negsuc w) = over (omega arith)

below : (n : ℕ) (v : ℤ) → Below (held n v) (up v) (down v)
below n (pos w) = under (omega arith)
below n (negsuc w) = empty refl

held_le : (n : ℕ) (v : ℤ) → held n v ≤ n
held_le n (pos w) = omega arith
held_le n (negsuc w) = omega arith

module _ (n E D m s s' k u d x y : ℕ) where
  low_of :
      Above n E u d
      → k ≤ s * D
      → x * m + D * m * d + k ≤ y * m + D * m * u + s * D
      → (X Y : ℕ)
      → X + y ≤ x + Y
      → X ≤ n * D + Y
      → X * m + k ≤ Y * m + D * m * E + s * D
  low_of (over h) hk lo X Y a b = let c = mul-le-mul_left (D * m) h in let e = mul-le-mul_left m a in omega arith
  low_of (full h) hk lo X Y a b = let c = mul-le-mul_left m b in rw h (omega arith)

  high_of :
      Below E u d
      → k ≤ s' * D
      → D * m * u + y * m + k ≤ x * m + D * m * d + s' * D
      → (X Y : ℕ)
      → x + Y ≤ X + y
      → Y ≤ X
      → D * m * E + Y * m + k ≤ X * m + s' * D
  high_of (under h) hk hi X Y a b = let c = mul-le-mul_left (D * m) h in let e = mul-le-mul_left m a in omega arith
  high_of (empty h) hk hi X Y a b = let c = mul-le-mul_left m b in rw h (omega arith)

pub worth_hold : {p : Fraction} {x y : ℕ} (n D m s s' k : ℕ) (v : ℤ) → 0 < n → 0 < D → k ≤ s * D → k ≤ s' * D → Worth p x y D
    → x * m + D * m * down v + k ≤ y * m + D * m * up v + s * D → D * m * up v + y * m + k ≤ x * m + D * m * down v + s' * D
    → Held (heldᶠ n p) (held n v) D m s s' k
worth_hold {p} {x} {y} n D m s s' k v hn hD hs hs' w lo hi =
    smaller_is hD (worth_over n D) w (λ r. Held (larger (whole 0) r) (held n v) D m s s' k)
    (λ h. larger_is hD zeros (worth_over n D) (λ r. Held r (held n v) D m s s' k) (λ l. absurd (omega (arith, mul-pos hn hD))) (λ l. most h))
    (λ h. larger_is hD zeros w (λ r. Held r (held n v) D m s s' k) (λ l. least (omega arith)) (λ l. middle h (omega arith)))
  where
    zeros : Worth (whole 0) 0 0 D
    zeros = worth_as 0 0 D (worth_over 0 D) (omega arith) refl

    lowest : (X Y : ℕ) → X + y ≤ x + Y → X ≤ n * D + Y → X * m + k ≤ Y * m + D * m * held n v + s * D
    lowest = low_of n (held n v) D m s s' k (up v) (down v) x y (above n v) hs lo

    highest : (X Y : ℕ) → x + Y ≤ X + y → Y ≤ X → D * m * held n v + Y * m + k ≤ X * m + s' * D
    highest = high_of n (held n v) D m s s' k (up v) (down v) x y (below n v) hs' hi

    most : n * D + y ≤ x + 0 → Held (whole n) (held n v) D m s s' k
    most h = record { x = n * D; y = 0; worth = worth_over n D; low = lowest (n * D) 0 h (omega arith); high = let c = mul-le-mul_left (D * m) (held_le n v) in omega (arith, c, hs') }

    least : x ≤ y → Held (whole 0) (held n v) D m s s' k
    least h = record { x = 0; y = 0; worth = zeros; low = omega (arith, hs); high = highest 0 0 (omega arith) (omega arith) }

    middle : x + 0 < n * D + y → y < x → Held p (held n v) D m s s' k
    middle h l = record { x = x; y = y; worth = w; low = lowest x y (omega arith) (omega arith); high = highest x y (omega arith) (omega arith) }
