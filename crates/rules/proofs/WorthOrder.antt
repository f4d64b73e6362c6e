-- Order and choice of fractions by what they are worth: p < q and p ≤ q from the naturals, and the smaller and the larger of two by cases.
-- Assumes nothing.
use mathlib.Core.Path.{◌≡◌, refl, ap}
use mathlib.Core.Bool.{Bool, true, false, cond}
use Prim.Native.Nat.{ℕ, ◌+◌, ◌*◌, ◌≤◌, ◌<◌}
use native.Mathlib.Nat.{mul-pos, mul-le-mul_left, mul-lt-mul_of_pos_left, lt_of_mul-lt-mul_left, le_of_mul-le-mul_left}
use native.Mathlib.Omega.{arith}
use lib.IntN.{pos}
use lib.Signed.{lt_z}
use Rattle.rules.specs.Fraction.{Fraction, cross, ◌<ᶠ◌, ◌≤ᶠ◌, smaller, larger}
use Rattle.rules.proofs.Signs.{up, down, times_is, lt_is, le_is, test_yes, test_no}
use Rattle.rules.proofs.Worth.{Worth}

-- over plain numbers, there and back
module _ (u d b u' d' b' x y x' y' D : ℕ) (some : 0 < b * b') (h : u * D + y * b ≡ x * b + d * D) (h' : u' * D + y' * b' ≡ x' * b' + d' * D) where
  -- both sides by D, and by b·b'
  both : D * (u * b' + d' * b) + b * b' * (x' + y) ≡ b * b' * (x + y') + D * (u' * b + d * b')
  both = omega (arith, ap (λ (n : ℕ). n * b') h, ap (λ (n : ℕ). n * b) h')

  plain_lt : x + y' < x' + y → u * b' + d' * b < u' * b + d * b'
  plain_lt l = lt_of_mul-lt-mul_left D (omega (arith, both, mul-lt-mul_of_pos_left {k = b * b'} l some))

  plain_le : 0 < D → x + y' ≤ x' + y → u * b' + d' * b ≤ u' * b + d * b'
  plain_le c l = le_of_mul-le-mul_left {k = D} (omega (arith, both, mul-le-mul_left (b * b') l)) c

  back_lt : 0 < D → u * b' + d' * b < u' * b + d * b' → x + y' < x' + y
  back_lt c l = lt_of_mul-lt-mul_left (b * b') (omega (arith, both, mul-lt-mul_of_pos_left {k = D} l c))

  back_le : u * b' + d' * b ≤ u' * b + d * b' → x + y' ≤ x' + y
  back_le l = le_of_mul-le-mul_left {k = b * b'} (omega (arith, both, mul-le-mul_left D l)) some

-- what an order compares
crossed : (p q : Fraction) → up (cross p q) + down p.top * q.bottom ≡ up p.top * q.bottom + down (cross p q)
crossed p q = omega (arith, times_is p.top (pos q.bottom))

module _ {p q : Fraction} {x y x' y' D : ℕ} (c : 0 < D) (w : Worth p x y D) (v : Worth q x' y' D) where
  pub lt_worth : x + y' < x' + y → p <ᶠ q
  lt_worth l =
      let h = plain_lt _ _ _ _ _ _ x y x' y' D (mul-pos w.some v.some) w.same v.same l in
      lt_is (cross p q) (cross q p) (omega (arith, crossed p q, crossed q p, h))

  pub le_worth : x + y' ≤ x' + y → p ≤ᶠ q
  le_worth l =
      let h = plain_le _ _ _ _ _ _ x y x' y' D (mul-pos w.some v.some) w.same v.same c l in
      le_is (cross p q) (cross q p) (omega (arith, crossed p q, crossed q p, h))

  -- a test of order, by cases
  worth_yes : lt_z (cross p q) (cross q p) ≡ true → x + y' < x' + y
  worth_yes e =
      back_lt _ _ _ _ _ _ x y x' y' D (mul-pos w.some v.some) w.same v.same c
      (omega (arith, crossed p q, crossed q p, test_yes (cross p q) (cross q p) e))

  worth_no : lt_z (cross p q) (cross q p) ≡ false → x' + y ≤ x + y'
  worth_no e =
      back_le _ _ _ _ _ _ x' y' x y D (mul-pos v.some w.some) v.same w.same
      (omega (arith, crossed p q, crossed q p, test_no (cross p q) (cross q p) e))

  tested : (P : Fraction → Type 0) (a b : Fraction) → (x + y' < x' + y → P a) → (x' + y ≤ x + y' → P b) → P (cond (lt_z (cross p q) (cross q p)) a b)
  tested P a b f g = go (lt_z (cross p q) (cross q p)) refl
    where
      go : (t : Bool) → lt_z (cross p q) (cross q p) ≡ t → P (cond t a b)
      go true e = f (worth_yes e)
      go false e = g (worth_no e)

-- the larger and the smaller of two
module _ {p q : Fraction} {x y x' y' D : ℕ} (c : 0 < D) (w : Worth p x y D) (v : Worth q x' y' D) (P : Fraction → Type 0) where
  pub larger_is : (x' + y ≤ x + y' → P p) → (x + y' < x' + y → P q) → P (larger p q)
  unfolding larger
  larger_is f g = tested c w v P q p g f

  pub smaller_is : (x + y' ≤ x' + y → P p) → (x' + y < x + y' → P q) → P (smaller p q)
  unfolding smaller
  smaller_is f g = tested c v w P q p g f
