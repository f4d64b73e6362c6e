-- The recovery in naturals, by which of byte and light is larger; at a transmission of 10,000 it changes nothing (`recover_whole`). Assumes nothing.
use mathlib.Core.Path.{◌≡◌, refl, sym}
use Prim.Native.Nat.{ℕ, zero, suc, ◌-◌, ◌+◌, ◌*◌, min, ◌≤◌, ◌<◌}
use native.Mathlib.Decide.{dec_le}
use native.Mathlib.Omega.{arith}
use lib.IntN.{pos, neg_ℤ, ◌-ℤ◌}
use Rattle.rules.specs.Transmission.{held}
use Rattle.rules.specs.Picture.{rounded, recover}
use Rattle.rules.proofs.Integers.{pos_sub, dif_neg, neg_times}
use Rattle.rules.proofs.Nearest.{nearest_neg}

pub recover_up : (a i t : ℕ) → a ≤ i → recover a i t ≡ min (a + rounded ((i - a) * 10000) t) 255
unfolding recover
recover_up a i t h = rw (pos_sub i a h)

minus_lt : (a b : ℕ) → a < b → pos a -ℤ pos b ≡ neg_ℤ (pos (b - a))
minus_lt a b h = let l : a ≤ b = omega arith in rw (sym (dif_neg b a), pos_sub b a l)

held_neg : (d : ℕ) → held 255 (neg_ℤ (pos d)) ≡ 0
held_neg zero = refl
held_neg (suc d) = refl

held_minus : (a q : ℕ) → held 255 (pos a -ℤ pos q) ≡ min (a - q) 255
held_minus a q = go (dec_le q a)
  where
    go : Dec (q ≤ a) → held 255 (pos a -ℤ pos q) ≡ min (a - q) 255
    go (yes h) = rw (pos_sub a q h)
    go (no h) = let l : a < q = omega arith in rw (minus_lt a q l, held_neg (q - a)) (omega arith)

pub recover_down : (a i t : ℕ) → i < a → recover a i t ≡ min (a - rounded ((a - i) * 10000) t) 255
unfolding recover
recover_down a i t h = rw (minus_lt i a h, neg_times (pos (a - i)) 10000, nearest_neg (pos ((a - i) * 10000)) t) (held_minus a (rounded ((a - i) * 10000) t))

-- at a transmission of 10,000 a byte is recovered as itself
pub recover_whole : (a i : ℕ) → i ≤ 255 → recover a i 10000 ≡ i
recover_whole a i h = go (dec_le a i)
  where
    whole : (d : ℕ) → rounded (d * 10000) 10000 ≡ d
    whole d = omega arith

    go : Dec (a ≤ i) → recover a i 10000 ≡ i
    go (yes l) = let e = whole (i - a) in rw (recover_up a i 10000 l) (omega (arith, e))
    go (no l) = let e = whole (a - i) in rw (recover_down a i 10000 (omega arith)) (omega (arith, e))
