-- A cleared byte is at most half a level from equation 20 in exact arithmetic, held into 0..255 as it is (`recover_off`), a hazed one at most half a
-- level from equation 4 (`haze_off`). Assumes nothing.
use mathlib.Core.Path.{◌≡◌, refl, ap}
use Prim.Native.Nat.{ℕ, ◌+◌, ◌-◌, ◌*◌, ◌/◌, ◌≤◌, ◌<◌}
use native.Mathlib.Nat.{mul-div-le, lt-mul-div-succ}
use native.Mathlib.Omega.{arith}
use lib.IntN.{ℤ, pos, ◌+ℤ◌, ◌-ℤ◌, ◌*ℤ◌}
use Rattle.rules.specs.Picture.{nearest, recover, haze}
use Rattle.rules.specs.Fraction.{Fraction, heldᶠ, Beside}
use Rattle.rules.specs.Exact.{recoverᶠ, hazeᶠ, half}
use Rattle.rules.proofs.Nearest.{nearest_is}
use Rattle.rules.proofs.Signs.{up, down, plus_is, minus_is, times_is, size_is}
use Rattle.rules.proofs.Worth.{Worth, worth_as, worth_scale, worth_whole, worth_over, worth_part, worth_add, worth_sub, worth_mul, worth_div}
use Rattle.rules.proofs.WorthOrder.{le_worth}
use Rattle.rules.proofs.WorthHeld.{Held, worth_hold}

-- ---- equation 20

beside : (n D : ℕ) (p : Fraction) → 0 < D → Held p n D 2 1 1 0 → Beside half n p
beside n D p hD h =
    let lo = h.low in
    let hi = h.high in
    let w = worth_scale 2 h.worth in
    record {
      number = h.worth.some;
      low = le_worth (omega arith) w (worth_add (worth_over n (D * 2)) (worth_part 1 2 D (omega arith))) (omega arith);
      high = le_worth (omega arith) (worth_over n (D * 2)) (worth_add w (worth_part 1 2 D (omega arith))) (omega arith);
    }

recoverᶠ_is : (a i t : ℕ) → 0 < t → Worth (recoverᶠ a i t) (a * t + i * 10000) (a * 10000) t
recoverᶠ_is a i t h =
    let d = worth_div (worth_sub (worth_whole i) (worth_whole a)) (worth_part t 10000 1 (omega arith)) (omega arith) in
    let q = worth_as (i * 10000) (a * 10000) t d (omega arith) (omega arith) in
    worth_as (a * t + i * 10000) (a * 10000) t (worth_add q (worth_over a t)) (omega arith) refl

-- over plain numbers: p − q·t is w, and v is a + q
module _ (a i t pu pd qu qd wu wd vu vd : ℕ)
    (e : pu + a * 10000 ≡ i * 10000 + pd) (f : wu + (pd + qu * t) ≡ pu + qd * t + wd) (g : vu + qd ≡ a + qu + vd) (h : 2 * (wu + wd) ≤ t) where
  recover_low : (a * t + i * 10000) * 2 + t * 2 * vd + 0 ≤ a * 10000 * 2 + t * 2 * vu + 1 * t
  recover_low = let k = ap (λ (n : ℕ). t * n) g in omega (arith, k)

  recover_high : t * 2 * vu + a * 10000 * 2 + 0 ≤ (a * t + i * 10000) * 2 + t * 2 * vd + 1 * t
  recover_high = let k = ap (λ (n : ℕ). t * n) g in omega (arith, k)

pub recover_off : (a i t : ℕ) → 0 < t → Beside half (recover a i t) (heldᶠ 255 (recoverᶠ a i t))
unfolding recover
recover_off a i t h =
    let p : ℤ = (pos i -ℤ pos a) *ℤ pos 10000 in
    let q : ℤ = nearest p t in
    let v : ℤ = pos a +ℤ q in
    let n = (nearest_is p t h).close in
    let s = size_is (p -ℤ q *ℤ pos t) in
    let e : up p + a * 10000 ≡ i * 10000 + down p = omega (arith, minus_is (pos i) (pos a), times_is (pos i -ℤ pos a) (pos 10000)) in
    let f : up (p -ℤ q *ℤ pos t) + (down p + up q * t) ≡ up p + down q * t + down (p -ℤ q *ℤ pos t) = omega (arith, minus_is p (q *ℤ pos t), times_is q (pos t)) in
    let g : up v + down q ≡ a + up q + down v = omega (arith, plus_is (pos a) q) in
    let b : 2 * (up (p -ℤ q *ℤ pos t) + down (p -ℤ q *ℤ pos t)) ≤ t = omega (arith, n, s) in
    beside _ t _ h
    (worth_hold 255 t 2 1 1 0 v (omega arith) h (omega arith) (omega arith) (recoverᶠ_is a i t h)
    (recover_low a i t (up p) (down p) (up q) (down q) _ _ (up v) (down v) e f g b)
    (recover_high a i t (up p) (down p) (up q) (down q) _ _ (up v) (down v) e f g b))

-- ---- equation 4

haze_at : (a j t s n : ℕ) → a * (t + s) ≡ a * 10000 → 10000 * n ≤ j * t + a * s + 5000 → j * t + a * s + 5000 < 10000 * (n + 1) → Beside half n (hazeᶠ a j t)
haze_at a j t s n k l g =
    let p = worth_part t 10000 1 (omega arith) in
    let c = worth_as (j * t) 0 10000 (worth_mul (worth_whole j) p) (omega arith) (omega arith) in
    let b = worth_as (a * 10000) (a * t) 10000 (worth_mul (worth_whole a) (worth_sub (worth_over 1 10000) p)) (omega arith) (omega arith) in
    let w = worth_as (j * t + a * 10000) (a * t) 10000 (worth_add c b) (omega arith) refl in
    record {
      number = w.some;
      low = le_worth (omega arith) (worth_scale 2 w) (worth_add (worth_over n (10000 * 2)) (worth_part 1 2 10000 (omega arith))) (omega arith);
      high = le_worth (omega arith) (worth_over n (10000 * 2)) (worth_add (worth_scale 2 w) (worth_part 1 2 10000 (omega arith))) (omega arith);
    }

pub haze_off : (a j t : ℕ) → t ≤ 10000 → Beside half (haze a j t) (hazeᶠ a j t)
haze_off a j t h =
    let n : ℕ = (j * t + a * (10000 - t) + 5000) / 10000 in
    let c : t + (10000 - t) ≡ 10000 = omega arith in
    let l = mul-div-le (j * t + a * (10000 - t) + 5000) 10000 in
    let g = lt-mul-div-succ (j * t + a * (10000 - t) + 5000) {b = 10000} (omega arith) in
    haze_at a j t (10000 - t) n (ap (λ (i : ℕ). a * i) c) l g
