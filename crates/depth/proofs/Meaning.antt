-- What a depth means: it falls with transmission (`falls`), it is the one number whose two neighbouring entries bound the transmission from both sides
-- (`bounds`, `bounds_one`), it counts steps of one hundredth (`enough`, `no_fewer`), and the entries stay close to the exact powers (`close`). Assumes nothing.
use mathlib.Core.Path.{◌≡◌, sym, ap, subst}
use Prim.Native.Nat.{ℕ, zero, suc, ◌+◌, ◌-◌, ◌*◌, ◌^◌, ◌≤◌, ◌<◌}
use native.Mathlib.Nat.{mul-le-mul_left, mul-le-mul_right, pow-succ'}
use lib.Dec.{leb→le}
use native.Mathlib.Omega.{arith}
use Rattle.depth.specs.Table.{step, thresholds, place, depth_of}
use Rattle.depth.proofs.Place.{most, reached, before, place_one, place_falls}
use Rattle.depth.proofs.Table.{entry, count, first, last, rule, falling, stepped, steps}

-- more transmission never means more depth
pub falls : (t u : ℕ) → t ≤ u → depth_of u ≤ depth_of t
unfolding depth_of
falls t u h = place_falls (100000 * t) (100000 * u) thresholds (mul-le-mul_left 100000 h)

-- d bounds t from both sides: by the entry at d, and by the one before it
pub record Bounds (t d : ℕ) : Type 0 where
  pub most : d ≤ 918
  pub reached : d < 918 → entry d ≤ 100000 * t
  pub short : 0 < d → 100000 * t < entry (d - 1)

pub bounds : (t : ℕ) → Bounds t (depth_of t)
unfolding depth_of
bounds t =
    let m = 100000 * t in
    record {
      most = let a = most m thresholds in omega (arith, count);
      reached = λ h. reached m thresholds (omega (arith, count));
      short = λ h. before m thresholds (place m thresholds - 1) (omega arith);
    }

-- and no other number does
pub bounds_one : (t d : ℕ) → Bounds t d → d ≡ depth_of t
unfolding depth_of
bounds_one t d b =
    let n = b.most in
    let short : (k : ℕ) → k < d → 100000 * t < entry k =
    λ k h. (let a = b.short (omega arith) in let f = falling k (d - 1) (omega arith) (omega (arith, count)) in omega arith) in
    place_one (100000 * t) thresholds d (omega (arith, count)) (λ h. b.reached (omega (arith, count))) short

-- the depth is the number of steps of one hundredth from 1,000,000,000 until at most 100,000 t is left: so many lead there, and no fewer do
pub enough : (t : ℕ) → depth_of t < 918 → stepped (depth_of t) 1000000000 ≤ 100000 * t
enough t h = let b = (bounds t).reached h in let e = steps (depth_of t) h in omega arith

pub no_fewer : (t k : ℕ) → k < depth_of t → 100000 * t < stepped k 1000000000
unfolding depth_of
no_fewer t k h =
    let m = most (100000 * t) thresholds in
    let b = before (100000 * t) thresholds k h in
    let e = steps k (omega (arith, count)) in
    omega arith

-- the two ends: nothing is lost at depth 0, nothing is left at depth 918
pub all_through : (t : ℕ) → 10000 ≤ t → depth_of t ≡ 0
all_through t h = sym (bounds_one t 0 (record { most = omega arith; reached = λ l. omega (arith, first); short = λ l. absurd (let z : 1 ≤ 0 = omega arith in omega arith) }))

pub then_all_through : (t : ℕ) → depth_of t ≡ 0 → 10000 ≤ t
then_all_through t e = let b = (bounds t).reached (omega arith) in let f : entry (depth_of t) ≡ entry 0 = ap entry e in omega (arith, first)

pub none_through : depth_of 0 ≡ 918
none_through = sym (bounds_one 0 918 (record { most = omega arith; reached = λ l. absurd (let z : 1 ≤ 0 = omega arith in omega arith); short = λ l. omega (arith, last) }))

pub then_none_through : (t : ℕ) → depth_of t ≡ 918 → t ≡ 0
then_none_through t e = let b = (bounds t).short (omega arith) in let f : entry (depth_of t - 1) ≡ entry 917 = ap (λ (d : ℕ). entry (d - 1)) e in omega (arith, last)

-- ---- beside the exact powers: rounding down at every step never takes off as much as 100

-- entry k is at most 1,000,000,000 · (99/100)ᵏ, and that is below entry k + 100
pub record Close (k x : ℕ) : Type 0 where
  pub under : x * 100 ^ k ≤ 1000000000 * 99 ^ k
  pub over : 1000000000 * 99 ^ k < (x + 100) * 100 ^ k

close_next : (k x : ℕ) → Close k x → Close (suc k) (step x)
close_next k x n =
    let P = 100 ^ k in
    let y = step x in
    let low : 100 * y * P ≤ 99 * x * P = mul-le-mul_right P (omega arith) in
    let high : (99 * x + 9900) * P ≤ (100 * y + 9999) * P = mul-le-mul_right P (omega arith) in
    record {
      under = rw (pow-succ' 100 k, pow-succ' 99 k) (omega (arith, n.under));
      over = rw (pow-succ' 100 k, pow-succ' 99 k) (omega (arith, n.over));
    }

pub close : (k : ℕ) → k < 918 → Close k (entry k)
close zero h = rw first (record { under = leb→le _ _ tt; over = leb→le _ _ tt })
close (suc k) h = subst (Close (suc k)) (sym (rule k h).0) (close_next k (entry k) (close k (omega arith)))
