-- Q is above 0, and the subtraction in it is never cut off: the square of a sum is at most the number of summands times the sum of squares. And P is
-- at most 2500 times a part of Q (`rise`, `fall`). Assumes nothing.
use mathlib.Core.Path.{◌≡◌, refl, sym, ap}
use mathlib.Core.List.{List, [], ◌∷◌}
use Prim.Native.Nat.{ℕ, ◌+◌, ◌-◌, ◌*◌, ◌≤◌, ◌<◌}
use native.Mathlib.Nat.{add-sub_of_le, mul-pos, mul-le-mul_left, mul-le-mul_right}
use native.Mathlib.Decide.{dec_le}
use native.Mathlib.Omega.{arith}
use lib.ListN.{length}
use lib.IntN.{ℤ, pos, ◌+ℤ◌, ◌-ℤ◌}
use Rattle.rules.specs.Window.{total}
use Rattle.rules.specs.Transmission.{Sample, Sg, St, Sgg, Sgt, Q}
use Rattle.rules.proofs.Integers.{pos_sub}
use Rattle.rules.proofs.Windowed.{All, none, more}

half : (a d : ℕ) → 2 * (a * (a + d)) ≤ a * a + (a + d) * (a + d)
half a d = omega arith

-- 2ab ≤ a² + b²
pub twice : (a b : ℕ) → 2 * (a * b) ≤ a * a + b * b
twice a b = go (dec_le a b)
  where
    go : Dec (a ≤ b) → 2 * (a * b) ≤ a * a + b * b
    go (yes h) = rw (add-sub_of_le h) at (half a (b - a))
    go (no h) =
        let l : b ≤ a = omega arith in
        let k = rw (add-sub_of_le l) at (half b (a - b)) in
        omega arith

-- sums of what f reads off each value: the square of the sum is at most n times the sum of squares
module _ {A : Type 0} (f : A → ℕ) where
  -- 2x·Σf ≤ Σf² + n·x²
  mixed : (x : ℕ) (l : List A) → 2 * (x * total f l) ≤ total (λ i. f i * f i) l + length l * (x * x)
  mixed x [] = omega arith
  mixed x (i ∷ l) =
      let h = mixed x l in
      let t = twice x (f i) in
      omega arith

  pub spread_of : (l : List A) → total f l * total f l ≤ length l * total (λ i. f i * f i) l
  spread_of [] = omega arith
  spread_of (i ∷ l) =
      let h = spread_of l in
      let t = mixed (f i) l in
      omega arith

pub spread : (l : List Sample) → Sg l * Sg l ≤ length l * Sgg l
spread = spread_of (λ i. i.g)

-- so Q is above 0 for a window that has a pixel, and is what the paper writes
pub Q_pos : (e : ℕ) (l : List Sample) → 0 < length l → 0 < e → 0 < Q (length l) (Sg l) (Sgg l) e
Q_pos e l n h = omega (arith, mul-pos {m = length l * length l} {n = e} (mul-pos {m = length l} {n = length l} n n) h)

pub Q_whole : (e : ℕ) (l : List Sample) → pos (Q (length l) (Sg l) (Sgg l) e) ≡ pos (length l * Sgg l) -ℤ pos (Sg l * Sg l) +ℤ pos (length l * length l * e)
Q_whole e l = sym (ap (λ (z : ℤ). z +ℤ pos (length l * length l * e)) (pos_sub (length l * Sgg l) (Sg l * Sg l) (spread l)))

-- ---- how large P is: at most 2500·(n·Σg² − (Σg)² + n²), where no coarse value is above 10,000

abbrev Stt : List Sample → ℕ
Stt = total (λ i. i.t * i.t)

-- for 5000·g + t, as every number, has a spread
abbrev both : Sample → ℕ
both i = 5000 * i.g + i.t

both_sum : (l : List Sample) → total both l ≡ 5000 * Sg l + St l
both_sum [] = omega arith
both_sum (i ∷ l) = let h = both_sum l in omega arith

both_squares : (l : List Sample) → total (λ i. both i * both i) l ≡ 25000000 * Sgg l + 10000 * Sgt l + Stt l
both_squares [] = omega arith
both_squares (i ∷ l) = let h = both_squares l in omega arith

-- and t has none that is above 10,000² / 4
squares_le : (l : List Sample) → All (λ (i : Sample). i.t ≤ 10000) l → Stt l ≤ 10000 * St l
squares_le [] none = omega arith
squares_le (i ∷ l) (more h a) = omega (arith, squares_le l a, mul-le-mul_right i.t h)

-- P from below
pub fall : (l : List Sample) → All (λ (i : Sample). i.t ≤ 10000) l → Sg l * St l ≤ length l * Sgt l + 2500 * (length l * Sgg l - Sg l * Sg l + length l * length l)
fall l a =
    let wide = rw (both_sum l, both_squares l) at (spread_of both l) in
    let flat = mul-le-mul_left (length l) (squares_le l a) in
    let most = twice (2 * St l) (10000 * length l) in
    omega (arith, wide, flat, most, spread l)

-- and from above: that is P from below with 10,000 − t in the place of t
abbrev turned : List Sample → List Sample
turned [] = []
turned (i ∷ l) = record { g = i.g; t = 10000 - i.t } ∷ turned l

record Turned (l m : List Sample) : Type 0 where
  size : length m ≡ length l
  guides : Sg m ≡ Sg l
  squares : Sgg m ≡ Sgg l
  values : St m + St l ≡ 10000 * length l
  products : Sgt m + Sgt l ≡ 10000 * Sg l
  capped : All (λ (i : Sample). i.t ≤ 10000) m

turned_is : (l : List Sample) → All (λ (i : Sample). i.t ≤ 10000) l → Turned l (turned l)
turned_is [] none = record { size = refl; guides = refl; squares = refl; values = omega arith; products = omega arith; capped = none }
turned_is (i ∷ l) (more h a) =
    let k = turned_is l a in
    let cap : 10000 - i.t ≤ 10000 = omega arith in
    let whole : 10000 - i.t + i.t ≡ 10000 = omega arith in
    let product = ap (λ (x : ℕ). i.g * x) whole in
    record {
      size = omega (arith, k.size);
      guides = omega (arith, k.guides);
      squares = omega (arith, k.squares);
      values = omega (arith, k.values);
      products = omega (arith, k.products, product);
      capped = more cap k.capped;
    }

pub rise : (l : List Sample) → All (λ (i : Sample). i.t ≤ 10000) l → length l * Sgt l ≤ Sg l * St l + 2500 * (length l * Sgg l - Sg l * Sg l + length l * length l)
rise l a =
    let k = turned_is l a in
    let below = rw (k.size, k.guides, k.squares) at (fall (turned l) k.capped) in
    let values = ap (λ (x : ℕ). Sg l * x) k.values in
    let products = ap (λ (x : ℕ). length l * x) k.products in
    omega (arith, below, values, products)
