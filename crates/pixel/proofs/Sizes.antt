-- The sizes of a window's line, from the sizes of its sums; and what holds of held values. Assumes nothing.
use mathlib.Core.Path.{◌≡◌}
use Prim.Native.Nat.{ℕ, ◌+◌, ◌-◌, ◌*◌, ◌/◌, ◌≤◌, ◌<◌, min}
use lib.IntN.{ℤ, pos, negsuc, nat_abs, ◌+ℤ◌, ◌-ℤ◌, ◌*ℤ◌}
use lib.Signed.{shr_z}
use native.Mathlib.Nat.{mul-le-mul, mul-le-mul_left, zero-div, mul-div_cancel, le-div_iff_mul-le, div-lt_iff_lt-mul, div-div-eq-div-mul}
use native.Mathlib.Decide.{dec_le}
use native.Mathlib.Omega.{arith}
use Rattle.rules.specs.Transmission.{P, Q, slope_of, refine_of, held}
use Rattle.rules.proofs.Integers.{nat_abs-*, nat_abs--, nat_abs-+, nat_abs_dif, dif_le, shr_le}
use Rattle.pixel.specs.Moments.{Moments}

-- what the products come to. `omega` reads the fields by itself
pub record Sizes (n sg st sgg sgt e : ℕ) : Type 0 where
  pub nn : n * n ≤ 214358881
  pub nn_pos : 0 < n * n
  pub ngt : n * sgt ≤ 7650000 * (n * n)
  pub gst : sg * st ≤ 7650000 * (n * n)
  pub ngg : n * sgg ≤ 585225 * (n * n)
  pub spread : sg * sg ≤ n * sgg
  pub nne : n * n * e ≤ 585225 * (n * n)
  pub nn_le : n * n ≤ n * n * e
  pub p_le : nat_abs (P n sg st sgt) ≤ 7650000 * (n * n)
  pub k_le : nat_abs (pos 1024 *ℤ P n sg st sgt) ≤ 7833600000 * (n * n)
  pub k_near : nat_abs (pos 1024 *ℤ P n sg st sgt) ≤ 2560000 * (n * sgg - sg * sg + n * n)

near_le : (a b M : ℕ) → a ≤ b + M → b ≤ a + M → nat_abs (pos a -ℤ pos b) ≤ M
near_le a b M h k = rw (nat_abs_dif a b) (omega arith)

pub sizes : (n sg st sgg sgt e : ℕ) → Moments n sg st sgg sgt → 0 < e → e ≤ 585225 → Sizes n sg st sgg sgt e
sizes n sg st sgg sgt e m e0 e1 =
    let ngt : n * sgt ≤ 7650000 * (n * n) = omega (arith, mul-le-mul_left n m.gt) in
    let gst : sg * st ≤ 7650000 * (n * n) = omega (arith, mul-le-mul m.g m.t) in
    let p_le = dif_le (n * sgt) (sg * st) (7650000 * (n * n)) ngt gst in
    record {
      nn = mul-le-mul m.few m.few;
      nn_pos = mul-le-mul m.some m.some;
      ngt = ngt;
      gst = gst;
      ngg = omega (arith, mul-le-mul_left n m.gg);
      spread = m.spread;
      nne = omega (arith, mul-le-mul_left (n * n) e1);
      nn_le = omega (arith, mul-le-mul_left (n * n) e0);
      p_le = p_le;
      k_le = omega (arith, nat_abs-* (pos 1024) (P n sg st sgt), p_le);
      k_near = omega (arith, nat_abs-* (pos 1024) (P n sg st sgt), near_le (n * sgt) (sg * st) (2500 * (n * sgg - sg * sg + n * n)) m.rise m.fall);
    }

pub slope_small : (n sg st sgg sgt e : ℕ) → Sizes n sg st sgg sgt e → nat_abs (slope_of n sg st sgg sgt e) ≤ 2560000
slope_small n sg st sgg sgt e z = shr_le (pos 1024 *ℤ P n sg st sgt) (Q n sg sgg e) 2560000 (omega arith) (omega (arith, z.k_near, z.nn_le))

-- ---- the offset's numerator, and the refined value's

pub offset_top : (n sg st : ℕ) (a : ℤ) → sg ≤ 765 * n → st ≤ 10000 * n → nat_abs a ≤ 2560000 → nat_abs (pos (1024 * st) -ℤ a *ℤ pos sg) ≤ 1968640000 * n
offset_top n sg st a hg ht ha = omega (arith, nat_abs-- (pos (1024 * st)) (a *ℤ pos sg), nat_abs-* a (pos sg), mul-le-mul ha hg)

pub refined_top : (n g : ℕ) (sa sb : ℤ) → g ≤ 765 → nat_abs sa ≤ 2560000 * n → nat_abs sb ≤ 2147483648 * n → nat_abs (sa *ℤ pos g +ℤ sb) ≤ 4105883648 * n
refined_top n g sa sb hg ha hb = omega (arith, nat_abs-+ (sa *ℤ pos g) sb, nat_abs-* sa (pos g), mul-le-mul ha hg)

-- ---- what is held is at most the top

pub held_le : (top : ℕ) (v : ℤ) → held top v ≤ top
held_le top (pos v) = omega arith
held_le top (negsuc v) = omega arith

pub refined_le : (n : ℕ) (sa sb : ℤ) (g : ℕ) → refine_of n sa sb g ≤ 10000
refined_le n sa sb g = held_le 10000 (shr_z (sa *ℤ pos g +ℤ sb) (1024 * n))

-- ---- and a value may be held before it is divided

pub cut_first : (top m a : ℕ) → 0 < m → min a (top * m) / m ≡ min (a / m) top
cut_first top m a h = go (dec_le (top * m) a)
  where
    go : Dec (top * m ≤ a) → min a (top * m) / m ≡ min (a / m) top
    go (yes l) =
        let e : min a (top * m) ≡ top * m = omega arith in
        rw (e, mul-div_cancel top h) (omega (arith, (le-div_iff_mul-le {x = top} {y = a} h).1 l))
    go (no l) =
        let e : min a (top * m) ≡ a = omega arith in
        rw e (omega (arith, (div-lt_iff_lt-mul {x = a} {y = top} h).1 (omega arith)))

held_first : (top m : ℕ) (v : ℤ) → 0 < m → held (top * m) v / m ≡ held top (shr_z v m)
held_first top m (pos a) h = cut_first top m a h
held_first top m (negsuc a) h = zero-div m

pub refined_first : (n : ℕ) (sa sb : ℤ) (g : ℕ) → 0 < n → held (10240000 * n) (sa *ℤ pos g +ℤ sb) / 1024 / n ≡ refine_of n sa sb g
refined_first n sa sb g h =
    let e : 10240000 * n ≡ 10000 * (1024 * n) = omega arith in
    rw (e, div-div-eq-div-mul) (held_first 10000 (1024 * n) (sa *ℤ pos g +ℤ sb) (omega arith))
