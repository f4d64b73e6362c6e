-- What signed numbers need: sizes, that a number fits an i64, and a form in which `omega` decides linear equations. Assumes nothing.
use mathlib.Core.Path.{◌≡◌, refl, sym, ap, ap₂, ◌∙◌}
use mathlib.Core.Bool.{Bool, true, false, cond}
use Prim.Native.Nat.{ℕ, zero, suc, ◌+◌, ◌-◌, ◌*◌, ◌^◌, ◌≤◌, ◌<◌}
use native.Mathlib.Omega.{arith}
use native.Mathlib.Decide.{dec_le}
use native.Mathlib.Nat.{add_comm, div-le_of_le-mul, div-lt_iff_lt-mul, le_refl, le-suc}
use lib.IntN.{ℤ, pos, negsuc, neg_ℤ, nat_abs, ◌+ℤ◌, ◌-ℤ◌, ◌*ℤ◌, +ℤ_assoc, +ℤ_comm, +ℤ_invr, +ℤ_idr, neg_ℤ-+ℤ, neg_ℤ-neg_ℤ}
use lib.Signed.{mag, shr_z}
use lib.Dec.{ltb}
use mir.Syntax.{w64}
use mir.Val.{SFits, to_z, of_z}
use mir.Facts.{to_z-of_z}

-- ---- sizes

pub nat_abs_neg : (z : ℤ) → nat_abs (neg_ℤ z) ≡ nat_abs z
nat_abs_neg (pos zero) = refl
nat_abs_neg (pos (suc n)) = refl
nat_abs_neg (negsuc n) = refl

size_sub : (a b : ℕ) (t : Bool) → nat_abs (cond t (negsuc (suc b - suc a)) (pos (a - suc b))) ≤ a + suc b
size_sub a b true = omega arith
size_sub a b false = omega arith

pub nat_abs-+ : (a b : ℤ) → nat_abs (a +ℤ b) ≤ nat_abs a + nat_abs b
nat_abs-+ (pos a) (pos b) = le_refl (a + b)
nat_abs-+ (pos a) (negsuc b) = size_sub a b (ltb a (suc b))
nat_abs-+ (negsuc a) (pos b) = omega (arith, size_sub b a (ltb b (suc a)))
nat_abs-+ (negsuc a) (negsuc b) = omega arith

pub nat_abs-- : (a b : ℤ) → nat_abs (a -ℤ b) ≤ nat_abs a + nat_abs b
nat_abs-- a b = omega (arith, nat_abs-+ a (neg_ℤ b), nat_abs_neg b)

pub nat_abs-* : (a b : ℤ) → nat_abs (a *ℤ b) ≡ nat_abs a * nat_abs b
nat_abs-* (pos a) (pos b) = refl
nat_abs-* (pos a) (negsuc b) = nat_abs_neg (pos (a * suc b))
nat_abs-* (negsuc a) (pos b) = nat_abs_neg (pos (suc a * b))
nat_abs-* (negsuc a) (negsuc b) = refl

pub mag_nat_abs : (z : ℤ) → mag z ≤ nat_abs z
mag_nat_abs (pos n) = le_refl n
mag_nat_abs (negsuc n) = le-suc n

-- ---- an i64

pub fits : (z : ℤ) → nat_abs z < 2 ^ 63 → SFits w64 z
fits z h = record { sfits = omega (arith, mag_nat_abs z) }

pub back : (z : ℤ) → SFits w64 z → to_z w64 (of_z w64 z) ≡ z
back z f = to_z-of_z f

-- ---- a difference of two naturals, in which `omega` decides an equation

abbrev pub dif : ℕ → ℕ → ℤ
dif a b = pos a +ℤ neg_ℤ (pos b)

pub swap_mid : (a b c d : ℤ) → (a +ℤ b) +ℤ (c +ℤ d) ≡ (a +ℤ c) +ℤ (b +ℤ d)
swap_mid a b c d =
    +ℤ_assoc a b (c +ℤ d)
    ∙ ap (λ (x : ℤ). a +ℤ x) (sym (+ℤ_assoc b c d) ∙ ap (λ (x : ℤ). x +ℤ d) (+ℤ_comm b c) ∙ +ℤ_assoc c b d)
    ∙ sym (+ℤ_assoc a c (b +ℤ d))

pub dif-+ : (a b c d : ℕ) → dif a b +ℤ dif c d ≡ dif (a + c) (b + d)
dif-+ a b c d = swap_mid (pos a) (neg_ℤ (pos b)) (pos c) (neg_ℤ (pos d)) ∙ ap (λ (x : ℤ). pos (a + c) +ℤ x) (sym (neg_ℤ-+ℤ (pos b) (pos d)))

pub dif_neg : (a b : ℕ) → neg_ℤ (dif a b) ≡ dif b a
dif_neg a b = neg_ℤ-+ℤ (pos a) (neg_ℤ (pos b)) ∙ ap (λ (x : ℤ). neg_ℤ (pos a) +ℤ x) (neg_ℤ-neg_ℤ (pos b)) ∙ +ℤ_comm (neg_ℤ (pos a)) (pos b)

dif_0 : (a d : ℕ) → dif (a + d) d ≡ pos a
dif_0 a d = +ℤ_assoc (pos a) (pos d) (neg_ℤ (pos d)) ∙ ap (λ (x : ℤ). pos a +ℤ x) (+ℤ_invr (pos d)) ∙ +ℤ_idr (pos a)

widen : (a b k : ℕ) → dif a b ≡ dif (a + k) (b + k)
widen a b k =
    sym (+ℤ_idr (dif a b)) ∙ ap (λ (x : ℤ). dif a b +ℤ x) (sym (+ℤ_invr (pos k))) ∙ dif-+ a b k k

-- a - b = c - d, where a + d = c + b
pub dif_eq : (a b c d : ℕ) → a + d ≡ c + b → dif a b ≡ dif c d
dif_eq a b c d h = widen a b d ∙ ap₂ dif h (add_comm b d) ∙ sym (widen c d b)

-- ---- what the machine reads back of a number that it holds. An operation's operands stand in a goal as `rd a`

abbrev pub rd : ℤ → ℤ
rd z = to_z w64 (of_z w64 z)

pub rd_is : (z : ℤ) → nat_abs z < 2 ^ 63 → rd z ≡ z
rd_is z h = back z (fits z h)

module _ (a b : ℤ) (M N : ℕ) (ha : nat_abs a ≤ M) (hb : nat_abs b ≤ N) (h : M + N < 2 ^ 63) where
  rd_both : (f : ℤ → ℤ → ℤ) → f (rd a) (rd b) ≡ f a b
  rd_both f = ap₂ f (rd_is a (omega arith)) (rd_is b (omega arith))

  pub sub_is : rd a -ℤ rd b ≡ a -ℤ b
  sub_is = rd_both (λ x y. x -ℤ y)

  pub add_is : rd a +ℤ rd b ≡ a +ℤ b
  add_is = rd_both (λ x y. x +ℤ y)

  pub sub_le : nat_abs (a -ℤ b) ≤ M + N
  sub_le = omega (arith, nat_abs-- a b)

  pub add_le : nat_abs (a +ℤ b) ≤ M + N
  add_le = omega (arith, nat_abs-+ a b)

  pub sub_fits : SFits w64 (rd a -ℤ rd b)
  sub_fits = rw sub_is (fits (a -ℤ b) (omega (arith, nat_abs-- a b)))

-- ---- a difference of naturals, and floors

pub pos_sub : (a b : ℕ) → b ≤ a → pos a -ℤ pos b ≡ pos (a - b)
pos_sub a b h = dif_eq a b (a - b) 0 (omega arith) ∙ +ℤ_idr (pos (a - b))

-- how far two naturals are apart
abbrev pub distance : ℕ → ℕ → ℕ
distance a b = (a - b) + (b - a)

pub nat_abs_dif : (a b : ℕ) → nat_abs (pos a -ℤ pos b) ≡ distance a b
nat_abs_dif a b = go (dec_le b a)
  where
    go : Dec (b ≤ a) → nat_abs (pos a -ℤ pos b) ≡ distance a b
    go (yes h) = rw (pos_sub a b h) (omega arith)
    go (no h) =
        let l : a ≤ b = omega arith in
        rw (sym (dif_neg b a), pos_sub b a l, nat_abs_neg (pos (b - a))) (omega arith)

-- no larger than the larger of the two
pub dif_le : (a b M : ℕ) → a ≤ M → b ≤ M → nat_abs (pos a -ℤ pos b) ≤ M
dif_le a b M ha hb = rw (nat_abs_dif a b) (omega arith)

pub shr_le : (z : ℤ) (m B : ℕ) → 0 < m → nat_abs z ≤ B * m → nat_abs (shr_z z m) ≤ B
shr_le (pos a) m B hm h = div-le_of_le-mul m (omega arith)
shr_le (negsuc a) m B hm h = (div-lt_iff_lt-mul hm).1 h

pub neg_times : (z : ℤ) (t : ℕ) → neg_ℤ z *ℤ pos t ≡ neg_ℤ (z *ℤ pos t)
neg_times (pos zero) t = let e : 0 * t ≡ 0 = omega arith in rw e
neg_times (pos (suc n)) t = refl
neg_times (negsuc n) t = sym (neg_ℤ-neg_ℤ (pos (suc n * t)))

pub mul_is : (a b : ℤ) → nat_abs a < 2 ^ 63 → nat_abs b < 2 ^ 63 → rd a *ℤ rd b ≡ a *ℤ b
mul_is a b ha hb = ap₂ (λ (x y : ℤ). x *ℤ y) (rd_is a ha) (rd_is b hb)
