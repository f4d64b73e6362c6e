-- `Picture.nearest` is what its words say: no whole number is nearer to p / t, and of two equally near ones it is the one away from zero
-- (`nearest_is`); no other number is (`nearest_one`). Assumes nothing.
use mathlib.Core.Path.{◌≡◌, refl, sym, ap, ◌∙◌}
use Prim.Native.Nat.{ℕ, zero, suc, ◌+◌, ◌*◌, ◌≤◌, ◌<◌}
use native.Mathlib.Nat.{mul-le-mul_left, mul-div-le, lt-mul-div-succ, div-eq_of_lt, div-zero, div-eq_of_lt-le, div-lt_iff_lt-mul}
use native.Mathlib.Decide.{dec_le}
use native.Mathlib.Omega.{arith}
use lib.IntN.{ℤ, pos, negsuc, neg_ℤ, nat_abs, ◌+ℤ◌, ◌-ℤ◌, ◌*ℤ◌, neg_ℤ-+ℤ, neg_ℤ-neg_ℤ}
use Rattle.rules.specs.Picture.{rounded, nearest}
use Rattle.rules.proofs.Integers.{nat_abs_neg, nat_abs_dif, neg_times}

-- ---- naturals: q is n / t rounded, halves up

pub record Half (n t q : ℕ) : Type 0 where
  pub most : 2 * (t * q) ≤ 2 * n + t
  pub least : 2 * n < 2 * (t * q) + t

pub half : (n t : ℕ) → 0 < t → Half n t (rounded n t)
half n t h =
    let low = mul-div-le (2 * n + t) (2 * t) in
    let high = lt-mul-div-succ (2 * n + t) {b = 2 * t} (omega arith) in
    record { most = omega arith; least = omega arith }

half_one : (n t q : ℕ) → Half n t q → rounded n t ≡ q
half_one n t q h = div-eq_of_lt-le {k = q} (2 * t) {m = 2 * n + t} (omega (arith, h.most)) (omega (arith, h.least))

pub rounded_le : (n t : ℕ) → 0 < t → rounded n t ≤ n
rounded_le n t h =
    let m = mul-le-mul_left {m = 1} {n = t} n h in
    let l : rounded n t < n + 1 = (div-lt_iff_lt-mul {k = 2 * t} {x = 2 * n + t} {y = n + 1} (omega arith)).1 (omega arith) in
    omega arith

rounded_zero : (t : ℕ) → rounded 0 t ≡ 0
rounded_zero zero = div-zero 0
rounded_zero (suc t) = div-eq_of_lt (omega arith)

-- ---- either sign

pub nearest_neg : (p : ℤ) (t : ℕ) → nearest (neg_ℤ p) t ≡ neg_ℤ (nearest p t)
nearest_neg (pos zero) t = rw (rounded_zero t)
nearest_neg (pos (suc n)) t = refl
nearest_neg (negsuc n) t = sym (neg_ℤ-neg_ℤ (pos (rounded (suc n) t)))

-- the words: how far q·t is from p, and on which side where that is half of t
pub record Nearest (p : ℤ) (t : ℕ) (q : ℤ) : Type 0 where
  pub close : 2 * nat_abs (p -ℤ q *ℤ pos t) ≤ t
  pub away : 2 * nat_abs (p -ℤ q *ℤ pos t) ≡ t → nat_abs p < nat_abs q * t

negated : (p q : ℤ) (t : ℕ) → Nearest p t q → Nearest (neg_ℤ p) t (neg_ℤ q)
negated p q t h = record { close = rw same h.close; away = λ e. rw (nat_abs_neg p, nat_abs_neg q) (h.away (sym (ap (λ (n : ℕ). 2 * n) same) ∙ e)) }
  where
    same : nat_abs (neg_ℤ p -ℤ neg_ℤ q *ℤ pos t) ≡ nat_abs (p -ℤ q *ℤ pos t)
    same = rw (neg_times q t, sym (neg_ℤ-+ℤ p (neg_ℤ (q *ℤ pos t)))) (nat_abs_neg (p -ℤ q *ℤ pos t))

words : (n t q : ℕ) → Half n t q → Nearest (pos n) t (pos q)
words n t q h =
    let low = h.most in
    let high = h.least in
    let e = nat_abs_dif n (q * t) in
    record { close = omega arith; away = λ d. omega arith }

unwords : (n t q : ℕ) → Nearest (pos n) t (pos q) → Half n t q
unwords n t q h = record { most = omega (arith, nat_abs_dif n (q * t), h.close); least = go (dec_le (2 * (t * q) + t) (2 * n)) }
  where
    go : Dec (2 * (t * q) + t ≤ 2 * n) → 2 * n < 2 * (t * q) + t
    go (yes l) = let e = nat_abs_dif n (q * t) in let b = h.close in let a = h.away (omega arith) in omega arith
    go (no l) = omega arith

one_pos : (n t : ℕ) (q : ℤ) → 0 < t → Nearest (pos n) t q → q ≡ nearest (pos n) t
one_pos n t (pos q) k h = ap pos (sym (half_one n t q (unwords n t q h)))
one_pos n t (negsuc q) k h = let e = ap (λ (z : ℤ). nat_abs (pos n +ℤ z)) (neg_ℤ-neg_ℤ (pos (suc q * t))) in let b = h.close in absurd (omega arith)

pub nearest_is : (p : ℤ) (t : ℕ) → 0 < t → Nearest p t (nearest p t)
nearest_is (pos n) t h = words n t (rounded n t) (half n t h)
nearest_is (negsuc n) t h = negated (pos (suc n)) (pos (rounded (suc n) t)) t (words (suc n) t (rounded (suc n) t) (half (suc n) t h))

pub nearest_one : (p q : ℤ) (t : ℕ) → 0 < t → Nearest p t q → q ≡ nearest p t
nearest_one (pos n) q t h w = one_pos n t q h w
nearest_one (negsuc n) q t h w = sym (neg_ℤ-neg_ℤ q) ∙ ap neg_ℤ (one_pos (suc n) t (neg_ℤ q) h (negated (negsuc n) q t w))
