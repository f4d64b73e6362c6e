-- One window of the filter: how far slope and offset, both rounded down at the scale 1024, are from equations 17 and 18 in exact arithmetic
-- (`window_near`). Assumes nothing.
use mathlib.Core.Path.{◌≡◌, refl, ap}
use mathlib.Core.List.{List}
use Prim.Native.Nat.{ℕ, ◌+◌, ◌-◌, ◌*◌, ◌≤◌, ◌<◌}
use native.Mathlib.Nat.{mul-pos, mul-le-mul, mul-le-mul_left, mul-lt-mul_of_pos_left, mul_comm}
use native.Mathlib.Omega.{arith}
use lib.ListN.{length}
use lib.IntN.{ℤ, pos, ◌-ℤ◌, ◌*ℤ◌}
use Rattle.rules.specs.Transmission.{Sample, Sg, St, Sgg, Sgt, Q, slope, offset}
use Rattle.rules.specs.Fraction.{Fraction, whole, ◌+ᶠ◌, ◌-ᶠ◌, ◌*ᶠ◌, mean}
use Rattle.rules.specs.Exact.{I, t, μ, σ², slopeᶠ, offsetᶠ}
use Rattle.rules.proofs.Spread.{spread, Q_pos}
use Rattle.rules.proofs.Signs.{up, down, minus_is, times_is, Floor, shr_is}
use Rattle.rules.proofs.Worth.{Worth, worth_as, worth_scale, worth_cancel, worth_whole, worth_over, worth_add, worth_sub, worth_mul, worth_div, worth_mean, worth_times}

-- ---- equations 17 and 18 of a window, over n·Q

module _ (e : ℕ) (l : List Sample) (some : 0 < length l) (above : 0 < e) where
  cov : Worth (mean (λ i. I i *ᶠ t i) l -ᶠ μ l *ᶠ mean t l) (length l * Sgt l) (Sg l * St l) (length l * length l)
  cov =
      let It = worth_mean (λ i. I i *ᶠ t i) (λ i. i.g * i.t) (λ i. worth_times i.g i.t) l some in
      let g = worth_mean I (λ i. i.g) (λ i. worth_whole i.g) l some in
      let t = worth_mean t (λ i. i.t) (λ i. worth_whole i.t) l some in
      worth_as _ _ _ (worth_sub (worth_scale (length l) It) (worth_mul g t)) (omega arith) refl

  var : Worth (σ² l +ᶠ whole e) (Q (length l) (Sg l) (Sgg l) e) 0 (length l * length l)
  var =
      let II = worth_mean (λ i. I i *ᶠ I i) (λ i. i.g * i.g) (λ i. worth_times i.g i.g) l some in
      let g = worth_mean I (λ i. i.g) (λ i. worth_whole i.g) l some in
      let k = spread l in
      worth_as _ _ _ (worth_add (worth_sub (worth_scale (length l) II) (worth_mul g g)) (worth_over e (length l * length l))) (omega (arith, k)) refl

  pub slope_worth : Worth (slopeᶠ e l) (length l * Sgt l) (Sg l * St l) (Q (length l) (Sg l) (Sgg l) e)
  unfolding slopeᶠ
  slope_worth =
      worth_cancel (length l * length l) (mul-pos some some)
      (worth_as _ _ _ (worth_div cov var (Q_pos e l some above)) refl (mul_comm (length l * length l) (Q (length l) (Sg l) (Sgg l) e)))

  pub offset_worth : Worth (offsetᶠ e l) (St l * Q (length l) (Sg l) (Sgg l) e + Sg l * St l * Sg l) (length l * Sgt l * Sg l) (length l * Q (length l) (Sg l) (Sgg l) e)
  unfolding offsetᶠ
  offset_worth =
      let g = worth_mean I (λ i. i.g) (λ i. worth_whole i.g) l some in
      let t = worth_mean t (λ i. i.t) (λ i. worth_whole i.t) l some in
      let q : ℕ = Q (length l) (Sg l) (Sgg l) e in
      let s = worth_as _ _ (length l * q) (worth_mul slope_worth g) refl (mul_comm q (length l)) in
      worth_as _ _ _ (worth_sub (worth_scale q t) s) (omega arith) refl

-- ---- slopes a and offsets b, or sums of N of each, against exact ones A and B over D: at a guide g, 1024·(A·g + B) is less than a·g + b + 766·N
-- and more than a·g + b − 765·N

-- 1024·(x·g + u) + D·(v·g + w) is less by N than the same of x', u', v', w' and c·N·D
abbrev pub Under : ℕ → ℕ → ℕ → ℕ → ℕ → ℕ → ℕ → ℕ → ℕ → ℕ → ℕ → ℕ → Type 0
Under g N D c x u v w x' u' v' w' = 1024 * (x * g + u) + (D * (v * g) + D * w) + N ≤ 1024 * (x' * g + u') + (D * (v' * g) + D * w') + c * (N * D)

pub record Near (g N : ℕ) (A B : Fraction) (a b : ℤ) (D : ℕ) : Type 0 where
  pub ax : ℕ
  pub ay : ℕ
  pub bx : ℕ
  pub by : ℕ
  pub slopes : Worth A ax ay D
  pub offsets : Worth B bx by D
  pub low : Under g N D 766 ax bx (down a) (down b) ay by (up a) (up b)
  pub high : Under g N D 765 ay by (up a) (up b) ax bx (down a) (down b)

-- the two floors of a window, over plain numbers: r and s are what they cut off. First with a name for each product
module _ (x_g a_g' y_g a_g r_g xs cs' ys cs rs tq bq' bq sq nq : ℕ)
    (e₁ : 1024 * x_g + a_g' ≡ 1024 * y_g + a_g + r_g) (e₂ : 1024 * xs + cs' ≡ 1024 * ys + cs + rs) (f : 1024 * tq + cs' + bq' ≡ cs + bq + sq) where
  linear_low : r_g ≤ 765 * nq → sq < nq → 1024 * (x_g + (tq + ys)) + (a_g' + bq') + 1 ≤ 1024 * (y_g + xs) + (a_g + bq) + 766 * nq
  linear_low k m = omega arith

  linear_high : rs < 765 * nq → 1024 * (y_g + xs) + (a_g + bq) + 1 ≤ 1024 * (x_g + (tq + ys)) + (a_g' + bq') + 765 * nq
  linear_high k = omega arith

times : (n q x y g a a' r : ℕ) → 1024 * x + q * a' ≡ 1024 * y + q * a + r → 1024 * (x * n * g) + n * q * (a' * g) ≡ 1024 * (y * n * g) + n * q * (a * g) + r * (n * g)
times n q x y g a a' r e = omega (arith, ap (λ (i : ℕ). i * (n * g)) e)

module _ (n q sg st x y g a a' b b' r s : ℕ)
    (e : 1024 * x + q * a' ≡ 1024 * y + q * a + r) (hr : r < q) (f : 1024 * st + a' * sg + n * b' ≡ a * sg + n * b + s) (hs : s < n) where
  e₂ : 1024 * (x * sg) + q * a' * sg ≡ 1024 * (y * sg) + q * a * sg + r * sg
  e₂ = omega (arith, ap (λ (i : ℕ). i * sg) e)

  f₂ : 1024 * (st * q) + q * a' * sg + n * q * b' ≡ q * a * sg + n * q * b + s * q
  f₂ = omega (arith, ap (λ (i : ℕ). i * q) f)

  floors_low : g ≤ 765 → Under g 1 (n * q) 766 (x * n) (st * q + y * sg) a' b' (y * n) (x * sg) a b
  floors_low hg =
      let k : r * (n * g) ≤ q * (n * 765) = mul-le-mul (omega arith) (mul-le-mul_left n hg) in
      let m : q * s < q * n = mul-lt-mul_of_pos_left hs (omega arith) in
      linear_low _ _ _ _ _ _ _ _ _ _ _ _ _ _ _ (times n q x y g a a' r e) e₂ f₂ (omega (arith, k)) (omega (arith, m))

  floors_high : 0 < n → sg ≤ 765 * n → Under g 1 (n * q) 765 (y * n) (x * sg) a b (x * n) (st * q + y * sg) a' b'
  floors_high some hm =
      let k : r * sg ≤ r * (765 * n) = mul-le-mul_left r hm in
      let m : n * r < n * q = mul-lt-mul_of_pos_left hr some in
      linear_high _ _ _ _ _ _ _ _ _ _ _ _ _ _ _ (times n q x y g a a' r e) e₂ f₂ (omega (arith, k, m))

-- what a floor cuts off
record Cut (l r m : ℕ) : Type 0 where
  rest : ℕ
  is : l ≡ r + rest
  less : rest < m

cut : (l r m : ℕ) → r ≤ l → l < r + m → Cut l r m
cut l r m h k = record { rest = l - r; is = omega arith; less = omega arith }

slope_cut : (x y q : ℕ) (z a : ℤ) → z ≡ pos 1024 *ℤ (pos x -ℤ pos y) → Floor z q a → Cut (1024 * x + q * down a) (1024 * y + q * up a) q
slope_cut x y q z a e f =
    let k = times_is (pos 1024) (pos x -ℤ pos y) in
    let s = minus_is (pos x) (pos y) in
    let u = ap up e in
    let d = ap down e in
    let m = f.most in
    let l = f.least in
    cut _ _ q (omega arith) (omega arith)

offset_cut : (st sg n : ℕ) (a z b : ℤ) → z ≡ pos (1024 * st) -ℤ a *ℤ pos sg → Floor z n b → Cut (1024 * st + down a * sg + n * down b) (up a * sg + n * up b) n
offset_cut st sg n a z b e f =
    let k = times_is a (pos sg) in
    let s = minus_is (pos (1024 * st)) (a *ℤ pos sg) in
    let u = ap up e in
    let d = ap down e in
    let m = f.most in
    let l = f.least in
    cut _ _ n (omega arith) (omega arith)

-- ---- so a window is near

pub window_near : (e g : ℕ) (l : List Sample) → 0 < length l → 0 < e → g ≤ 765 → Sg l ≤ 765 * length l
    → Near g 1 (slopeᶠ e l) (offsetᶠ e l) (slope e l) (offset e l) (length l * Q (length l) (Sg l) (Sgg l) e)
window_near e g l some above hg hm =
    let n : ℕ = length l in
    let q : ℕ = Q (length l) (Sg l) (Sgg l) e in
    let a : ℤ = slope e l in
    let b : ℤ = offset e l in
    let x : ℕ = length l * Sgt l in
    let y : ℕ = Sg l * St l in
    let c = slope_cut x y q _ a refl (shr_is _ q (Q_pos e l some above)) in
    let d = offset_cut (St l) (Sg l) n a _ b refl (shr_is _ n some) in
    record {
      ax = x * n;
      ay = y * n;
      bx = St l * q + y * Sg l;
      by = x * Sg l;
      slopes = worth_as _ _ _ (worth_scale n (slope_worth e l some above)) refl (mul_comm q n);
      offsets = offset_worth e l some above;
      low = floors_low n q (Sg l) (St l) x y g (up a) (down a) (up b) (down b) c.rest d.rest c.is c.less d.is d.less hg;
      high = floors_high n q (Sg l) (St l) x y g (up a) (down a) (up b) (down b) c.rest d.rest c.is c.less d.is d.less some hm;
    }
