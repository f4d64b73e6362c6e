-- What a fraction is worth, (x − y) / D in naturals (`Worth`), with a law for each operation, for sums and for means. So an
-- equation of the paper becomes one in naturals, step by step. Assumes nothing.
use mathlib.Core.Path.{◌≡◌, refl, ap}
use mathlib.Core.List.{List, [], ◌∷◌}
use Prim.Native.Nat.{ℕ, zero, suc, ◌+◌, ◌*◌, ◌<◌}
use native.Mathlib.Nat.{mul-pos, mul-mul-mul_comm, eq_of_mul-eq-mul_left}
use native.Mathlib.Omega.{arith}
use lib.ListN.{length}
use lib.IntN.{ℤ, pos, negsuc, ◌*ℤ◌}
use Rattle.rules.specs.Window.{total}
use Rattle.rules.specs.Fraction.{Fraction, whole, ◌+ᶠ◌, ◌-ᶠ◌, ◌*ᶠ◌, turned, ◌/ᶠ◌, sum, mean}
use Rattle.rules.proofs.Signs.{up, down, plus_is, minus_is, times_is}

pub record Worth (p : Fraction) (x y D : ℕ) : Type 0 where
  pub some : 0 < p.bottom
  pub same : up p.top * D + y * p.bottom ≡ x * p.bottom + down p.top * D

-- the same, written otherwise
pub worth_as : {p : Fraction} {x y D : ℕ} (x' y' D' : ℕ) → Worth p x y D → x + y' ≡ x' + y → D ≡ D' → Worth p x' y' D'
worth_as {p} {x} {y} {D} x' y' D' w e d =
    let k = ap (λ (n : ℕ). n * p.bottom) e in
    let s = w.same in
    let r : Worth p x' y' D = record { some = w.some; same = omega arith } in
    rw d at r

pub worth_scale : {p : Fraction} {x y D : ℕ} (k : ℕ) → Worth p x y D → Worth p (x * k) (y * k) (D * k)
worth_scale {p} {x} {y} {D} k w = let s = ap (λ (n : ℕ). n * k) w.same in record { some = w.some; same = omega arith }

pub worth_cancel : {p : Fraction} {x y D : ℕ} (k : ℕ) → 0 < k → Worth p (x * k) (y * k) (D * k) → Worth p x y D
worth_cancel {p} {x} {y} {D} k h w =
    let s = w.same in
    record { some = w.some; same = eq_of_mul-eq-mul_left k h (up p.top * D + y * p.bottom) (x * p.bottom + down p.top * D) (omega arith) }

pub worth_whole : (n : ℕ) → Worth (whole n) n 0 1
unfolding whole
worth_whole n = record { some = omega arith; same = omega arith }

pub worth_over : (n D : ℕ) → Worth (whole n) (n * D) 0 D
worth_over n D = worth_as (n * D) 0 D (worth_scale D (worth_whole n)) (omega arith) (omega arith)

-- over plain numbers: u − d over b and u' − d' over b' give K − L over b·b'
module _ (u d b u' d' b' x y x' y' K L : ℕ) where
  plain_add : (D : ℕ) → K + (d * b' + d' * b) ≡ u * b' + u' * b + L → u * D + y * b ≡ x * b + d * D → u' * D + y' * b' ≡ x' * b' + d' * D
      → K * D + (y + y') * (b * b') ≡ (x + x') * (b * b') + L * D
  plain_add D e h h' =
      let k = ap (λ (n : ℕ). n * D) e in
      let l = ap (λ (n : ℕ). n * b') h in
      let l' = ap (λ (n : ℕ). n * b) h' in
      omega (arith, k, l, l')

  plain_mul : (D D' : ℕ) → K + (u * d' + d * u') ≡ u * u' + d * d' + L → u * D + y * b ≡ x * b + d * D → u' * D' + y' * b' ≡ x' * b' + d' * D'
      → K * (D * D') + (x * y' + y * x') * (b * b') ≡ (x * x' + y * y') * (b * b') + L * (D * D')
  plain_mul D D' e h h' =
      join (D * D') (b * b') (product (u * D) (d * D) (x * b) (y * b) (u' * D') (d' * D') (x' * b') (y' * b') h h') e
      (mul-mul-mul_comm u u' D D') (mul-mul-mul_comm d d' D D') (mul-mul-mul_comm u d' D D') (mul-mul-mul_comm d u' D D')
      (mul-mul-mul_comm x x' b b') (mul-mul-mul_comm y y' b b') (mul-mul-mul_comm x y' b b') (mul-mul-mul_comm y x' b b')
    where
      -- (u − d)·(u' − d') = (x − y)·(x' − y') where u − d = x − y and u' − d' = x' − y'
      product : (u d x y u' d' x' y' : ℕ) → u + y ≡ x + d → u' + y' ≡ x' + d' → u * u' + d * d' + x * y' + y * x' ≡ x * x' + y * y' + u * d' + d * u'
      product u d x y u' d' x' y' h h' =
          let a = ap (λ (n : ℕ). u * n) h' in
          let c = ap (λ (n : ℕ). d * n) h' in
          let l = ap (λ (n : ℕ). n * x') h in
          let m = ap (λ (n : ℕ). n * y') h in
          omega (arith, a, c, l, m)

      join : {uu dd ud du xx yy xy yx : ℕ} (W B : ℕ) → uu + dd + xy + yx ≡ xx + yy + ud + du → K + (u * d' + d * u') ≡ u * u' + d * d' + L
          → u * u' * W ≡ uu → d * d' * W ≡ dd → u * d' * W ≡ ud → d * u' * W ≡ du → x * x' * B ≡ xx → y * y' * B ≡ yy → x * y' * B ≡ xy → y * x' * B ≡ yx
          → K * W + (x * y' + y * x') * B ≡ (x * x' + y * y') * B + L * W
      join W B f e e₁ e₂ e₃ e₄ e₅ e₆ e₇ e₈ = let k = ap (λ (n : ℕ). n * W) e in omega (arith, k)

module _ {p q : Fraction} {x y x' y' : ℕ} where
  pub worth_add : {D : ℕ} → Worth p x y D → Worth q x' y' D → Worth (p +ᶠ q) (x + x') (y + y') D
  unfolding ◌+ᶠ◌
  worth_add {D} w v =
      let a = times_is p.top (pos q.bottom) in
      let b = times_is q.top (pos p.bottom) in
      let c = plus_is (p.top *ℤ pos q.bottom) (q.top *ℤ pos p.bottom) in
      record {
        some = mul-pos w.some v.some;
        same = plain_add (up p.top) (down p.top) p.bottom (up q.top) (down q.top) q.bottom x y x' y' _ _ D (omega (arith, a, b, c)) w.same v.same;
      }

  pub worth_sub : {D : ℕ} → Worth p x y D → Worth q x' y' D → Worth (p -ᶠ q) (x + y') (y + x') D
  unfolding ◌-ᶠ◌
  worth_sub {D} w v =
      let a = times_is p.top (pos q.bottom) in
      let b = times_is q.top (pos p.bottom) in
      let c = minus_is (p.top *ℤ pos q.bottom) (q.top *ℤ pos p.bottom) in
      let s = v.same in
      record {
        some = mul-pos w.some v.some;
        same = plain_add (up p.top) (down p.top) p.bottom (down q.top) (up q.top) q.bottom x y y' x' _ _ D (omega (arith, a, b, c)) w.same (omega (arith, s));
      }

  pub worth_mul : {D D' : ℕ} → Worth p x y D → Worth q x' y' D' → Worth (p *ᶠ q) (x * x' + y * y') (x * y' + y * x') (D * D')
  unfolding ◌*ᶠ◌
  worth_mul {D} {D'} w v =
      record {
        some = mul-pos w.some v.some;
        same = plain_mul (up p.top) (down p.top) p.bottom (up q.top) (down q.top) q.bottom x y x' y' _ _ D D' (times_is p.top q.top) w.same v.same;
      }

-- by a number above 0
turned_worth : (z : ℤ) (b x D : ℕ) → 0 < x → 0 < b → up z * D + 0 * b ≡ x * b + down z * D → Worth (turned z b) D 0 x
unfolding turned
turned_worth (pos zero) b x D hx hb e = absurd (omega (arith, mul-pos hx hb))
turned_worth (pos (suc n)) b x D hx hb e = record { some = omega arith; same = omega arith }
turned_worth (negsuc n) b x D hx hb e = absurd (omega (arith, mul-pos hx hb))

pub worth_div : {p q : Fraction} {x y D x' D' : ℕ} → Worth p x y D → Worth q x' 0 D' → 0 < x' → Worth (p /ᶠ q) (x * D') (y * D') (D * x')
unfolding ◌/ᶠ◌
worth_div {p} {q} {x} {y} {D} {x'} {D'} w v h =
    let t = turned_worth q.top q.bottom x' D' h v.some v.same in
    worth_as (x * D') (y * D') (D * x') (worth_mul w t) (omega arith) refl

pub worth_part : (n b D : ℕ) → 0 < b → Worth (whole n /ᶠ whole b) (n * D) 0 (D * b)
worth_part n b D h = worth_as (n * D) 0 (D * b) (worth_scale D (worth_div (worth_whole n) (worth_whole b) h)) (omega arith) (omega arith)

-- sums and means of whole numbers
pub worth_sum : {A : Type 0} (f : A → Fraction) (g : A → ℕ) → ((i : A) → Worth (f i) (g i) 0 1) → (l : List A) → Worth (sum f l) (total g l) 0 1
worth_sum f g h [] = worth_whole 0
worth_sum f g h (i ∷ l) = worth_add (h i) (worth_sum f g h l)

pub worth_mean : {A : Type 0} (f : A → Fraction) (g : A → ℕ) → ((i : A) → Worth (f i) (g i) 0 1) → (l : List A) → 0 < length l → Worth (mean f l) (total g l) 0 (length l)
worth_mean f g h l n = worth_as (total g l) 0 (length l) (worth_div (worth_sum f g h l) (worth_whole (length l)) n) (omega arith) (omega arith)

pub worth_times : (a b : ℕ) → Worth (whole a *ᶠ whole b) (a * b) 0 1
worth_times a b = worth_as (a * b) 0 1 (worth_mul (worth_whole a) (worth_whole b)) (omega arith) (omega arith)

-- equation 19, from sums of N slopes and of N offsets
pub worth_line : {p q : Fraction} {x y x' y' D : ℕ} (g N : ℕ) → 0 < N → Worth p x y D → Worth q x' y' D
    → Worth (p /ᶠ whole N *ᶠ whole g +ᶠ q /ᶠ whole N) (x * g + x') (y * g + y') (D * N)
worth_line {p} {q} {x} {y} {x'} {y'} {D} g N h w v =
    let s = worth_mul (worth_div w (worth_whole N) h) (worth_whole g) in
    worth_add (worth_as (x * g) (y * g) (D * N) s (omega arith) (omega arith)) (worth_as x' y' (D * N) (worth_div v (worth_whole N) h) (omega arith) refl)
