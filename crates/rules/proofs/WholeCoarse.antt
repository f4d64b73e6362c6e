-- The coarse value against equation 14 in exact arithmetic: never too low, and less than 1 + ω ten-thousandths too high (`coarse_off`).
-- Assumes nothing.
use mathlib.Core.Path.{◌≡◌, ap}
use mathlib.Core.List.{List, [], ◌∷◌, map}
use Prim.Native.Nat.{ℕ, ◌+◌, ◌*◌, ◌/◌, min, ◌≤◌, ◌<◌}
use native.Mathlib.Nat.{mul-pos, mul-div-le, lt-mul-div-succ, lt_of_mul-lt-mul_left, min_comm, mul-le-mul, mul-le-mul_left, mul-le-mul_right, mul-lt-mul_of_pos_right, mul_comm}
use native.Mathlib.Decide.{dec_le}
use native.Mathlib.Omega.{arith}
use Rattle.rules.specs.Shape.{Shape}
use Rattle.rules.specs.declared.Settings.{Settings}
use Rattle.rules.specs.declared.Rgb.{Rgb}
use Rattle.rules.specs.Window.{Plane, Shown, window, least}
use Rattle.rules.specs.Transmission.{ratio, least_ratio, coarse_of, coarse}
use Rattle.rules.specs.Good.{GoodLight}
use Rattle.rules.specs.Fraction.{Fraction, whole, ◌/ᶠ◌, smaller, Over}
use Rattle.rules.specs.Exact.{ratioᶠ, least_ratioᶠ, leastᶠ, coarse_ofᶠ, coarseᶠ, coarse_over}
use Rattle.rules.proofs.Worth.{Worth, worth_as, worth_scale, worth_cancel, worth_whole, worth_over, worth_part, worth_add, worth_sub, worth_mul, worth_div}
use Rattle.rules.proofs.WorthOrder.{lt_worth, le_worth, smaller_is}
use Rattle.rules.proofs.Windowed.{map_window}

-- d ten-thousandths is p rounded down
record Cuts (p : Fraction) (d : ℕ) : Type 0 where
  x : ℕ
  D : ℕ
  worth : Worth p x 0 D
  some : 0 < D
  most : d * D ≤ 10000 * x
  least : 10000 * x < (d + 1) * D

cuts_whole : Cuts (whole 1) 10000
cuts_whole = record { x = 1; D = 1; worth = worth_whole 1; some = omega arith; most = omega arith; least = omega arith }

cuts_quotient : (i a : ℕ) → 0 < a → Cuts (whole i /ᶠ whole a) (10000 * i / a)
cuts_quotient i a h =
    let l = mul-div-le (10000 * i) a in
    let g = lt-mul-div-succ (10000 * i) {b = a} h in
    record {
      x = i;
      D = a;
      worth = worth_as i 0 a (worth_div (worth_whole i) (worth_whole a) h) (omega arith) (omega arith);
      some = h;
      most = omega (arith, l);
      least = omega (arith, g);
    }

-- the smaller of two, the one that is chosen first
cuts_first : {p q : Fraction} {d e : ℕ} (c : Cuts p d) (k : Cuts q e) → c.x * k.D ≤ k.x * c.D → Cuts p (min d e)
cuts_first {p} {q} {d} {e} c k h =
    record { x = c.x; D = c.D; worth = c.worth; some = c.some; most = go (dec_le d e); least = so (dec_le d e) }
  where
    go : Dec (d ≤ e) → min d e * c.D ≤ 10000 * c.x
    go (yes l) = let m : min d e ≡ d = omega arith in rw m c.most
    go (no l) = let m : min d e ≤ d = omega arith in let n = mul-le-mul_right c.D m in omega (arith, n, c.most)

    so : Dec (d ≤ e) → 10000 * c.x < (min d e + 1) * c.D
    so (yes l) = let m : min d e ≡ d = omega arith in rw m c.least
    so (no l) =
        let m : min d e ≡ e = omega arith in
        let n = mul-lt-mul_of_pos_right {k = c.D} k.least c.some in
        rw m (lt_of_mul-lt-mul_left k.D (omega (arith, n, h)))

cuts_min : {p q : Fraction} {d e : ℕ} → Cuts p d → Cuts q e → Cuts (smaller p q) (min d e)
cuts_min {p} {q} {d} {e} c k =
    let w = worth_as (k.x * c.D) 0 (c.D * k.D) (worth_scale c.D k.worth) (omega arith) (mul_comm k.D c.D) in
    smaller_is (mul-pos c.some k.some) (worth_scale k.D c.worth) w (λ r. Cuts r (min d e))
    (λ h. cuts_first c k (omega arith))
    (λ h. rw (min_comm d e) (cuts_first k c (omega arith)))

cuts_ratio : (i a : ℕ) → 0 < a → Cuts (ratioᶠ i a) (ratio i a)
unfolding ratioᶠ
cuts_ratio i a h = cuts_min (cuts_quotient i a h) cuts_whole

cuts_pixel : (a i : Rgb) → GoodLight a → Cuts (least_ratioᶠ a i) (least_ratio a i)
unfolding least_ratioᶠ
cuts_pixel a i h = cuts_min (cuts_ratio i.r a.r h.red) (cuts_min (cuts_ratio i.g a.g h.green) (cuts_ratio i.b a.b h.blue))

cuts_list : (a : Rgb) → GoodLight a → (l : List Rgb) → Cuts (leastᶠ (map (least_ratioᶠ a) l)) (least 10000 (map (least_ratio a) l))
cuts_list a h [] = cuts_whole
cuts_list a h (i ∷ l) = cuts_min (cuts_pixel a i h) (cuts_list a h l)

least_top : (l : List ℕ) → least 10000 l ≤ 10000
least_top [] = omega arith
least_top (i ∷ l) = let h = least_top l in omega arith

-- over plain numbers: c is ω·d/10000 rounded down
module _ (ω d c x D : ℕ) (c₁ : 10000 * c ≤ ω * d) (c₂ : ω * d < 10000 * c + 10000) (d₁ : d * D ≤ 10000 * x) (d₂ : 10000 * x < (d + 1) * D) where
  coarse_low : c * D ≤ ω * x
  coarse_low = let a = mul-le-mul_right D c₁ in let b = mul-le-mul_left ω d₁ in omega (arith, a, b)

  coarse_high : 0 < D → 10000 * (ω * x) < 10000 * (c * D) + 10000 * D + ω * D
  coarse_high h = let a = mul-le-mul_right D c₂ in let b = mul-le-mul_left ω d₂ in omega (arith, a, b)

-- from d and its exact p
coarse_at : (ω c t D x : ℕ) (p : Fraction) → t + c ≡ 10000 → Worth p x 0 D → 0 < D → c * D ≤ ω * x → 10000 * (ω * x) < 10000 * (c * D) + 10000 * D + ω * D
    → Over (coarse_over ω) t (coarse_ofᶠ ω p)
coarse_at ω c t D x p e w some lo hi =
    let u = worth_as (ω * x) 0 (D * 10000) (worth_mul (worth_part ω 10000 1 (omega arith)) w) (omega arith) (omega arith) in
    let m = worth_mul (worth_whole 10000) (worth_sub (worth_over 1 (D * 10000)) u) in
    let v = worth_cancel 10000 (omega arith) (worth_as (10000 * D * 10000) (ω * x * 10000) (D * 10000) m (omega arith) (omega arith)) in
    let b : Worth (coarse_over ω) _ _ (D * 10000) = worth_add (worth_over _ (D * 10000)) (worth_part ω 10000 D (omega arith)) in
    let k = ap (λ (n : ℕ). n * D) e in
    record {
      number = v.some;
      low = le_worth some v (worth_over t D) (omega (arith, k, lo));
      high = lt_worth (omega (arith, some)) (worth_over t (D * 10000)) (worth_add (worth_scale 10000 v) b) (omega (arith, k, hi));
    }

coarse_of_lem : (ω d : ℕ) (p : Fraction) → ω ≤ 10000 → d ≤ 10000 → Cuts p d → Over (coarse_over ω) (coarse_of ω d) (coarse_ofᶠ ω p)
coarse_of_lem ω d p hω hd k =
    let c : ℕ = ω * d / 10000 in
    let l : 10000 * c ≤ ω * d = mul-div-le (ω * d) 10000 in
    let g : ω * d < 10000 * (c + 1) = lt-mul-div-succ (ω * d) {b = 10000} (omega arith) in
    let m : ω * d ≤ 10000 * 10000 = mul-le-mul hω hd in
    let g' : ω * d < 10000 * c + 10000 = omega (arith, g) in
    coarse_at ω c (coarse_of ω d) k.D k.x p (omega arith) k.worth k.some (coarse_low ω d c k.x k.D l g' k.most k.least)
    (coarse_high ω d c k.x k.D l g' k.most k.least k.some)

pub coarse_off : (z : Shape) (k : Settings) (a : Rgb) (f : Plane (Shown Rgb)) (y x : ℕ) → GoodLight a → k.omega ≤ 10000
    → Over (coarse_over k.omega) (coarse z k a f y x) (coarseᶠ z k a f y x)
unfolding coarse coarseᶠ
coarse_off z k a f y x h ho =
    let l : List Rgb = window z k.s f y x in
    rw (map_window (least_ratio a) z k.s f y x, map_window (least_ratioᶠ a) z k.s f y x) at
    (coarse_of_lem k.omega (least 10000 (map (least_ratio a) l)) (leastᶠ (map (least_ratioᶠ a) l)) ho (least_top (map (least_ratio a) l)) (cuts_list a h l))
