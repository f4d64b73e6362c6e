-- What the quotients of document 01 are, by inequalities and with no division: slope and offset, the refined value, the ratio of a byte, the coarse value,
-- the hazed byte (`..-is`). No other number has what is said of them (`..-one`). Assumes nothing.
use mathlib.Core.Path.{◌≡◌, refl, sym, ap, ◌∙◌}
use mathlib.Core.List.{List}
use Prim.Native.Nat.{ℕ, zero, suc, ◌+◌, ◌-◌, ◌*◌, ◌/◌, ◌≤◌, ◌<◌}
use native.Mathlib.Nat.{mul-le-mul, div-mul-le_self, lt-mul-div-succ, div-eq_of_lt-le, le-div_iff_mul-le}
use native.Mathlib.Omega.{arith}
use lib.ListN.{length}
use lib.IntN.{ℤ, pos, negsuc, neg_ℤ, ◌+ℤ◌, ◌-ℤ◌, ◌*ℤ◌, +ℤ_one}
use lib.Dec.{T, leb→le, le→leb, ltb→lt, lt→ltb}
use lib.Signed.{shr_z, le_z, lt_z, ◌≤ℤ◌, ◌<ℤ◌}
use Rattle.rules.specs.Window.{total, total_z}
use Rattle.rules.specs.Transmission.{Sample, Line, ratio, coarse_of, slope, offset, line, held, refine}
use Rattle.rules.specs.Picture.{haze}
use Rattle.rules.proofs.Integers.{neg_times, distance}
use Rattle.rules.proofs.Spread.{Q_pos, Q_whole}

-- ---- p / q, rounded down

-- f times q is at most p, and f + 1 times q is above it
pub record Floor (p q f : ℤ) : Type 0 where
  pub most : (f *ℤ q) ≤ℤ p
  pub above : p <ℤ ((f +ℤ pos 1) *ℤ q)

neg_le : (x a : ℕ) → suc a ≤ x → T (le_z (neg_ℤ (pos x)) (negsuc a))
neg_le zero a h = absurd (omega arith)
neg_le (suc x) a h = le→leb a x (omega arith)

le_neg : (x a : ℕ) → T (le_z (neg_ℤ (pos x)) (negsuc a)) → suc a ≤ x
le_neg zero a t = absurd t
le_neg (suc x) a t = omega (arith, leb→le a x t)

neg_lt : (x a : ℕ) → x ≤ a → T (lt_z (negsuc a) (neg_ℤ (pos x)))
neg_lt zero a h = tt
neg_lt (suc x) a h = lt→ltb x a (omega arith)

lt_neg : (x a : ℕ) → T (lt_z (negsuc a) (neg_ℤ (pos x))) → x ≤ a
lt_neg zero a t = omega arith
lt_neg (suc x) a t = ltb→lt x a t

not_lt_neg : (x a : ℕ) → T (lt_z (pos a) (neg_ℤ (pos x))) → ⊥
not_lt_neg zero a t = let h = ltb→lt a 0 t in omega arith
not_lt_neg (suc x) a t = t

-- one more than a negative number, times q
one_more : (n q : ℕ) → (negsuc n +ℤ pos 1) *ℤ pos q ≡ neg_ℤ (pos (n * q))
one_more n q = ap (λ (z : ℤ). z *ℤ pos q) (up n) ∙ neg_times (pos n) q
  where
    up : (n : ℕ) → negsuc n +ℤ pos 1 ≡ neg_ℤ (pos n)
    up zero = refl
    up (suc n) = +ℤ_one (negsuc (suc n))

pub floor_is : (p : ℤ) (q : ℕ) → 0 < q → Floor p (pos q) (shr_z p q)
floor_is (pos a) q h =
    record { most = record { le = le→leb _ a (div-mul-le_self a q) }; above = record { lt = lt→ltb a ((a / q + 1) * q) (omega (arith, lt-mul-div-succ a h)) } }
floor_is (negsuc a) q h =
    record {
      most = record { le = neg_le (suc (a / q) * q) a (omega (arith, lt-mul-div-succ a h)) };
      above = record { lt = rw (one_more (a / q) q) (neg_lt _ a (div-mul-le_self a q)) };
    }

pub floor_one : (p : ℤ) (q : ℕ) (f : ℤ) → Floor p (pos q) f → f ≡ shr_z p q
floor_one (pos a) q (pos n) h = ap pos (sym (div-eq_of_lt-le q (leb→le _ a h.most.le) (ltb→lt a _ h.above.lt)))
floor_one (pos a) q (negsuc n) h = absurd (not_lt_neg (n * q) a (rw (one_more n q) at h.above.lt))
floor_one (negsuc a) q (pos n) h = absurd h.most.le
floor_one (negsuc a) q (negsuc n) h =
    let low = lt_neg (n * q) a (rw (one_more n q) at h.above.lt) in
    let high = le_neg (suc n * q) a h.most.le in
    ap negsuc (sym (div-eq_of_lt-le {k = n} q {m = a} low (omega arith)))

-- ---- slope and offset of a window, over the sums of its samples

abbrev pub Σg : List Sample → ℕ
Σg l = total (λ i. i.g) l

abbrev pub Σt : List Sample → ℕ
Σt l = total (λ i. i.t) l

-- P and Q in ℤ, where nothing is cut off
abbrev pub PZ : List Sample → ℤ
PZ l = pos (length l * total (λ i. i.g * i.t) l) -ℤ pos (Σg l * Σt l)

abbrev pub QZ : ℕ → List Sample → ℤ
QZ e l = pos (length l * total (λ i. i.g * i.g) l) -ℤ pos (Σg l * Σg l) +ℤ pos (length l * length l * e)

-- the slope is 1024·P / Q, the offset is (1024·St − slope·Sg) / n, both rounded down
pub record Fitted (e : ℕ) (l : List Sample) (i : Line) : Type 0 where
  pub slopes : Floor (pos 1024 *ℤ PZ l) (QZ e l) i.a
  pub offsets : Floor (pos 1024 *ℤ pos (Σt l) -ℤ i.a *ℤ pos (Σg l)) (pos (length l)) i.b

pub fitted_is : (e : ℕ) (l : List Sample) → 0 < e → 0 < length l → Fitted e l (line e l)
unfolding line
fitted_is e l h some = record { slopes = rw (sym (Q_whole e l)) (floor_is _ _ (Q_pos e l some h)); offsets = floor_is _ _ some }

pub fitted_one : (e : ℕ) (l : List Sample) (i : Line) → Fitted e l i → i ≡ line e l
unfolding line
fitted_one e l i h =
    let a : i.a ≡ slope e l = floor_one _ _ _ (rw (sym (Q_whole e l)) at h.slopes) in
    let b : i.b ≡ offset e l = floor_one _ _ _ (rw a at h.offsets) in
    (λ k. record { a = a k; b = b k })

-- ---- the refined value

-- v held into 0..top
pub record Held (top : ℕ) (v : ℤ) (t : ℕ) : Type 0 where
  pub under : v ≤ℤ pos 0 → t ≡ 0
  pub over : pos top ≤ℤ v → t ≡ top
  pub within : pos 0 ≤ℤ v → v ≤ℤ pos top → pos t ≡ v

pub held_is : (top : ℕ) (v : ℤ) → Held top v (held top v)
held_is top (pos n) =
    record {
      under = λ h. omega (arith, leb→le n 0 h.le);
      over = λ h. omega (arith, leb→le top n h.le);
      within = λ h k. ap pos (omega (arith, leb→le n top k.le));
    }
held_is top (negsuc n) = record { under = λ h. refl; over = λ h. absurd h.le; within = λ h k. absurd h.le }

-- v is (Σa·g + Σb) / (1024·n), rounded down (by `floor_is` there is one), and the refined value is v held into 0..10,000
pub refined_is :
    (g : ℕ) (l : List Line) (v : ℤ)
    → Floor (total_z (λ i. i.a) l *ℤ pos g +ℤ total_z (λ i. i.b) l) (pos 1024 *ℤ pos (length l)) v
    → Held 10000 v (refine g l)
unfolding refine
refined_is g l v h = rw (floor_one _ _ v h) (held_is 10000 _)

-- ---- ratio, coarse value, hazed byte

-- the greatest number to 10,000 that is at most 10000·i / a
pub record Ratio (i a q : ℕ) : Type 0 where
  pub cap : q ≤ 10000
  pub most : q * a ≤ 10000 * i
  pub greatest : (n : ℕ) → n ≤ 10000 → n * a ≤ 10000 * i → n ≤ q

pub ratio_is : (i a : ℕ) → 0 < a → Ratio i a (ratio i a)
ratio_is i a h =
    let k = le-div_iff_mul-le {k = a} {x = ratio i a} {y = 10000 * i} h in
    record {
      cap = omega arith;
      most = k.0 (omega arith);
      greatest = λ n c m. (let l = (le-div_iff_mul-le {k = a} {x = n} {y = 10000 * i} h).1 m in omega arith);
    }

pub ratio_one : (i a p q : ℕ) → Ratio i a p → Ratio i a q → p ≡ q
ratio_one i a p q h k = omega (arith, h.greatest q k.cap k.most, k.greatest p h.cap h.most)

-- t is what omega·d / 10000, rounded down, leaves of 10,000
pub record Coarse (omega d t : ℕ) : Type 0 where
  pub cap : t ≤ 10000
  pub most : 10000 * (10000 - t) ≤ omega * d
  pub above : omega * d < 10000 * (10000 - t + 1)

pub coarse_is : (w d : ℕ) → w ≤ 10000 → d ≤ 10000 → Coarse w d (coarse_of w d)
coarse_is w d h k = let m = mul-le-mul h k in record { cap = omega arith; most = omega arith; above = omega arith }

pub coarse_one : (w d t u : ℕ) → Coarse w d t → Coarse w d u → t ≡ u
coarse_one w d t u h k = omega arith

-- h is the mix of j and a, by t parts and s parts of 10,000, to the nearest level
pub record Hazed (a j t s h : ℕ) : Type 0 where
  pub most : 10000 * h ≤ j * t + a * s + 5000
  pub above : j * t + a * s + 5000 < 10000 * (h + 1)

pub haze_is : (a j t s : ℕ) → t + s ≡ 10000 → Hazed a j t s (haze a j t)
haze_is a j t s e = let f : 10000 - t ≡ s = omega arith in rw f (record { most = omega arith; above = omega arith })

pub haze_one : (a j t s g h : ℕ) → Hazed a j t s g → Hazed a j t s h → g ≡ h
haze_one a j t s g h x y = omega arith

-- so it is at most half a level from the mix itself
pub haze_near : (a j t s : ℕ) → t + s ≡ 10000 → 2 * distance (10000 * haze a j t) (j * t + a * s) ≤ 10000
haze_near a j t s e = let h = haze_is a j t s e in omega arith
