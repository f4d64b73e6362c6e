-- All windows that a pixel lies in: the sums of slopes and of offsets are as near to the exact sums as each window is, times the number of
-- windows (`windows_near`). The exact sums stand over the product of the windows' bottoms. Assumes nothing.
use mathlib.Core.Path.{◌≡◌, ap}
use mathlib.Core.List.{List, [], ◌∷◌}
use Prim.Native.Nat.{ℕ, suc, ◌+◌, ◌*◌, ◌≤◌, ◌<◌}
use native.Mathlib.Nat.{mul-pos, mul-le-mul_left, mul-le-mul_right, mul_comm}
use native.Mathlib.Omega.{arith}
use lib.ListN.{length}
use lib.IntN.{ℤ, pos, ◌+ℤ◌}
use Rattle.rules.specs.Window.{total_z}
use Rattle.rules.specs.Transmission.{Sample, Sg, Sgg, Q, slope, offset}
use Rattle.rules.specs.Fraction.{Fraction, whole, ◌+ᶠ◌, sum}
use Rattle.rules.specs.Exact.{slopeᶠ, offsetᶠ}
use Rattle.rules.proofs.Spread.{Q_pos}
use Rattle.rules.proofs.Signs.{up, down, plus_is}
use Rattle.rules.proofs.Worth.{worth_whole, worth_scale, worth_add}
use Rattle.rules.proofs.Windowed.{All, none, more}
use Rattle.rules.proofs.WholeLine.{Under, Near, window_near}

-- over a larger bottom
under_scale : (g N D k c x u v w x' u' v' w' : ℕ) → N ≤ N * k → Under g N D c x u v w x' u' v' w' → Under g N (D * k) c (x * k) (u * k) v w (x' * k) (u' * k) v' w'
under_scale g N D k c x u v w x' u' v' w' m h = omega (arith, mul-le-mul_right k h)

near_scale : {g N D : ℕ} {A B : Fraction} {a b : ℤ} (k : ℕ) → 0 < k → Near g N A B a b D → Near g N A B a b (D * k)
near_scale {g} {N} {D} {A} {B} {a} {b} k h m =
    let c : N * 1 ≤ N * k = mul-le-mul_left N h in
    let d : N ≤ N * k = omega arith in
    record {
      ax = m.ax * k;
      ay = m.ay * k;
      bx = m.bx * k;
      by = m.by * k;
      slopes = worth_scale k m.slopes;
      offsets = worth_scale k m.offsets;
      low = under_scale g N D k 766 m.ax m.bx (down a) (down b) m.ay m.by (up a) (up b) d m.low;
      high = under_scale g N D k 765 m.ay m.by (up a) (up b) m.ax m.bx (down a) (down b) d m.high;
    }

-- two together, with a name for each product
linear_add : (a b c N a' b' c' d i j k M i' j' k' e l p q l' p' q' f : ℕ) → l ≡ a + i → l' ≡ a' + i' → p + (b' + j') ≡ b + j + p' → q + (c' + k') ≡ c + k + q' → f ≡ d + e
    → a + (b + c) + N ≤ a' + (b' + c') + d → i + (j + k) + M ≤ i' + (j' + k') + e → l + (p + q) + (N + M) ≤ l' + (p' + q') + f
linear_add a b c N a' b' c' d i j m M i' j' m' e l p q l' p' q' f h₁ h₂ h₃ h₄ h₅ h k = omega arith

under_add : (g D c N x u v w x' u' v' w' M X K E W X' K' E' W' s t s' t' : ℕ) → s + (v' + E') ≡ v + E + s' → t + (w' + W') ≡ w + W + t'
    → Under g N D c x u v w x' u' v' w' → Under g M D c X K E W X' K' E' W' → Under g (N + M) D c (x + X) (u + K) s t (x' + X') (u' + K') s' t'
under_add g D c N x u v w x' u' v' w' M X K E W X' K' E' W' s t s' t' e f h k =
    linear_add _ _ _ N _ _ _ _ _ _ _ M _ _ _ _ _ _ _ _ _ _ _ (pair x u X K) (pair x' u' X' K') (both s v' E' v E s' e) (each t w' W' w W t' f) (parts N M) h k
  where
    pair : (x u X K : ℕ) → 1024 * ((x + X) * g + (u + K)) ≡ 1024 * (x * g + u) + 1024 * (X * g + K)
    pair x u X K = omega arith

    both : (s v E v' E' s' : ℕ) → s + (v + E) ≡ v' + E' + s' → D * (s * g) + (D * (v * g) + D * (E * g)) ≡ D * (v' * g) + D * (E' * g) + D * (s' * g)
    both s v E v' E' s' e = omega (arith, ap (λ (n : ℕ). D * (n * g)) e)

    each : (s v E v' E' s' : ℕ) → s + (v + E) ≡ v' + E' + s' → D * s + (D * v + D * E) ≡ D * v' + D * E' + D * s'
    each s v E v' E' s' e = omega (arith, ap (λ (n : ℕ). D * n) e)

    parts : (N M : ℕ) → c * ((N + M) * D) ≡ c * (N * D) + c * (M * D)
    parts N M = omega arith

near_add : {g N M D : ℕ} {A B A' B' : Fraction} {a b a' b' : ℤ} → Near g N A B a b D → Near g M A' B' a' b' D → Near g (N + M) (A +ᶠ A') (B +ᶠ B') (a +ℤ a') (b +ℤ b') D
near_add {g} {N} {M} {D} {A} {B} {A'} {B'} {a} {b} {a'} {b'} m m' =
    let p = plus_is a a' in
    let q = plus_is b b' in
    record {
      ax = m.ax + m'.ax;
      ay = m.ay + m'.ay;
      bx = m.bx + m'.bx;
      by = m.by + m'.by;
      slopes = worth_add m.slopes m'.slopes;
      offsets = worth_add m.offsets m'.offsets;
      low = under_add g D 766 N _ _ _ _ _ _ _ _ M _ _ _ _ _ _ _ _ _ _ _ _ (omega (arith, p)) (omega (arith, q)) m.low m'.low;
      high = under_add g D 765 N _ _ _ _ _ _ _ _ M _ _ _ _ _ _ _ _ _ _ _ _ (omega (arith, p)) (omega (arith, q)) m.high m'.high;
    }

-- all windows: the bottom is the product of their n·Q
abbrev pub bottoms : ℕ → List (List Sample) → ℕ
bottoms e [] = 1
bottoms e (l ∷ ls) = length l * Q (length l) (Sg l) (Sgg l) e * bottoms e ls

-- a window has a pixel, and guides of at most 765
pub record Full (l : List Sample) : Type 0 where
  pub some : 0 < length l
  pub most : Sg l ≤ 765 * length l

pub bottoms_pos : (e : ℕ) → 0 < e → (ls : List (List Sample)) → All Full ls → 0 < bottoms e ls
bottoms_pos e h [] none = omega arith
bottoms_pos e h (l ∷ ls) (more i f) = mul-pos (mul-pos i.some (Q_pos e l i.some h)) (bottoms_pos e h ls f)

-- one window more
near_more : {g N d D : ℕ} {A B A' B' : Fraction} {a b a' b' : ℤ} → 0 < d → 0 < D → Near g 1 A B a b d → Near g N A' B' a' b' D
    → Near g (suc N) (A +ᶠ A') (B +ᶠ B') (a +ℤ a') (b +ℤ b') (d * D)
near_more {g} {N} {d} {D} hd hD here there =
    let one : 1 + N ≡ suc N = omega arith in
    rw one at (near_add (near_scale D hD here) (rw (mul_comm D d) at (near_scale d hd there)))

windows_none : (g : ℕ) → Near g 0 (whole 0) (whole 0) (pos 0) (pos 0) 1
windows_none g = record { ax = 0; ay = 0; bx = 0; by = 0; slopes = worth_whole 0; offsets = worth_whole 0; low = omega arith; high = omega arith }

pub windows_near : (e g : ℕ) → 0 < e → g ≤ 765 → (ls : List (List Sample)) → All Full ls
    → Near g (length ls) (sum (slopeᶠ e) ls) (sum (offsetᶠ e) ls) (total_z (slope e) ls) (total_z (offset e) ls) (bottoms e ls)
windows_near e g h hg [] none = windows_none g
windows_near e g h hg (l ∷ ls) (more i f) =
    near_more (mul-pos i.some (Q_pos e l i.some h)) (bottoms_pos e h ls f) (window_near e g l i.some h hg i.most) (windows_near e g h hg ls f)
