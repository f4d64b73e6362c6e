-- The filter's gain over a window, in exact arithmetic: two windows with the same guides, at most m² pixels, and coarse values at most h apart have
-- lines whose values at the guide of one of their pixels are at most (m + 1)·h apart (`window_gain`). For the sizes of the weights at a pixel sum to at
-- most 1 + m: by the mean of squares, and since the pixel's own distance from the mean is one of those squared. Assumes nothing.
use mathlib.Core.Path.{◌≡◌, refl, ap}
use mathlib.Core.List.{List, [], ◌∷◌}
use Prim.Native.Nat.{ℕ, zero, suc, ◌+◌, ◌-◌, ◌*◌, ◌≤◌, ◌<◌}
use native.Mathlib.Nat.{mul-le-mul_left, mul-le-mul_right, mul_comm}
use native.Mathlib.Omega.{arith}
use lib.ListN.{length}
use Rattle.rules.specs.Window.{total}
use Rattle.rules.specs.Transmission.{Sample, Sg, St, Sgg, Sgt, Q}
use Rattle.rules.specs.Exact.{slopeᶠ, offsetᶠ}
use Rattle.rules.proofs.Integers.{distance}
use Rattle.rules.proofs.Spread.{spread}
use Rattle.rules.proofs.Worth.{Worth, worth_as, worth_scale}
use Rattle.rules.proofs.WholeLine.{slope_worth, offset_worth}
use Rattle.rules.proofs.WholeLean.{lean, Apart, turn, same_length, same_total, St_apart, Has, has_le, far, sum_lean, sum_twice, sum_square, both}
use Rattle.rules.proofs.WholeSteps.{Step}

-- (n·g − Σg) times the difference of the two P, over plain numbers
leaned : (n sg g st sgt st' sgt' k : ℕ) → n * sgt + sg * st' ≤ sg * st + n * sgt' + k → n * sgt' + sg * st ≤ sg * st' + n * sgt + k
    → n * sgt * (n * g) + sg * st * sg + (sg * st' * (n * g) + n * sgt' * sg)
    ≤ n * sgt' * (n * g) + sg * st' * sg + (sg * st * (n * g) + n * sgt * sg) + k * distance (n * g) sg
leaned n sg g st sgt st' sgt' k p q = omega (arith, lean (n * g) sg (n * sgt + sg * st') (sg * st + n * sgt') k (omega arith) (omega arith))

-- and with the difference of the means
gained : (x y z x' y' z' st st' q n m h c C E : ℕ) → x + y + z ≤ x' + y' + z' + h * C * c → c * C ≤ m * E → E ≤ n * q → st ≤ st' + n * h
    → x + (st * q + y) + z ≤ x' + (st' * q + y') + z' + (m + 1) * h * (n * q)
gained x y z x' y' z' st st' q n m h c C E k d e s = omega (arith, k, mul-le-mul_left h d, mul-le-mul_left (h * m) e, mul-le-mul_right q s)

-- in the order of a step
placed : (n g x y z w x' y' z' w' k : ℕ) → x * (n * g) + y + (w' * (n * g) + z') ≤ x' * (n * g) + y' + (w * (n * g) + z) + k → x * n * g + y + (w' * n * g + z') ≤ x' * n * g + y' + (w * n * g + z) + k
placed n g x y z w x' y' z' w' k h = omega (arith, h)

-- the sum of squares is n·(n·Σg² − (Σg)²), at most n·Q
squared : (C n p r v w : ℕ) → C + 2 * (n * p) ≡ n * r + n * p → v + p ≡ r → C ≤ n * (v + w)
squared C n p r v w h e = omega (arith, h, ap (λ (i : ℕ). n * i) e)

module _ (e m h g : ℕ) {l l' : List Sample} (above : 0 < e) (most : length l ≤ m * m) (has : Has g l) (a : Apart h l l') where
  some : 0 < length l
  some = omega (arith, has_le (λ g. 1) has, ones l)
    where
      ones : (l : List Sample) → total (λ (i : Sample). 1) l ≡ length l
      ones [] = refl
      ones (i ∷ l) = omega (arith, ones l)

  spare : 0 < m
  spare = go m most
    where
      go : (m : ℕ) → length l ≤ m * m → 0 < m
      go zero k = let s = some in absurd (omega arith)
      go (suc m) k = omega arith

  squares : total (λ (i : Sample). far (length l) (Sg l) i.g * far (length l) (Sg l) i.g) l ≤ length l * Q (length l) (Sg l) (Sgg l) e
  squares =
      squared _ (length l) (Sg l * Sg l) (length l * Sgg l) (length l * Sgg l - Sg l * Sg l) (length l * length l * e) (omega (arith, sum_square (length l) (Sg l) l)) (omega (arith, spread l))

  -- the other window has the same n and Q
  other_slope : Worth (slopeᶠ e l') (length l * Sgt l') (Sg l * St l') (Q (length l) (Sg l) (Sgg l) e)
  other_slope = rw (same_length a, same_total (λ g. g) a, same_total (λ g. g * g) a) (slope_worth e l' (rw (same_length a) at some) above)

  other_offset :
      Worth
      (offsetᶠ e l')
      (St l' * Q (length l) (Sg l) (Sgg l) e + Sg l * St l' * Sg l)
      (length l * Sgt l' * Sg l)
      (length l * Q (length l) (Sg l) (Sgg l) e)
  other_offset = rw (same_length a, same_total (λ g. g) a, same_total (λ g. g * g) a) (offset_worth e l' (rw (same_length a) at some) above)

  pub window_gain : Step ((m + 1) * h) g 1 (slopeᶠ e l) (offsetᶠ e l) (slopeᶠ e l') (offsetᶠ e l') (length l * Q (length l) (Sg l) (Sgg l) e)
  window_gain =
      let n : ℕ = length l in
      let q : ℕ = Q (length l) (Sg l) (Sgg l) e in
      let C : ℕ = total (λ (i : Sample). far (length l) (Sg l) i.g) l in
      let p : n * Sgt l + Sg l * St l' ≤ Sg l * St l + n * Sgt l' + h * C = sum_lean n (Sg l) a in
      let p' : n * Sgt l' + Sg l * St l ≤ Sg l * St l' + n * Sgt l + h * C = rw (same_total (far (length l) (Sg l)) a) (sum_lean n (Sg l) (turn a)) in
      let d : far n (Sg l) g * C ≤ m * total (λ (i : Sample). far (length l) (Sg l) i.g * far (length l) (Sg l) i.g) l =
      both m (far n (Sg l) g) n C _ spare most (has_le (λ i. far n (Sg l) i * far n (Sg l) i) has) (sum_twice n (Sg l) m (far n (Sg l) g) l) in
      let k = gained _ _ _ _ _ _ (St l) (St l') q n m h (far n (Sg l) g) C _ (leaned n (Sg l) g (St l) (Sgt l) (St l') (Sgt l') (h * C) p p') d squares (St_apart a) in
      let one : (m + 1) * h * (1 * (n * q)) ≡ (m + 1) * h * (n * q) = omega arith in
      record {
        ax = n * Sgt l * n;
        ay = Sg l * St l * n;
        bx = St l * q + Sg l * St l * Sg l;
        by = n * Sgt l * Sg l;
        cx = n * Sgt l' * n;
        cy = Sg l * St l' * n;
        dx = St l' * q + Sg l * St l' * Sg l;
        dy = n * Sgt l' * Sg l;
        a = worth_as _ _ _ (worth_scale n (slope_worth e l some above)) refl (mul_comm q n);
        b = offset_worth e l some above;
        c = worth_as _ _ _ (worth_scale n other_slope) refl (mul_comm q n);
        d = other_offset;
        le = rw one (placed n g (n * Sgt l) _ _ (Sg l * St l) (n * Sgt l') _ _ (Sg l * St l') _ k);
      }
