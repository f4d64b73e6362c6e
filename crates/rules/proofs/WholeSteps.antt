-- Two families of lines, window by window: where each pair of lines is at most H apart at a guide, so are the means of equation 19 (`steps`,
-- `step_mean`). Assumes nothing.
use mathlib.Core.Path.{◌≡◌}
use mathlib.Core.List.{List, [], ◌∷◌}
use Prim.Native.Nat.{ℕ, suc, ◌+◌, ◌*◌, ◌≤◌, ◌<◌}
use native.Mathlib.Nat.{mul-pos, mul-le-mul_right, mul_comm}
use native.Mathlib.Omega.{arith}
use lib.ListN.{length}
use Rattle.rules.specs.Fraction.{Fraction, whole, ◌+ᶠ◌, ◌*ᶠ◌, ◌/ᶠ◌, sum, Upto}
use Rattle.rules.proofs.Worth.{Worth, worth_whole, worth_over, worth_scale, worth_add, worth_line}
use Rattle.rules.proofs.WorthOrder.{le_worth}
use Rattle.rules.proofs.Windowed.{All, none, more}

-- slopes A and C and offsets B and D, or sums of N of each, over E: at a guide g, A·g + B is at most C·g + D + H·N
pub record Step (H g N : ℕ) (A B C D : Fraction) (E : ℕ) : Type 0 where
  pub ax : ℕ
  pub ay : ℕ
  pub bx : ℕ
  pub by : ℕ
  pub cx : ℕ
  pub cy : ℕ
  pub dx : ℕ
  pub dy : ℕ
  pub a : Worth A ax ay E
  pub b : Worth B bx by E
  pub c : Worth C cx cy E
  pub d : Worth D dx dy E
  pub le : ax * g + bx + (cy * g + dy) ≤ cx * g + dx + (ay * g + by) + H * (N * E)

module _ {H g : ℕ} {A B C D : Fraction} where
  step_scale : {N E : ℕ} (k : ℕ) → Step H g N A B C D E → Step H g N A B C D (E * k)
  step_scale k s =
      record {
        ax = s.ax * k;
        ay = s.ay * k;
        bx = s.bx * k;
        by = s.by * k;
        cx = s.cx * k;
        cy = s.cy * k;
        dx = s.dx * k;
        dy = s.dy * k;
        a = worth_scale k s.a;
        b = worth_scale k s.b;
        c = worth_scale k s.c;
        d = worth_scale k s.d;
        le = omega (arith, mul-le-mul_right k s.le);
      }

  step_add : {A' B' C' D' : Fraction} {N M E : ℕ} → Step H g N A B C D E → Step H g M A' B' C' D' E → Step H g (N + M) (A +ᶠ A') (B +ᶠ B') (C +ᶠ C') (D +ᶠ D') E
  step_add s s' =
      record {
        ax = s.ax + s'.ax;
        ay = s.ay + s'.ay;
        bx = s.bx + s'.bx;
        by = s.by + s'.by;
        cx = s.cx + s'.cx;
        cy = s.cy + s'.cy;
        dx = s.dx + s'.dx;
        dy = s.dy + s'.dy;
        a = worth_add s.a s'.a;
        b = worth_add s.b s'.b;
        c = worth_add s.c s'.c;
        d = worth_add s.d s'.d;
        le = omega (arith, s.le, s'.le);
      }

  -- the means
  pub step_mean : {N E : ℕ} → 0 < N → 0 < E → Step H g N A B C D E → Upto (whole H) (A /ᶠ whole N *ᶠ whole g +ᶠ B /ᶠ whole N) (C /ᶠ whole N *ᶠ whole g +ᶠ D /ᶠ whole N)
  step_mean {N} {E} hN hE s =
      let p = worth_line g N hN s.a s.b in
      let q = worth_line g N hN s.c s.d in
      record { number = p.some; other = q.some; most = le_worth (mul-pos hE hN) p (worth_add q (worth_over H (E * N))) (omega (arith, s.le)) }

step_more :
    {H g N E F : ℕ} {A B C D A' B' C' D' : Fraction}
    → Step H g 1 A B C D E
    → Step H g N A' B' C' D' F
    → Step H g (suc N) (A +ᶠ A') (B +ᶠ B') (C +ᶠ C') (D +ᶠ D') (E * F)
step_more {H} {g} {N} {E} {F} s s' =
    let one : 1 + N ≡ suc N = omega arith in
    rw one at (step_add (step_scale F s) (rw (mul_comm F E) at (step_scale E s')))

step_none : (H g : ℕ) → Step H g 0 (whole 0) (whole 0) (whole 0) (whole 0) 1
step_none H g =
    record { ax = 0; ay = 0; bx = 0; by = 0; cx = 0; cy = 0; dx = 0; dy = 0; a = worth_whole 0; b = worth_whole 0; c = worth_whole 0; d = worth_whole 0; le = omega arith }

module _ {W : Type 0} (H g : ℕ) (A B C D : W → Fraction) (E : W → ℕ) where
  pub record Good (w : W) : Type 0 where
    pub some : 0 < E w
    pub step : Step H g 1 (A w) (B w) (C w) (D w) (E w)

  abbrev pub product : List W → ℕ
  product [] = 1
  product (w ∷ ls) = E w * product ls

  pub product_pos : (ls : List W) → All Good ls → 0 < product ls
  product_pos [] none = omega arith
  product_pos (w ∷ ls) (more h k) = mul-pos h.some (product_pos ls k)

  pub steps : (ls : List W) → All Good ls → Step H g (length ls) (sum A ls) (sum B ls) (sum C ls) (sum D ls) (product ls)
  steps [] none = step_none H g
  steps (w ∷ ls) (more h k) = step_more h.step (steps ls k)
