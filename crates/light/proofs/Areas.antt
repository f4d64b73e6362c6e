-- What the steps leave in the work area, row by row: the levels, their counts and their bounds. Assumes nothing.
use mathlib.Core.Path.{◌≡◌, refl, sym, ap, ◌∙◌}
use mathlib.Core.List.{List, ◌++◌}
use Prim.Native.Nat.{ℕ, ◌+◌, ◌-◌, ◌*◌, ◌%◌, ◌≤◌, ◌<◌}
use native.Mathlib.Nat.{zero-mul, add-mul, one-mul, mul-add, mul-one, mul_comm, mul-le-mul_right}
use native.Mathlib.Omega.{arith}
use native.Mathlib.Decide.{dec_lt}
use lib.Dec.{eqb}
use lib.ListN.{length, get_or, set, replicate, drop}
use lib.Seq.{get_or-set_same, get_or-set_other}
use lib.IntN.{ℤ, pos, nat_abs}
use Rattle.rules.specs.Shape.{Shape, described, room}
use Rattle.rules.specs.declared.Size.{Size}
use Rattle.rules.specs.declared.Settings.{Settings}
use Rattle.rules.specs.Promise.{wiped}
use Rattle.rules.proofs.Buffers.{place_lt}
use Rattle.planes.specs.Cells.{SameFrom}
use Rattle.planes.proofs.Wiped.{wiped_same}
use Rattle.light.specs.Steps.{value, Levels, Starts, hits, lane, RowPut, level_at, DarkPlane, DarkTo, Darkened}
use Rattle.light.proofs.Positions.{count_cong}
use Rattle.light.proofs.Minima.{level_le}

-- ---- places

-- the call's own part has room for three planes
pub roomy : (z : Shape) → 3 * (z.w * z.h) ≤ room z
roomy z = omega (arith, add-mul z.w 1 (z.h + 1), one-mul (z.h + 1), mul-add z.w z.h 1, mul-one z.w)

-- m, which is l past the plane, is wiped as l is
pub wiped_after : (z : Shape) (l m v : List ℤ) → length m ≡ length l → SameFrom l m (z.w * z.h) → v ≡ replicate (room z) (pos 0) ++ drop (room z) m → v ≡ wiped z l
unfolding wiped
wiped_after z l m v long same e = e ∙ wiped_same z l m (z.w * z.h) long (omega (arith, roomy z)) same

-- where the next row begins
pub row_next : (w y : ℕ) → (y + 1) * w ≡ y * w + w
row_next w y = omega (arith, add-mul y 1 w, one-mul w)

-- row y of h ends in the plane
pub row_end : (w h y : ℕ) → y < h → y * w + w ≤ w * h
row_end w h y l =
    let m : (y + 1) * w ≤ h * w = mul-le-mul_right w (omega arith) in
    omega (arith, mul_comm w h, row_next w y)

-- ---- the rows that are given

module _ (z : Shape) (D : ℕ → ℕ) (l : List ℤ) where
  pub dark_none : (apart tops : List ℕ) → Starts (λ v. 0) 1028 apart → DarkTo z D l l apart tops 0
  dark_none apart tops h =
      let e : 0 * z.w ≡ 0 = zero-mul z.w in
      record {
        plane = λ p q. absurd (omega arith);
        rest = record { same = λ i q. refl };
        counts = rw e h;
        bounds = λ y x p q. absurd (omega arith);
      }

  -- row n is given: its levels d, the counts with them, and a bound of them
  module _ (m m' : List ℤ) (apart apart' tops : List ℕ) (n : ℕ) (d : ℕ → ℕ) (top : ℕ) (low : n < z.h) (row : (x : ℕ) → x < z.w → d x ≡ D (n * z.w + x)) where
    pub dark_more : DarkTo z D l m apart tops n → RowPut m m' (n * z.w) d z.w → Starts (hits (lane D) (n * z.w + z.w)) 1028 apart'
        → n < length tops → ((x : ℕ) → x < z.w → d x ≤ top) → DarkTo z D l m' apart' (set tops n top) (n + 1)
    dark_more was put counted inside bound =
        record {
          plane = λ p q. plane p (omega (arith, row_next z.w n)) (dec_lt p (n * z.w));
          rest = record { same = λ i q. put.kept i (λ s t. omega (arith, row_end z.w z.h n low)) ∙ was.rest.same i q };
          counts = rw (row_next z.w n) counted;
          bounds = λ y x p q. top_of y x p q (dec_lt y n);
        }
      where
        plane : (p : ℕ) → p < n * z.w + z.w → Dec (p < n * z.w) → get_or m' p (pos 0) ≡ pos (D p)
        plane p q (yes j) = put.kept p (λ s t. omega arith) ∙ was.plane p j
        plane p q (no j) =
            let e : p ≡ n * z.w + (p - n * z.w) = omega arith in
            let u : p - n * z.w < z.w = omega arith in
            rw e (put.row (p - n * z.w) u ∙ ap pos (row (p - n * z.w) u))

        top_of : (y x : ℕ) → y < n + 1 → x < z.w → Dec (y < n) → D (y * z.w + x) ≤ get_or (set tops n top) y 0
        top_of y x p q (yes j) = rw (get_or-set_other tops n y top 0 (λ e. omega arith)) (was.bounds y x j q)
        top_of y x p q (no j) =
            let e : y ≡ n = omega arith in
            rw (e, get_or-set_same tops n top 0 inside) (omega (arith, row x q, bound x q))

-- ---- the levels, read again

module _ (z : Size) (k : Settings) (mask frame : List ℕ) (v : List ℤ) (d : DarkPlane z k mask frame v) where
  pub value_level : (p : ℕ) → p < z.w * z.h → value v p ≡ level_at (described z) k.s mask frame p
  value_level p h = ap nat_abs (d.is p h)

  pub levels : Levels (z.w * z.h) v
  levels p h =
      let e = value_level p h in
      (d.is p h ∙ ap pos (sym e), omega (arith, d.small p))

-- all rows are given
pub dark_all : (z : Size) (k : Settings) (mask frame : List ℕ) (l m : List ℤ) (apart tops : List ℕ) → DarkTo (described z) (level_at (described z) k.s mask frame) l m apart tops z.h
    → Darkened z k mask frame m apart tops
dark_all z k mask frame l m apart tops to =
    let same = value_level z k mask frame m plane in
    record {
      plane = plane;
      counts =
          λ v h.
          rw (mul_comm z.w z.h)
          (to.counts v h
          ∙ count_cong (λ o. eqb v (lane (level_at (described z) k.s mask frame) o)) (λ o. eqb v (lane (value m) o)) 0 (z.h * z.w)
          (λ o a b. ap (λ (i : ℕ). eqb v (4 * i + o % 4)) (sym (same o (omega (arith, mul_comm z.w z.h))))));
      bounds = λ y x hy hx. rw (same (y * z.w + x) (place_lt (described z) y x hy hx)) (to.bounds y x hy hx);
    }
  where
    plane : DarkPlane z k mask frame m
    plane = record { is = λ p h. to.plane p (omega (arith, mul_comm z.w z.h)); small = level_le (described z) k.s mask frame }
