-- The sums of the mask's columns are the windows' sizes; so a row of them is the table's, and stays from row to row as the columns do. Assumes nothing.
use mathlib.Core.Path.{◌≡◌, refl, sym, ap, ◌∙◌}
use mathlib.Core.Bool.{Bool, true, false, cond}
use mathlib.Core.List.{List}
use Prim.Native.Nat.{ℕ, ◌+◌, ◌*◌, ◌≤◌, ◌<◌, max}
use native.Mathlib.Omega.{arith}
use lib.ListN.{length, get_or}
use lib.IntN.{ℤ, pos, nat_abs, ◌+ℤ◌}
use Rattle.rules.specs.Window.{Plane, square, total}
use Rattle.rules.specs.Fold.{Σ}
use Rattle.rules.proofs.Fold.{total_pos}
use Rattle.planes.specs.declared.View.{View}
use Rattle.planes.specs.View.{InPlane}
use Rattle.sums.specs.Sum.{Columns, entry}
use Rattle.sums.proofs.Strips.{span_square}
use Rattle.sums.proofs.Windows.{total_read}
use Rattle.sizes.specs.Sizes.{Sizes, Count, Counted, Countable, Inverted, bit, span_at, size_at}
use Rattle.sizes.proofs.Sized.{size_some, size_few}

bit_is : (b : Bool) → bit b ≡ pos (cond b 1 0)
bit_is true = refl
bit_is false = refl

-- the columns of the plane M before row y + 1, which is that of the windows about row y
module _ (M : Plane Bool) {cols : List ℤ} {w h r y : ℕ} (c : Columns cols (λ v u. bit (M v u)) w h r (y + 1)) (hy : y < h) where
  span_count : (x : ℕ) → x < w → Σ ◌+ℤ◌ (pos 0) (x + 1) (2 * r + 1) (entry cols) ≡ pos (total (λ b. cond b 1 0) (square w h r M y x))
  span_count x hx =
      span_square w h r y c x hx
      ∙ total_read w h r M y x hy hx (λ b. pos (cond b 1 0)) (λ v u. bit (M v u)) (λ v u a b. bit_is (M v u))
      ∙ total_pos (λ b. cond b 1 0) (square w h r M y x)

  -- d = 2r + 1 of them add up to a count
  span_at_lem : (x d i : ℕ) → d ≡ 2 * r + 1 → x + i < w → span_at cols x d i ≡ pos (total (λ b. cond b 1 0) (square w h r M y (x + i)))
  span_at_lem x d i e q = ap (λ (k : ℕ). span_at cols x k i) e ∙ span_count (x + i) q

  pub counts : (x d i : ℕ) → d ≡ 2 * r + 1 → x + i < w → Count (span_at cols x d i)
  counts x d i e q = span_at_lem x d i e q ∙ ap (λ (z : ℤ). pos (nat_abs z)) (sym (span_at_lem x d i e q))

  module _ {x d n : ℕ} {ns : List ℕ} (k : Counted cols x d n ns) (e : d ≡ 2 * r + 1) (le : x + n ≤ w) where
    sized : (i : ℕ) → i < n → get_or ns i 0 ≡ size_at w h r M y (x + i)
    sized i q = k.is i q ∙ ap (λ (z : ℤ). max 1 (nat_abs z)) (span_at_lem x d i e (omega arith))

    -- the table has an entry for each
    pub countable : r ≤ 60 → n ≤ length ns → Countable n ns
    countable hr long = record {
      long = long;
      some = λ i q. rw (sized i q) (size_some w h r M y (x + i));
      few = λ i q. rw (sized i q) (size_few w h r M y (x + i) hr);
    }

-- sizes and reciprocals together
pub sizes_all : {v : View} (M : Plane Bool) {cols : List ℤ} {r y d : ℕ} {ns inverses : List ℕ} → InPlane v → Columns cols (λ v u. bit (M v u)) v.w v.h r (y + 1) → y < v.h
    → d ≡ 2 * r + 1 → Counted cols v.left d v.wide ns → Inverted v.wide ns inverses → Sizes v r M y ns inverses
sizes_all M i c hy e k o = record { is = sized M c hy k e i.fits.columns; over = o.over }

-- they stay while the columns do
pub sizes_same : {v : View} (M : Plane Bool) {cols : List ℤ} {r y z : ℕ} {ns inverses : List ℕ} → InPlane v → z ≡ y + 1 → z < v.h
    → Columns cols (λ v u. bit (M v u)) v.w v.h r z → Columns cols (λ v u. bit (M v u)) v.w v.h r (z + 1) → Sizes v r M y ns inverses → Sizes v r M z ns inverses
sizes_same {v} M {cols} {r} {y} {z} {ns} i e hz c d s = record { is = λ j q. s.is j q ∙ ap (λ (k : ℤ). max 1 (nat_abs k)) (same (v.left + j) (omega (arith, i.fits.columns))); over = s.over }
  where
    same : (x : ℕ) → x < v.w → pos (total (λ b. cond b 1 0) (square v.w v.h r M y x)) ≡ pos (total (λ b. cond b 1 0) (square v.w v.h r M z x))
    same x q = sym (span_count M {y = y} (rw e at c) (omega arith) x q) ∙ span_count M {y = z} d hz x q
