-- One turn of the loops over a row: what the machine computes of two numbers that are small, and one entry more of a row, or one sum more. Assumes nothing.
use mathlib.Core.Path.{◌≡◌, ap, ◌∙◌}
use mathlib.Core.List.{List}
use Prim.Native.Nat.{ℕ, ◌+◌, ◌-◌, ◌*◌, ◌^◌, ◌≤◌, ◌<◌}
use native.Mathlib.Nat.{mul-le-mul_right}
use native.Mathlib.Decide.{dec_lt}
use native.Mathlib.Omega.{arith}
use lib.IntN.{ℤ, pos, nat_abs, ◌+ℤ◌, ◌-ℤ◌}
use lib.ListN.{length, set, length-set}
use lib.Seq.{get_or-set_same, get_or-set_other}
use mir.Syntax.{w64}
use mir.Val.{SFits}
use Rattle.rules.specs.Fold.{Σ}
use Rattle.rules.proofs.Integers.{fits, rd, rd_is, back, add_is, add_le, sub_is, sub_le}
use Rattle.planes.proofs.Stored.{stored}
use Rattle.sums.specs.Sum.{value_most, column_most, entry, range_sum, RowIn, Rewritten, entered, left, slid, Spannable, Spans}
use Rattle.sums.proofs.Runs.{sum_slide, sum_size, range_more}

-- ---- a value

-- the machine's v is z, and no more than M in size
pub record Computes (v z : ℤ) (M : ℕ) : Type 0 where
  pub is : v ≡ z
  pub size : nat_abs z ≤ M
  pub fit : SFits w64 v

-- small enough to fit
computes : (v z : ℤ) (M : ℕ) → v ≡ z → nat_abs z ≤ M → M < 2 ^ 63 → Computes v z M
computes v z M e l h = record { is = e; size = l; fit = rw e (fits z (omega arith)) }

module _ (a b : ℤ) (M N : ℕ) (ha : nat_abs a ≤ M) (hb : nat_abs b ≤ N) (h : M + N < 2 ^ 63) where
  -- a sum, and a difference
  sum : Computes (rd a +ℤ rd b) (a +ℤ b) (M + N)
  sum = computes _ (a +ℤ b) (M + N) (add_is a b M N ha hb h) (add_le a b M N ha hb h) h

  difference : Computes (rd a -ℤ rd b) (a -ℤ b) (M + N)
  difference = computes _ (a -ℤ b) (M + N) (sub_is a b M N ha hb h) (sub_le a b M N ha hb h) h

-- ---- a row

-- i of n columns are rewritten
pub record Turn (l m : List ℤ) (to : ℕ) (plane : List ℤ) (at n i : ℕ) (g : ℕ → ℤ) : Type 0 where
  pub pre : RowIn l to plane at n
  pub less : i < n
  pub long : length m ≡ length l
  pub out : Rewritten l m to i g

module _ {l m : List ℤ} {to : ℕ} {plane : List ℤ} {at n i : ℕ} {g : ℕ → ℤ} (t : Turn l m to plane at n i g) where
  -- the next is as it was
  here : entry m (to + i) ≡ entry l (to + i)
  here = t.out.rest (to + i) (λ p q. omega arith)

  -- what it becomes in each of the three loops
  pub enters : (s : ℤ) → s ≡ entry plane (at + i) → Computes (rd (entry m (to + i)) +ℤ rd s) (entered l to plane at i) (column_most + value_most)
  enters s e = rw (here, e) (sum (entry l (to + i)) (entry plane (at + i)) column_most value_most (t.pre.held i t.less) (t.pre.small i t.less) (omega arith))

  pub leaves : (s : ℤ) → s ≡ entry plane (at + i) → Computes (rd (entry m (to + i)) -ℤ rd s) (left l to plane at i) (column_most + value_most)
  leaves s e = rw (here, e) (difference (entry l (to + i)) (entry plane (at + i)) column_most value_most (t.pre.held i t.less) (t.pre.small i t.less) (omega arith))

  pub slides : (old : ℕ) → RowIn l to plane old n → (s o : ℤ) → s ≡ entry plane (at + i) → o ≡ entry plane (old + i)
      → Computes (rd (rd (entry m (to + i)) +ℤ rd s) -ℤ rd o) (slid l to plane at old i) (column_most + value_most + value_most)
  slides old p s o e d =
      let c = enters s e in
      rw (c.is, d)
      (difference (entered l to plane at i) (entry plane (old + i)) (column_most + value_most) value_most c.size (p.small i t.less) (omega arith))

  -- and is written
  pub turned : (v : ℤ) {M : ℕ} → Computes v (g i) M → Rewritten l (set m (to + i) (rd v)) to (i + 1) g
  turned v c = record {
    is = λ j q. by j (omega arith) (dec_lt j i);
    rest = λ k q. get_or-set_other m (to + i) k (rd v) (pos 0) (other k q) ∙ t.out.rest k (λ p s. q p (omega arith));
  }
    where
      other : (k : ℕ) → (to ≤ k → k < to + (i + 1) → ⊥) → k ≡ to + i → ⊥
      other k q e = q (omega arith) (omega arith)

      by : (j : ℕ) → j ≤ i → Dec (j < i) → entry (set m (to + i) (rd v)) (to + j) ≡ g j
      by j h (yes q) = get_or-set_other m (to + i) (to + j) (rd v) (pos 0) (omega arith) ∙ t.out.is j q
      by j h (no q) =
          let z : j ≡ i = omega arith in
          rw z (get_or-set_same m (to + i) (rd v) (pos 0) (omega (arith, t.pre.room, t.less, t.long)) ∙ back v c.fit ∙ c.is)

-- ---- along a row

-- 128 columns
abbrev pub span_most : ℕ
span_most = 128 * column_most

module _ (cols : List ℤ) (s : Spannable cols) where
  -- the size of the sum of n columns
  span_size : (a n : ℕ) → n ≤ 121 → nat_abs (Σ ◌+ℤ◌ (pos 0) a n (entry cols)) ≤ span_most
  span_size a n h = omega (arith, sum_size a n (entry cols) column_most (λ k p q. s.held k), mul-le-mul_right column_most h)

  -- it is what its bits say
  pub span_back : (a n : ℕ) → n ≤ 121 → rd (Σ ◌+ℤ◌ (pos 0) a n (entry cols)) ≡ Σ ◌+ℤ◌ (pos 0) a n (entry cols)
  span_back a n h = rd_is (Σ ◌+ℤ◌ (pos 0) a n (entry cols)) (omega (arith, span_size a n h))

  -- one column more
  pub adds : (a b : ℕ) (acc : ℤ) → a ≤ b → b ≤ a + 121 → acc ≡ rd (range_sum (entry cols) a b)
      → Computes (acc +ℤ rd (entry cols b)) (range_sum (entry cols) a (b + 1)) (span_most + column_most)
  adds a b acc lo hi e =
      rw (e, range_more (entry cols) a b lo)
      (sum (range_sum (entry cols) a b) (entry cols b) span_most column_most (span_size a (b - a) (omega arith)) (s.held b) (omega arith))

  -- the column that enters less the one that leaves
  pub differs : (a d : ℕ) → Computes (rd (entry cols (a + d)) -ℤ rd (entry cols a)) (entry cols (a + d) -ℤ entry cols a) (column_most + column_most)
  differs a d = difference (entry cols (a + d)) (entry cols a) column_most column_most (s.held (a + d)) (s.held a) (omega arith)

-- acc is the sum of the d columns from x + i on, as the machine reads it back
pub record Holds (cols : List ℤ) (x d i : ℕ) (acc : ℤ) : Type 0 where
  pub value : acc ≡ rd (Σ ◌+ℤ◌ (pos 0) (x + i) d (entry cols))

module _ {cols : List ℤ} {x d i : ℕ} {acc : ℤ} (s : Spannable cols) (h : d ≤ 121) (b : Holds cols x d i acc) where
  -- what the sum becomes when it moves on by one column
  abbrev pub moved : ℤ
  moved = acc +ℤ rd (rd (entry cols (x + i + d)) -ℤ rd (entry cols (x + i)))

  -- it is the sum of the next d columns
  pub moves : Computes moved (Σ ◌+ℤ◌ (pos 0) (x + i + 1) d (entry cols)) (span_most + (column_most + column_most))
  moves =
      let a = x + i in
      let c = differs cols s a d in
      rw (b.value, c.is, sum_slide a d (entry cols))
      (sum (Σ ◌+ℤ◌ (pos 0) a d (entry cols)) (entry cols (a + d) -ℤ entry cols a) span_most (column_most + column_most) (span_size cols s a d h) c.size (omega arith))

  -- as the machine reads it back
  pub moved_back : rd moved ≡ Σ ◌+ℤ◌ (pos 0) (x + i + 1) d (entry cols)
  moved_back = back moved moves.fit ∙ moves.is

  pub holds_next : Holds cols x d (i + 1) (rd moved)
  holds_next =
      let e : x + i + 1 ≡ x + (i + 1) = omega arith in
      record { value = ap rd (moves.is ∙ ap (λ (p : ℕ). Σ ◌+ℤ◌ (pos 0) p d (entry cols)) e) }

-- i sums stand in `out`, which has n entries, and the next is at hand
pub record Running (n : ℕ) (out cols : List ℤ) (x d i : ℕ) (acc : ℤ) : Type 0 where
  pub long : length out ≡ n
  pub holds : Holds cols x d i acc
  pub spans : Spans out cols x d i

-- one sum more
pub running_more : {n : ℕ} {out cols : List ℤ} {x d i : ℕ} {acc : ℤ} (s : Spannable cols) (h : d ≤ 121) (r : Running n out cols x d i acc) → i < n
    → Running n (set out i (rd (moved s h r.holds))) cols x d (i + 1) (rd (moved s h r.holds))
running_more {n} {out} {cols} {x} {d} {i} s h r q = record {
  long = simp length-set r.long;
  holds = holds_next s h r.holds;
  spans = record {
    is = λ j p. stored
        (λ (j : ℕ) (z : ℤ). z ≡ Σ ◌+ℤ◌ (pos 0) (x + j + 1) d (entry cols)) out i (rd (moved s h r.holds)) (pos 0) (omega (arith, r.long))
        (moved_back s h r.holds) j (λ ne. r.spans.is j (omega arith));
  };
}
