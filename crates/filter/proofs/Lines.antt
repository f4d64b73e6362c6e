-- Rows of lines in the work area, one after the other: slopes of `wide` by `tall` pixels from base on, and offsets behind them. Assumes nothing.
use mathlib.Core.Path.{◌≡◌, sym, ap, ◌∙◌}
use mathlib.Core.List.{List}
use Prim.Native.Nat.{ℕ, ◌+◌, ◌*◌, ◌≤◌, ◌<◌}
use native.Mathlib.Decide.{dec_lt}
use native.Mathlib.Omega.{arith}
use lib.ListN.{get_or}
use lib.IntN.{ℤ, pos, nat_abs}
use Rattle.rules.specs.Window.{Plane}
use Rattle.rules.specs.Transmission.{Line}
use Rattle.rules.proofs.Buffers.{place_lt}
use Rattle.planes.specs.Cells.{cells}
use Rattle.planes.proofs.Shown.{row_end}
use Rattle.filter.specs.Row.{RowLines}

-- the first y rows of the lines F
pub record Lines (m : List ℤ) (base wide tall : ℕ) (F : Plane Line) (y : ℕ) : Type 0 where
  pub a : (u x : ℕ) → u < y → x < wide → cells m base wide u x ≡ (F u x).a
  pub b : (u x : ℕ) → u < y → x < wide → cells m (base + wide * tall) wide u x ≡ (F u x).b
  pub a_le : (u x : ℕ) → u < y → x < wide → nat_abs (F u x).a ≤ 2560000
  pub b_le : (u x : ℕ) → u < y → x < wide → nat_abs (F u x).b ≤ 2147483648

-- none yet
pub lines_none : (m : List ℤ) (base wide tall : ℕ) (F : Plane Line) → Lines m base wide tall F 0
lines_none m base wide tall F = record {
  a = λ u x h. absurd (omega arith);
  b = λ u x h. absurd (omega arith);
  a_le = λ u x h. absurd (omega arith);
  b_le = λ u x h. absurd (omega arith);
}

-- row y has been written
module _ (l m : List ℤ) (base wide tall y : ℕ) (R : ℕ → Line) (less : y < tall) (row : RowLines l m (base + y * wide) (base + wide * tall + y * wide) wide R) where
  -- what stands before the planes and behind them stays
  pub row_before : (k : ℕ) → k < base → get_or m k (pos 0) ≡ get_or l k (pos 0)
  row_before k h = row.rest k (λ p q. omega arith) (λ p q. omega arith)

  pub row_after : (k : ℕ) → base + 2 * (wide * tall) ≤ k → get_or m k (pos 0) ≡ get_or l k (pos 0)
  row_after k h = row.rest k (λ p q. omega (arith, row_end wide tall y less)) (λ p q. omega (arith, row_end wide tall y less))

  -- one row more
  pub lines_more : (F : Plane Line) → ((x : ℕ) → x < wide → R x ≡ F y x) → Lines l base wide tall F y → Lines m base wide tall F (y + 1)
  lines_more F is f = record {
    a = λ u x h k. slopes u x k (dec_lt u y) h;
    b = λ u x h k. offsets u x k (dec_lt u y) h;
    a_le = λ u x h k. a_small u x k (dec_lt u y) h;
    b_le = λ u x h k. b_small u x k (dec_lt u y) h;
  }
    where
      slopes : (u x : ℕ) → x < wide → Dec (u < y) → u < y + 1 → cells m base wide u x ≡ (F u x).a
      slopes u x k (yes h) t =
          let e = place_lt (record { w = wide; h = y }) u x h k in
          let r = row_end wide tall y less in
          row.rest (base + (u * wide + x)) (λ p q. omega arith) (λ p q. omega arith) ∙ f.a u x h k
      slopes u x k (no h) t =
          let e : u ≡ y = omega arith in
          let p : base + (y * wide + x) ≡ base + y * wide + x = omega arith in
          rw (e, p) (row.a x k ∙ ap (λ (i : Line). i.a) (is x k))

      offsets : (u x : ℕ) → x < wide → Dec (u < y) → u < y + 1 → cells m (base + wide * tall) wide u x ≡ (F u x).b
      offsets u x k (yes h) t =
          let e = place_lt (record { w = wide; h = y }) u x h k in
          let r = row_end wide tall y less in
          row.rest (base + wide * tall + (u * wide + x)) (λ p q. omega arith) (λ p q. omega arith) ∙ f.b u x h k
      offsets u x k (no h) t =
          let e : u ≡ y = omega arith in
          let p : base + wide * tall + (y * wide + x) ≡ base + wide * tall + y * wide + x = omega arith in
          rw (e, p) (row.b x k ∙ ap (λ (i : Line). i.b) (is x k))

      a_small : (u x : ℕ) → x < wide → Dec (u < y) → u < y + 1 → nat_abs (F u x).a ≤ 2560000
      a_small u x k (yes h) t = f.a_le u x h k
      a_small u x k (no h) t = let e : u ≡ y = omega arith in rw (e, sym (is x k)) (row.a_le x k)

      b_small : (u x : ℕ) → x < wide → Dec (u < y) → u < y + 1 → nat_abs (F u x).b ≤ 2147483648
      b_small u x k (yes h) t = f.b_le u x h k
      b_small u x k (no h) t = let e : u ≡ y = omega arith in rw (e, sym (is x k)) (row.b_le x k)
