-- The count of a loop over a frame's rows that takes each along itself and then down the columns: before the first step, a step on, and after the last.
-- Assumes nothing.
use mathlib.Core.Path.{◌≡◌, sym, ◌∙◌}
use Prim.Native.Nat.{ℕ, suc, ◌+◌, ◌-◌, ◌*◌, ◌≤◌, ◌<◌}
use native.Mathlib.Nat.{mul-le-mul, mul_comm, mul_left_comm}
use native.Mathlib.Omega.{arith}
use borrow.Author.Tests.{lt-ltb, le-ltb}
use Rattle.rules.specs.Shape.{Shape}
use Rattle.rules.specs.Count.{tally, comparisons, samples, frame_comparisons}
use Rattle.rules.proofs.Count.{samples_at_most, tally_none, tally_suc, tally_add, tally_split, tally_while, tally_same, tally_times}
use Rattle.columns.specs.Down.{down_count, along_count, step_count}
use Rattle.columns.proofs.Steps.{down_total}

module _ (s w h : ℕ) where
  -- a row takes what a line of its samples takes
  pub along_row : (v : ℕ) → v < h → comparisons s (samples w) ≡ along_count s w h v
  unfolding along_count
  along_row v l = rw (lt-ltb v h l)

  -- and there is none past the last
  pub along_none : (v : ℕ) → h ≤ v → 0 ≡ along_count s w h v
  unfolding along_count
  along_none v l = rw (le-ltb v h l)

  -- one step more
  step_more : (v a d : ℕ) → a ≡ along_count s w h v → d ≡ w * down_count s h v → tally (step_count s w h) v + a + d ≡ tally (step_count s w h) (v + 1)
  unfolding step_count
  step_more v a d ea ed =
      let z : v + 1 ≡ suc v = omega arith in
      rw z (omega (arith, tally_suc (λ v. along_count s w h v + w * down_count s h v) v))

  along_all : tally (along_count s w h) (h + s) ≡ h * comparisons s (samples w)
  unfolding along_count
  along_all = tally_while (λ v. comparisons s (samples w)) h s ∙ tally_same (comparisons s (samples w)) h

  -- all steps
  steps_total : 0 < h → tally (step_count s w h) (h + s) ≡ h * comparisons s (samples w) + w * comparisons s (samples h)
  unfolding step_count
  steps_total l =
      tally_add (along_count s w h) (λ v. w * down_count s h v) (h + s)
      ∙ rw (along_all, tally_times w (down_count s h) (h + s), down_total s h l)

  -- the steps so far take at most 6 a sample
  steps_most : 0 < h → (v : ℕ) → v ≤ h + s → tally (step_count s w h) v ≤ 6 * (w * h)
  steps_most l v u =
      let z : v + (h + s - v) ≡ h + s = omega arith in
      let a : h * comparisons s (samples w) ≤ h * (3 * w) = mul-le-mul {n₁ = h} (omega arith) (samples_at_most s w) in
      let b : w * comparisons s (samples h) ≤ w * (3 * h) = mul-le-mul {n₁ = w} (omega arith) (samples_at_most s h) in
      omega (arith, mul_comm h w, mul_left_comm h 3 w, mul_left_comm w 3 h, rw z at (tally_split (step_count s w h) v (h + s - v)), steps_total l)

  -- what is counted after i steps
  abbrev pub Counted : ℕ → ℕ → Type 0
  Counted count i = count ≡ tally (step_count s w h) i

  pub counted_none : Counted 0 0
  counted_none = sym (tally_none (step_count s w h))

  -- a step further, of a along its row and d down the columns; all steps take few
  pub counted_more : (count i a d : ℕ) → 0 < h → Counted count i → i < h + s → a ≡ along_count s w h i → d ≡ w * down_count s h i
      → Counted (count + a + d) (i + 1) × (count + a + d ≤ 6 * (w * h))
  counted_more count i a d some t l ea ed =
      let e : Counted (count + a + d) (i + 1) = rw t (step_more i a d ea ed) in
      (e, omega (arith, e, steps_most some (i + 1) (omega arith)))

-- all steps
pub counted_all : (z : Shape) (s count i : ℕ) → 0 < z.h → Counted s z.w z.h count i → i ≡ z.h + s → count ≡ frame_comparisons z s
unfolding frame_comparisons
counted_all z s count i some t e = t ∙ rw e (steps_total s z.w z.h some)
