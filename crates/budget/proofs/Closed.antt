-- The closed form of a line's count (`counted`): in blocks, and for the windows that reach into two of them. Of the blocks of k samples, m stand before the
-- last, which begins at m·k. Assumes nothing.
use mathlib.Core.Path.{◌≡◌, sym, ◌∙◌}
use mathlib.Core.Bool.{cond}
use mathlib.Core.Logic.{⊎_elim}
use Prim.Native.Nat.{ℕ, zero, suc, ◌+◌, ◌-◌, ◌*◌, ◌/◌, ◌≤◌, ◌<◌, min}
use native.Mathlib.Nat.{zero-mul, suc-mul}
use native.Mathlib.Omega.{arith}
use borrow.Author.Tests.{lt-ltb, le-ltb}
use lib.Dec.{ltb}
use Rattle.rules.specs.Count.{lo, hi, crossing, tally, comparisons, samples}
use Rattle.rules.proofs.Count.{inner, inner_is, inner_none, inner_step, samples_length, tally_none, tally_suc, tally_zeros, tally_split, tally_ones}
use Rattle.windows.specs.Blocks.{start}
use Rattle.std.proofs.lemmas.Bool.{cases_lt}
use Rattle.windows.proofs.Cuts.{start_le, lt_start, start_zero, start_same, start_next}
use Rattle.windows.proofs.Crossings.{crossing_is}

-- ---- in blocks

-- m whole ones, and one of r + 1 samples after them
inner_blocks : (k m r : ℕ) → r < k → inner k (m * k + (r + 1)) + 2 * m ≡ 2 * (m * k + r)
inner_blocks k zero r h =
    let n : zero * k + (r + 1) ≡ r + 1 = omega (arith, zero-mul k) in
    let none : r + 1 - k ≡ 0 = omega arith in
    let e : inner k (r + 1 - k) ≡ 0 = rw none (inner_none k) in
    rw n (omega (arith, inner_step k (r + 1) (omega arith) (omega arith), zero-mul k))
inner_blocks k (suc m) r h =
    let n : suc m * k + (r + 1) ≡ m * k + (r + 1) + k = omega (arith, suc-mul m k) in
    let l : m * k + (r + 1) + k - k ≡ m * k + (r + 1) = omega arith in
    let e : inner k (m * k + (r + 1) + k) ≡ 2 * (k - 1) + inner k (m * k + (r + 1)) =
    inner_step k (m * k + (r + 1) + k) (omega arith) (omega arith) ∙ rw l (omega arith)
    in
    rw n (omega (arith, suc-mul m k, inner_blocks k m r h))

inner_closed : (k m n : ℕ) → m * k < n → n ≤ m * k + k → inner k n + 2 * m ≡ 2 * (n - 1)
inner_closed k m n l u =
    let z : m * k + (n - 1 - m * k + 1) ≡ n = omega arith in
    let e : inner k n + 2 * m ≡ 2 * (m * k + (n - 1 - m * k)) = rw z at (inner_blocks k m (n - 1 - m * k) (omega arith)) in
    omega arith

-- ---- windows that reach into two blocks

-- of radius s on a line of n
module _ (k s n : ℕ) (odd : k ≡ 2 * s + 1) where
  crossing_at : (b i : ℕ) → start k b ≡ b → b ≤ hi s n i → hi s n i < b + k → crossing s n i ≡ cond (ltb (lo s i) b) 1 0
  crossing_at b i e l u =
      let c : start (2 * s + 1) (hi s n i) ≡ b = rw (sym odd) (start_same k (omega arith) b (hi s n i) e l u) in
      crossing_is s n i ∙ rw c

  -- a window with its first and last sample in the block that starts at b, or with only its last there
  within : (b i : ℕ) → start k b ≡ b → i < n → b ≤ lo s i → hi s n i < b + k → crossing s n i ≡ 0
  within b i e v l u = crossing_at b i e (omega arith) u ∙ rw (le-ltb (lo s i) b l)

  across : (b i : ℕ) → start k b ≡ b → lo s i < b → b ≤ hi s n i → hi s n i < b + k → crossing s n i ≡ 1
  across b i e l v u = crossing_at b i e v u ∙ rw (lt-ltb (lo s i) b l)

  -- how many of the a windows from sample s on: these begin at 0, at 1 and so on
  two : ℕ → ℕ
  two a = tally (λ i. crossing s n (s + i)) a

  -- in the block that starts at b, before the last one, all but the first
  two_within : (b d : ℕ) → start k b ≡ b → b + k < n → d < k → two (b + 1 + d) ≡ two b + d
  unfolding two
  two_within b d e l u =
      let f : ℕ → ℕ = λ i. crossing s n (s + i) in
      let z : b + 1 ≡ suc b = omega arith in
      let one : tally f (b + 1) ≡ tally f b = rw z (omega (arith, tally_suc f b, within b (s + b) e (omega arith) (omega arith) (omega arith))) in
      tally_ones f (b + 1) d (λ i x y. across (b + k) (s + i) (start_next k (omega arith) b e) (omega arith) (omega arith) (omega arith)) ∙ omega arith

  begins : (m : ℕ) → start k (m * k) ≡ m * k
  begins zero = rw zero-mul (start_zero k (omega arith))
  begins (suc m) = rw (suc-mul m k) (start_next k (omega arith) (m * k) (begins m))

  two_before : (m : ℕ) → m * k < n → two (m * k) + m ≡ m * k
  unfolding two
  two_before zero h = rw zero-mul (omega (arith, tally_none (λ i. crossing s n (s + i))))
  two_before (suc m) h =
      let z : m * k + 1 + 2 * s ≡ suc m * k = omega (arith, suc-mul m k) in
      rw (sym z) (omega (arith, suc-mul m k, two_within (m * k) (2 * s) (begins m) (omega (arith, suc-mul m k)) (omega arith), two_before m (omega (arith, suc-mul m k))))

  module _ (m : ℕ) (last : m * k < n) (end : n ≤ m * k + k) where
    -- none from the last block's start on
    two_late : m * k ≤ n - s → two (n - s) ≡ two (m * k)
    unfolding two
    two_late h =
        let f : ℕ → ℕ = λ i. crossing s n (s + i) in
        let z : m * k + (n - s - m * k) ≡ n - s = omega arith in
        let none : tally (λ i. f (m * k + i)) (n - s - m * k) ≡ 0 =
        tally_zeros (λ i. f (m * k + i)) (n - s - m * k) (λ i u. within (m * k) (s + (m * k + i)) (begins m) (omega arith) (omega arith) (omega arith))
        in
        rw (sym z) (tally_split f (m * k) (n - s - m * k) ∙ omega arith)

    two_closed : two (n - s) + m ≡ min (m * k) (n - s)
    two_closed = ⊎_elim (λ (h : n - s < m * k). early m h last end) (λ (h : m * k ≤ n - s). omega (arith, two_late h, two_before m last)) (cases_lt (n - s) (m * k))
      where
        -- where the last window begins in the block before the last
        early : (j : ℕ) → n - s < j * k → j * k < n → n ≤ j * k + k → two (n - s) + j ≡ min (j * k) (n - s)
        early zero h l u = absurd (omega (arith, zero-mul k))
        early (suc j) h l u =
            let w : suc j * k ≡ j * k + k = suc-mul j k in
            let d : j * k + 1 + (n - s - (j * k + 1)) ≡ n - s = omega arith in
            let e : two (n - s) ≡ two (j * k) + (n - s - (j * k + 1)) = rw d at (two_within (j * k) (n - s - (j * k + 1)) (begins j) (omega arith) (omega arith)) in
            omega (arith, two_before j (omega arith))

    crossings_closed : tally (crossing s n) n + m ≡ min (m * k) (n - s)
    unfolding two
    crossings_closed = ⊎_elim long short (cases_lt s n)
      where
        first : (i : ℕ) → i < s → i < n → crossing s n i ≡ 0
        first i u v = within 0 i (start_zero k (omega arith)) v (omega arith) (omega arith)

        long : s < n → tally (crossing s n) n + m ≡ min (m * k) (n - s)
        long h =
            let z : s + (n - s) ≡ n = omega arith in
            let none : tally (crossing s n) s ≡ 0 = tally_zeros (crossing s n) s (λ i u. first i u (omega arith)) in
            let e : tally (crossing s n) n ≡ two (n - s) = rw z at (tally_split (crossing s n) s (n - s)) ∙ omega arith in
            omega (arith, two_closed)

        short : n ≤ s → tally (crossing s n) n + m ≡ min (m * k) (n - s)
        short h =
            let z : n - s ≡ 0 = omega arith in
            let none : tally (crossing s n) n ≡ 0 = tally_zeros (crossing s n) n (λ i u. first i (omega arith) u) in
            let e : two 0 + m ≡ min (m * k) 0 = rw z at two_closed in
            omega arith

-- ---- the line

-- `full` are the blocks before the last, and only windows that begin before sample `end` may reach into two blocks
pub record Counted (s n full end : ℕ) : Type 0 where
  pub below : full ≤ n - 1
  pub above : full ≤ end
  pub count : comparisons s (samples n) + 3 * full ≡ 2 * (n - 1) + end

pub counted : (s n x k rest end : ℕ) → end ≡ min (x / k * k) rest → 0 < n → x ≡ n - 1 → k ≡ 2 * s + 1 → rest ≡ n - s → Counted s n (x / k) end
unfolding start comparisons
counted s n x k rest end e h x-is k-is rest-is =
    let m = x / k in
    let l : m * k ≤ x = start_le k (omega arith) x in
    let u : x < m * k + k = lt_start k (omega arith) x in
    let a : inner k n + 2 * m ≡ 2 * (n - 1) = inner_closed k m n (omega arith) (omega arith) in
    let b : tally (crossing s n) n + m ≡ min (m * k) (n - s) = crossings_closed k s n k-is m (omega arith) (omega arith) in
    let c : comparisons s (samples n) ≡ inner k n + tally (crossing s n) n = rw (inner_is (2 * s + 1) (samples n), samples_length n, k-is) in
    record { below = omega arith; above = omega arith; count = omega arith }
