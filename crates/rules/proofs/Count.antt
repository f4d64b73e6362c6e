-- Laws of the count of comparisons: it goes by the line's length, is at most 3 a sample, and grows as the loops go. Assumes nothing.
use mathlib.Core.Path.{◌≡◌, refl, sym, ap, ◌∙◌}
use mathlib.Core.Bool.{Bool, true, false, cond}
use mathlib.Core.List.{List, [], ◌∷◌}
use Prim.Native.Nat.{ℕ, zero, suc, ◌+◌, ◌-◌, ◌*◌, ◌/◌, ◌≤◌, ◌<◌, min}
use native.Mathlib.Nat.{add-zero, mul-add, add-mul, one-mul, zero-mul, mul-zero}
use native.Mathlib.Omega.{arith}
use borrow.Author.Tests.{lt-ltb, le-ltb}
use lib.Dec.{ltb}
use lib.ListN.{length, take, drop, length-take, length-drop}
use Rattle.rules.specs.Window.{total}
use Rattle.rules.specs.Count.{blocks_in, in_blocks, lo, hi, in_two, crossing, tally, comparisons, samples}
use Rattle.rules.proofs.Local.{from_length}

-- ---- in blocks, by the line's length
inner_in : ℕ → ℕ → ℕ → ℕ
inner_in zero k n = 0
inner_in (suc m) k zero = 0
inner_in (suc m) k (suc n) = 2 * (min k (suc n) - 1) + inner_in m k (suc n - k)

pub inner : ℕ → ℕ → ℕ
inner k n = inner_in n k n

inner_list : {A : Type 0} (g : List A → ℕ) → ((b : List A) → g b ≡ 2 * (length b - 1)) → (m k : ℕ) (xs : List A)
    → total g (blocks_in m k xs) ≡ inner_in m k (length xs)
unfolding blocks_in inner_in
inner_list g h zero k xs = refl
inner_list g h (suc m) k [] = refl
inner_list g h (suc m) k (x ∷ xs) =
    rw (inner_list g h m k (drop k (x ∷ xs)), h (take k (x ∷ xs)), length-take k (x ∷ xs), length-drop k (x ∷ xs))

pub inner_is : {A : Type 0} (k : ℕ) (xs : List A) → in_blocks k xs ≡ inner k (length xs)
unfolding in_blocks inner
inner_is k xs = inner_list _ (λ b. omega arith) (length xs) k xs

pub samples_length : (n : ℕ) → length (samples n) ≡ n
unfolding samples
samples_length n = from_length 0 n (λ i. i)

-- any line as long takes as many
pub comparisons_length : {A : Type 0} (s : ℕ) (xs : List A) → comparisons s xs ≡ comparisons s (samples (length xs))
unfolding comparisons
comparisons_length s xs = rw (inner_is (2 * s + 1) xs, inner_is (2 * s + 1) (samples (length xs)), samples_length (length xs))

-- ---- at most 3 a sample
inner_le : (m k n : ℕ) → 0 < k → inner_in m k n ≤ 2 * n
unfolding inner_in
inner_le zero k n h = omega arith
inner_le (suc m) k zero h = omega arith
inner_le (suc m) k (suc n) h = omega (arith, inner_le m k (suc n - k) h)

pub cond_le : (b : Bool) (n : ℕ) → cond b n 0 ≤ n
cond_le true n = omega arith
cond_le false n = omega arith

crossing_le : (s n i : ℕ) → crossing s n i ≤ 1
unfolding crossing
crossing_le s n i = cond_le (in_two s n i) 1

tally_le : (f : ℕ → ℕ) (n : ℕ) → ((i : ℕ) → f i ≤ 1) → tally f n ≤ n
unfolding tally
tally_le f zero h = omega arith
tally_le f (suc n) h = omega (arith, tally_le f n h, h n)

pub crossings_le : (s n i : ℕ) → tally (crossing s n) i ≤ i
crossings_le s n i = tally_le (crossing s n) i (crossing_le s n)

pub inner_le_two : (k n : ℕ) → 0 < k → inner k n ≤ 2 * n
unfolding inner
inner_le_two k n h = inner_le n k n h

pub at_most_three : {A : Type 0} (s : ℕ) (xs : List A) → comparisons s xs ≤ 3 * length xs
unfolding comparisons
at_most_three s xs =
    omega (arith, inner_is (2 * s + 1) xs, inner_le_two (2 * s + 1) (length xs) (omega arith), crossings_le s (length xs) (length xs))

pub samples_at_most : (s n : ℕ) → comparisons s (samples n) ≤ 3 * n
samples_at_most s n = omega (arith, at_most_three s (samples n), samples_length n)

-- ---- what the loops go by
inner_more : (m m' k n : ℕ) → 0 < k → n ≤ m → n ≤ m' → inner_in m k n ≡ inner_in m' k n
unfolding inner_in
inner_more zero zero k n p l l' = refl
inner_more zero (suc m') k zero p l l' = refl
inner_more zero (suc m') k (suc n) p l l' = absurd (omega arith)
inner_more (suc m) zero k zero p l l' = refl
inner_more (suc m) zero k (suc n) p l l' = absurd (omega arith)
inner_more (suc m) (suc m') k zero p l l' = refl
inner_more (suc m) (suc m') k (suc n) p l l' =
    ap (λ (z : ℕ). 2 * (min k (suc n) - 1) + z) (inner_more m m' k (suc n - k) p (omega arith) (omega arith))

pub inner_none : (k : ℕ) → inner k 0 ≡ 0
unfolding inner inner_in
inner_none k = refl

pub inner_step : (k n : ℕ) → 0 < k → 0 < n → inner k n ≡ 2 * (min k n - 1) + inner k (n - k)
unfolding inner inner_in
inner_step k zero p h = absurd (omega arith)
inner_step k (suc n) p h =
    ap (λ (z : ℕ). 2 * (min k (suc n) - 1) + z) (inner_more n (suc n - k) k (suc n - k) p (omega arith) (omega arith))

pub tally_suc : (f : ℕ → ℕ) (n : ℕ) → tally f (suc n) ≡ tally f n + f n
unfolding tally
tally_suc f n = refl

pub tally_none : (f : ℕ → ℕ) → tally f 0 ≡ 0
unfolding tally
tally_none f = refl

-- ---- sums
pub tally_cong : (f g : ℕ → ℕ) (n : ℕ) → ((i : ℕ) → i < n → f i ≡ g i) → tally f n ≡ tally g n
tally_cong f g zero h = rw (tally_none f, tally_none g)
tally_cong f g (suc n) h =
    omega (arith, tally_suc f n, tally_suc g n, tally_cong f g n (λ i u. h i (omega arith)), h n (omega arith))

pub tally_zeros : (f : ℕ → ℕ) (n : ℕ) → ((i : ℕ) → i < n → f i ≡ 0) → tally f n ≡ 0
tally_zeros f zero h = tally_none f
tally_zeros f (suc n) h = omega (arith, tally_suc f n, tally_zeros f n (λ i u. h i (omega arith)), h n (omega arith))

pub tally_add : (f g : ℕ → ℕ) (n : ℕ) → tally (λ i. f i + g i) n ≡ tally f n + tally g n
tally_add f g zero = omega (arith, tally_none f, tally_none g, tally_none (λ i. f i + g i))
tally_add f g (suc n) = omega (arith, tally_suc f n, tally_suc g n, tally_suc (λ i. f i + g i) n, tally_add f g n)

pub tally_split : (f : ℕ → ℕ) (a n : ℕ) → tally f (a + n) ≡ tally f a + tally (λ i. f (a + i)) n
tally_split f a zero = rw add-zero (omega (arith, tally_none (λ i. f (a + i))))
tally_split f a (suc n) =
    let z : a + suc n ≡ suc (a + n) = omega arith in
    rw z (omega (arith, tally_suc f (a + n), tally_suc (λ i. f (a + i)) n, tally_split f a n))

-- a stretch of ones
pub tally_ones : (f : ℕ → ℕ) (a d : ℕ) → ((i : ℕ) → a ≤ i → i < a + d → f i ≡ 1) → tally f (a + d) ≡ tally f a + d
tally_ones f a zero h = rw add-zero (omega arith)
tally_ones f a (suc d) h =
    let z : a + suc d ≡ suc (a + d) = omega arith in
    rw z (omega (arith, tally_suc f (a + d), tally_ones f a d (λ i x y. h i x (omega arith)), h (a + d) (omega arith) (omega arith)))

-- a sum that ends after h
pub tally_while : (f : ℕ → ℕ) (h s : ℕ) → tally (λ v. cond (ltb v h) (f v) 0) (h + s) ≡ tally f h
tally_while f h s =
    let F : ℕ → ℕ = λ v. cond (ltb v h) (f v) 0 in
    let none : tally (λ i. F (h + i)) s ≡ 0 = tally_zeros (λ i. F (h + i)) s (λ i u. rw (le-ltb (h + i) h (omega arith))) in
    let all : tally F h ≡ tally f h = tally_cong F f h (λ i u. rw (lt-ltb i h u)) in
    omega (arith, tally_split F h s)

-- n equal ones
pub tally_same : (c n : ℕ) → tally (λ i. c) n ≡ n * c
tally_same c zero = tally_none (λ i. c) ∙ sym (zero-mul c)
tally_same c (suc n) =
    let z : suc n ≡ n + 1 = omega arith in
    tally_suc (λ i. c) n ∙ rw (tally_same c n, z) (omega (arith, add-mul n 1 c, one-mul c))

pub tally_times : (w : ℕ) (f : ℕ → ℕ) (n : ℕ) → tally (λ i. w * f i) n ≡ w * tally f n
tally_times w f zero = tally_none (λ i. w * f i) ∙ rw (tally_none f) (sym (mul-zero w))
tally_times w f (suc n) = tally_suc (λ i. w * f i) n ∙ rw (tally_times w f n, tally_suc f n) (sym (mul-add w (tally f n) (f n)))

-- ---- a radius of 0 takes none

zero_inner : (n : ℕ) → inner 1 n ≡ 0
zero_inner zero = inner_none 1
zero_inner (suc n) =
    let z : suc n - 1 ≡ n = omega arith in
    omega (arith, rw z at (inner_step 1 (suc n) (omega arith) (omega arith)), zero_inner n)

zero_crossing : (n i : ℕ) → crossing 0 n i ≡ 0
unfolding crossing
zero_crossing n i = rw (le-ltb (lo 0 i / (2 * 0 + 1)) (hi 0 n i / (2 * 0 + 1)) (omega arith))

pub zero_count : (n : ℕ) → 0 ≡ comparisons 0 (samples n)
unfolding comparisons
zero_count n = rw (inner_is 1 (samples n), samples_length n, zero_inner n, tally_zeros (crossing 0 n) n (λ i h. zero_crossing n i))
