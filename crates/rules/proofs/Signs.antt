-- A signed number as its part above zero and its part below: z is up z − down z, and one of them is 0. In these `omega` reads it: a law for each
-- operation of ℤ, for its order, and for the quotient toward minus infinity. Assumes nothing.
use mathlib.Core.Path.{◌≡◌, refl, sym}
use mathlib.Core.Bool.{Bool, true, false, cond, true≢false}
use Prim.Native.Nat.{ℕ, zero, suc, ◌+◌, ◌-◌, ◌*◌, ◌≤◌, ◌<◌}
use native.Mathlib.Nat.{mul-div-le, lt-mul-div-succ}
use native.Mathlib.Omega.{arith}
use lib.Dec.{ltb, lt→ltb, le→leb}
use lib.IntN.{ℤ, pos, negsuc, neg_ℤ, nat_abs, sub_ℕ, ◌+ℤ◌, ◌-ℤ◌, ◌*ℤ◌}
use lib.Signed.{shr_z, lt_z, ◌<ℤ◌, ◌≤ℤ◌}
use borrow.Author.Tests.{ltb-false, ltb-true}

abbrev pub up : ℤ → ℕ
up (pos n) = n
up (negsuc n) = 0

abbrev pub down : ℤ → ℕ
down (pos n) = 0
down (negsuc n) = suc n

less_is : (a b : ℕ) → up (sub_ℕ a b) + b ≡ a + down (sub_ℕ a b)
less_is a b = go (ltb a b) refl
  where
    go : (t : Bool) → ltb a b ≡ t → up (cond t (negsuc (b - suc a)) (pos (a - b))) + b ≡ a + down (cond t (negsuc (b - suc a)) (pos (a - b)))
    go true e = let h = ltb-true a b e in omega arith
    go false e = let h = ltb-false a b e in omega arith

pub plus_is : (a b : ℤ) → up (a +ℤ b) + (down a + down b) ≡ up a + up b + down (a +ℤ b)
plus_is (pos a) (pos b) = omega arith
plus_is (pos a) (negsuc b) = let h = less_is a (suc b) in omega arith
plus_is (negsuc a) (pos b) = let h = less_is b (suc a) in omega arith
plus_is (negsuc a) (negsuc b) = omega arith

pub up_neg : (a : ℤ) → up (neg_ℤ a) ≡ down a
up_neg (pos zero) = refl
up_neg (pos (suc n)) = refl
up_neg (negsuc n) = refl

pub down_neg : (a : ℤ) → down (neg_ℤ a) ≡ up a
down_neg (pos zero) = refl
down_neg (pos (suc n)) = refl
down_neg (negsuc n) = refl

pub minus_is : (a b : ℤ) → up (a -ℤ b) + (down a + up b) ≡ up a + down b + down (a -ℤ b)
minus_is a b = let h = plus_is a (neg_ℤ b) in let u = up_neg b in let d = down_neg b in omega arith

pub times_is : (a b : ℤ) → up (a *ℤ b) + (up a * down b + down a * up b) ≡ up a * up b + down a * down b + down (a *ℤ b)
times_is (pos a) (pos b) = omega arith
times_is (pos a) (negsuc b) = let u = up_neg (pos (a * suc b)) in let d = down_neg (pos (a * suc b)) in omega arith
times_is (negsuc a) (pos b) = let u = up_neg (pos (suc a * b)) in let d = down_neg (pos (suc a * b)) in omega arith
times_is (negsuc a) (negsuc b) = omega arith

pub lt_is : (a b : ℤ) → up a + down b < up b + down a → a <ℤ b
lt_is (pos a) (pos b) h = record { lt = lt→ltb a b (omega arith) }
lt_is (pos a) (negsuc b) h = absurd (omega arith)
lt_is (negsuc a) (pos b) h = record { lt = tt }
lt_is (negsuc a) (negsuc b) h = record { lt = lt→ltb b a (omega arith) }

pub le_is : (a b : ℤ) → up a + down b ≤ up b + down a → a ≤ℤ b
le_is (pos a) (pos b) h = record { le = le→leb a b (omega arith) }
le_is (pos a) (negsuc b) h = absurd (omega arith)
le_is (negsuc a) (pos b) h = record { le = tt }
le_is (negsuc a) (negsuc b) h = record { le = le→leb b a (omega arith) }

pub size_is : (a : ℤ) → nat_abs a ≡ up a + down a
size_is (pos n) = omega arith
size_is (negsuc n) = omega arith

-- a test of order, either way
pub test_yes : (a b : ℤ) → lt_z a b ≡ true → up a + down b < up b + down a
test_yes (pos a) (pos b) e = let h = ltb-true a b e in omega arith
test_yes (pos a) (negsuc b) e = absurd (true≢false (sym e))
test_yes (negsuc a) (pos b) e = omega arith
test_yes (negsuc a) (negsuc b) e = let h = ltb-true b a e in omega arith

pub test_no : (a b : ℤ) → lt_z a b ≡ false → up b + down a ≤ up a + down b
test_no (pos a) (pos b) e = let h = ltb-false a b e in omega arith
test_no (pos a) (negsuc b) e = omega arith
test_no (negsuc a) (pos b) e = absurd (true≢false e)
test_no (negsuc a) (negsuc b) e = let h = ltb-false b a e in omega arith

-- the quotient toward minus infinity
pub record Floor (z : ℤ) (m : ℕ) (q : ℤ) : Type 0 where
  pub most : m * up q + down z ≤ up z + m * down q
  pub least : up z + m * down q < down z + m * up q + m

pub shr_is : (z : ℤ) (m : ℕ) → 0 < m → Floor z m (shr_z z m)
shr_is (pos a) m h = let l = mul-div-le a m in let g = lt-mul-div-succ a {b = m} h in record { most = omega arith; least = omega arith }
shr_is (negsuc a) m h = let l = mul-div-le a m in let g = lt-mul-div-succ a {b = m} h in record { most = omega arith; least = omega arith }
