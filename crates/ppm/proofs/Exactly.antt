-- Each number is given exactly when its test holds and none before it does, and a call is taken exactly when none holds. An answer says its number. What size
-- refuses, read refuses with the same number. Assumes nothing.
use mathlib.Core.Path.{◌≡◌, refl, sym}
use mathlib.Core.Bool.{Bool, true, false, cond, not}
use mathlib.Core.List.{List, [], ◌∷◌}
use Prim.Native.Nat.{ℕ, zero, suc, ◌≤◌}
use native.Mathlib.Omega.{arith}
use lib.ListN.{length}
use Rattle.rules.specs.declared.Size.{Size}
use Rattle.rules.specs.Answers.{or, said}
use Rattle.rules.specs.Refusals.{off, bad_size, bad_frame}
use Rattle.rules.proofs.Exactly.{Exact, exact, joined_some}
use Rattle.rules.proofs.Lowest.{Lowest, numbers, lowest}
use Rattle.rules.proofs.Answers.{said_or}
use Rattle.pnm.specs.Header.{good}
use Rattle.ppm.specs.File.{long}
use Rattle.ppm.specs.Promise.{size, maximum, pixels, tests_size, tests_read, tests_write, refuse_size, refuse_read, refuse_write}

pub size_exact : (s : List ℕ) → Exact (refuse_size s) (tests_size s)
unfolding refuse_size
size_exact s = exact _ refl

pub read_exact : (s : List ℕ) (lent : ℕ) → Exact (refuse_read s lent) (tests_read s lent)
unfolding refuse_read
read_exact s lent = exact _ refl

pub write_exact : (z : Size) (frame out : ℕ) → Exact (refuse_write z frame out) (tests_write z frame out)
unfolding refuse_write
write_exact z frame out = exact _ refl

-- ---- the order of the numbers: for a file that of request One, which does not ascend; for a file that is written the lowest number is given

pub size_order : (s : List ℕ) → numbers (tests_size s) ≡ 11 ∷ 1 ∷ 12 ∷ 13 ∷ []
size_order s = refl

pub read_order : (s : List ℕ) (lent : ℕ) → numbers (tests_read s lent) ≡ 11 ∷ 1 ∷ 12 ∷ 13 ∷ 4 ∷ []
read_order s lent = refl

pub write_lowest : (z : Size) (frame out : ℕ) → Lowest (1 ∷ 3 ∷ 4 ∷ []) (refuse_write z frame out) (tests_write z frame out)
unfolding refuse_write
write_lowest z frame out = lowest _ refl

-- ---- no number is above 15, so an answer says its number

pub size_most : (s : List ℕ) → refuse_size s ≤ 15
unfolding refuse_size
size_most s = go (not (good 54 s)) (bad_size (size s)) (off (maximum s) 255) (bad_frame (size s) (length (pixels s)))
  where
    go : (a b c d : Bool) → cond a 11 (cond b 1 (cond c 12 (cond d 13 0))) ≤ 15
    go true b c d = omega arith
    go false true c d = omega arith
    go false false true d = omega arith
    go false false false true = omega arith
    go false false false false = omega arith

pub read_most : (s : List ℕ) (lent : ℕ) → refuse_read s lent ≤ 15
unfolding refuse_read
read_most s lent = go (not (good 54 s)) (bad_size (size s)) (off (maximum s) 255) (bad_frame (size s) (length (pixels s))) (bad_frame (size s) lent)
  where
    go : (a b c d e : Bool) → cond a 11 (cond b 1 (cond c 12 (cond d 13 (cond e 4 0)))) ≤ 15
    go true b c d e = omega arith
    go false true c d e = omega arith
    go false false true d e = omega arith
    go false false false true e = omega arith
    go false false false false true = omega arith
    go false false false false false = omega arith

pub write_most : (z : Size) (frame out : ℕ) → refuse_write z frame out ≤ 15
unfolding refuse_write
write_most z frame out = go (bad_size z) (bad_frame z frame) (off out (long z))
  where
    go : (a b c : Bool) → cond a 1 (cond b 3 (cond c 4 0)) ≤ 15
    go true b c = omega arith
    go false true c = omega arith
    go false false true = omega arith
    go false false false = omega arith

pub said_size : (s : List ℕ) (z : Size) → said (or (refuse_size s) z) ≡ refuse_size s
said_size s z = said_or (refuse_size s) z (size_most s)

pub said_read : (s : List ℕ) (lent : ℕ) (z : Size) → said (or (refuse_read s lent) z) ≡ refuse_read s lent
said_read s lent z = said_or (refuse_read s lent) z (read_most s lent)

pub said_write : (z : Size) (frame out : ℕ) → said (or (refuse_write z frame out) (tt {0})) ≡ refuse_write z frame out
said_write z frame out = said_or (refuse_write z frame out) (tt {0}) (write_most z frame out)

-- ---- what size says, read says

pub size_then_read : (s : List ℕ) (lent n : ℕ) → refuse_size s ≡ suc n → refuse_read s lent ≡ suc n
unfolding refuse_size refuse_read
size_then_read s lent n e = sym (joined_some (tests_size s) ((4, bad_frame (size s) lent) ∷ []) (suc n) (sym e) (λ z. omega arith))

pub read_then_size : (s : List ℕ) (lent : ℕ) → refuse_read s lent ≡ 0 → refuse_size s ≡ 0
read_then_size s lent e = go (refuse_size s) refl
  where
    go : (n : ℕ) → refuse_size s ≡ n → n ≡ 0
    go zero f = refl
    go (suc n) f = let z = size_then_read s lent n f in omega arith
