-- How many digits a number has, and how long a written file is. Assumes nothing.
use mathlib.Core.Path.{◌≡◌, sym}
use mathlib.Core.List.{List}
use Prim.Native.Nat.{ℕ, ◌+◌, ◌*◌, ◌/◌, ◌≤◌, ◌<◌}
use native.Mathlib.Omega.{arith}
use lib.ListN.{length, length-append}
use Rattle.rules.specs.declared.Size.{Size}
use Rattle.fields.specs.Decimal.{decimal}
use Rattle.fields.proofs.Written.{length_one, length_more}
use Rattle.ppm.specs.File.{head, file, long}

-- ---- a number below 10,000

module _ (n : ℕ) where
  pub one_digit : n < 10 → 1 ≡ length (decimal n)
  one_digit h = sym (length_one n h)

  pub two_digits : 10 ≤ n → n < 100 → 2 ≡ length (decimal n)
  two_digits l h = omega (arith, length_more n l, length_one (n / 10) (omega arith))

  pub three_digits : 100 ≤ n → n < 1000 → 3 ≡ length (decimal n)
  three_digits l h = omega (arith, length_more n (omega arith), length_more (n / 10) (omega arith), length_one (n / 10 / 10) (omega arith))

  pub four_digits : 1000 ≤ n → n < 10000 → 4 ≡ length (decimal n)
  four_digits l h =
      omega (arith, length_more n (omega arith), length_more (n / 10) (omega arith), length_more (n / 10 / 10) (omega arith), length_one (n / 10 / 10 / 10) (omega arith))

-- ---- a file

pub head_long : (z : Size) → length (head z) ≡ 9 + length (decimal z.w) + length (decimal z.h)
unfolding head
head_long z = simp length-append (omega arith)

pub long_is : (z : Size) (frame : List ℕ) → length frame ≡ 3 * (z.w * z.h) → length (file z frame) ≡ long z
long_is z frame e = omega (arith, length-append (head z) frame, head_long z)
