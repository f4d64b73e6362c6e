-- `pixel::offset` meets its contract: with 2^31 n added, what is divided is a natural number below 2^32 n. Assumes nothing.
use Prim.Native.Nat.{ℕ, ◌+◌, ◌*◌, ◌/◌, ◌≤◌, ◌<◌}
use mathlib.Core.Path.{◌≡◌, ap, ap₂, ◌∙◌}
use lib.IntN.{ℤ, pos, nat_abs, ◌-ℤ◌, ◌*ℤ◌}
use native.Mathlib.Nat.{mul-le-mul, div-lt_iff_lt-mul}
use native.Mathlib.Omega.{arith}
use mir.Syntax.{w64}
use mir.Val.{SFits, to_z}
use Rattle.rules.specs.Transmission.{offset_of}
use Rattle.rules.proofs.Integers.{back, fits, rd, rd_is, mul_is, nat_abs-*, shr_le}
use Rattle.pixel.proofs.Sizes.{offset_top}
use Rattle.pixel.proofs.Signs.{up, up_le, up_sub, up_div}
use Rattle.pixel.proofs.offset.Goals as goal
use Rattle.pixel.proofs.offset.Goals.{After-long_over, Start}

module _ (s : Start) where
  abbrev n : ℕ
  n = s.args.n

  abbrev sg : ℕ
  sg = s.args.sg

  abbrev st : ℕ
  st = s.args.st

  abbrev a : ℤ
  a = s.args.a

  abbrev top : ℤ
  top = pos (1024 * st) -ℤ a *ℤ pos sg

  -- what is divided
  abbrev y : ℕ
  y = up (2147483648 * n) top

  as_is : rd a *ℤ to_z w64 sg ≡ a *ℤ pos sg
  as_is = mul_is a (pos sg) (omega (arith, s.requires.5)) (omega (arith, s.requires.3))

  as_fits : SFits w64 (rd a *ℤ to_z w64 sg)
  as_fits = rw as_is (fits _ (omega (arith, nat_abs-* a (pos sg), mul-le-mul s.requires.5 s.requires.3)))

  top_le : nat_abs top ≤ 1968640000 * n
  top_le = offset_top n sg st a s.requires.3 s.requires.4 s.requires.5

  y_lt : y < 4294967296 * n
  y_lt = omega (arith, up_le (2147483648 * n) top, top_le, s.requires.0)

  -- as the machine has it
  abbrev v : ℤ
  v = to_z w64 (1024 * st + 2147483648 * n) -ℤ rd (rd a *ℤ to_z w64 sg)

  y_is : v ≡ pos y
  y_is =
      ap₂ (λ (x w : ℤ). x -ℤ w) (rd_is (pos (1024 * st + 2147483648 * n)) (omega (arith, s.requires.4, s.requires.1))) (back _ as_fits ∙ as_is)
      ∙ up_sub (2147483648 * n) (1024 * st) (a *ℤ pos sg) (omega (arith, top_le))

  y_fits : SFits w64 v
  y_fits = rw y_is (fits (pos y) (omega (arith, y_lt, s.requires.1)))

  y_back : rd v ≡ pos y
  y_back = back _ y_fits ∙ y_is

  small : nat_abs (offset_of n sg st a) ≤ 2147483648
  small = shr_le top n 2147483648 s.requires.0 (omega (arith, top_le))

  exact : pos (y / n) -ℤ pos 2147483648 ≡ offset_of n sg st a
  exact = up_div n 2147483648 top s.requires.0 (omega (arith, top_le))

module _ (c : After-long_over) where
  abbrev s : Start
  s = (goal.at.After-long_over c).Start

  q_is : c.long_over.result ≡ y s / n s
  q_is = rw (y_back s) at c.long_over.ensures

  q_lt : c.long_over.result < 4294967296
  q_lt = rw q_is ((div-lt_iff_lt-mul {x = y s} {y = 4294967296} s.requires.0).1 (y_lt s))

  result_is : to_z w64 c.long_over.result -ℤ pos 2147483648 ≡ offset_of (n s) (sg s) (st s) (a s)
  result_is =
      ap (λ (x : ℤ). x -ℤ pos 2147483648) (rd_is (pos c.long_over.result) (omega (arith, q_lt)) ∙ ap pos q_is) ∙ exact s

  result_fits : SFits w64 (to_z w64 c.long_over.result -ℤ pos 2147483648)
  result_fits = rw result_is (fits _ (omega (arith, small s)))

pub overflow_sub-y : goal.overflow_sub-y
overflow_sub-y c = y_fits (goal.at.overflow_sub-y c).Start

pub overflow_cast-y-3 : goal.overflow_cast-y-3
overflow_cast-y-3 c = rw (y_back (goal.at.overflow_cast-y-3 c).Start) (tt, record { fits = omega (arith, y_lt (goal.at.overflow_cast-y-3 c).Start, c.requires.1) })

pub long_over-requires : goal.long_over-requires
long_over-requires c = rw (y_back (goal.at.long_over-requires c).Start) (c.requires.0, c.requires.1, c.requires.2, y_lt (goal.at.long_over-requires c).Start)

pub overflow_cast-result : goal.overflow_cast-result
overflow_cast-result c = fits (pos c.long_over.result) (omega (arith, q_lt (goal.at.overflow_cast-result c).After-long_over))

pub overflow_sub-result : goal.overflow_sub-result
overflow_sub-result c = result_fits (goal.at.overflow_sub-result c).After-long_over

pub returns : goal.returns
returns c = let r = back _ (result_fits (goal.at.returns c).After-long_over) ∙ result_is (goal.at.returns c).After-long_over in record { exact = r; small = rw r (small (goal.at.returns c).Start) }
