-- `pixel::slope` meets its contract. The products are bounded by n * n, and n * n by 14641 * 14641. Assumes nothing.
use Prim.Native.Nat.{ℕ, ◌*◌}
use mathlib.Core.Path.{◌≡◌, ap, ap₂, ◌∙◌}
use lib.IntN.{ℤ, pos, ◌-ℤ◌, ◌*ℤ◌}
use lib.Signed.{shr_z}
use native.Mathlib.Omega.{arith}
use mir.Syntax.{w64}
use mir.Val.{SFits, to_z}
use Rattle.rules.specs.Transmission.{P, Q, slope_of}
use Rattle.rules.proofs.Integers.{back, fits, rd, rd_is}
use Rattle.pixel.proofs.Sizes.{Sizes, sizes, slope_small}
use Rattle.pixel.proofs.slope.Goals as goal
use Rattle.pixel.proofs.slope.Goals.{Start}

module _ (s : Start) where
  abbrev n : ℕ
  n = s.args.n

  abbrev sg : ℕ
  sg = s.args.sg

  abbrev st : ℕ
  st = s.args.st

  abbrev sgg : ℕ
  sgg = s.args.sgg

  abbrev sgt : ℕ
  sgt = s.args.sgt

  abbrev e : ℕ
  e = s.args.e

  z : Sizes n sg st sgg sgt e
  z = sizes n sg st sgg sgt e s.requires.0 s.requires.1 s.requires.2

  -- P as the machine has it
  abbrev p : ℤ
  p = to_z w64 (n * sgt) -ℤ to_z w64 (sg * st)

  p_is : p ≡ P n sg st sgt
  p_is = ap₂ (λ (a b : ℤ). a -ℤ b) (rd_is (pos (n * sgt)) (omega (arith, z))) (rd_is (pos (sg * st)) (omega (arith, z)))

  p_fits : SFits w64 p
  p_fits = rw p_is (fits _ (omega (arith, z)))

  k_is : pos 1024 *ℤ rd p ≡ pos 1024 *ℤ P n sg st sgt
  k_is = ap (λ (z : ℤ). pos 1024 *ℤ z) (back _ p_fits ∙ p_is)

  k_fits : SFits w64 (pos 1024 *ℤ rd p)
  k_fits = rw k_is (fits _ (omega (arith, z)))

  k_back : rd (pos 1024 *ℤ rd p) ≡ pos 1024 *ℤ P n sg st sgt
  k_back = back _ k_fits ∙ k_is

  exact : shr_z (rd (pos 1024 *ℤ rd p)) (Q n sg sgg e) ≡ slope_of n sg st sgg sgt e
  exact = ap (λ (a : ℤ). shr_z a (Q n sg sgg e)) k_back

pub overflow_mul-p-3 : goal.overflow_mul-p-3
overflow_mul-p-3 c = k_fits (goal.at.overflow_mul-p-3 c).Start

pub returns : goal.returns
returns c =
    let r = back c.floor_div.result (record { sfits = c.floor_div.type_inv }) ∙ c.floor_div.ensures ∙ exact (goal.at.returns c).Start in
    record { exact = r; small = rw r (slope_small _ _ _ _ _ _ (z (goal.at.returns c).Start)) }
