-- Where a window reaches into two blocks, by the start of its last sample's block. Assumes nothing.
use mathlib.Core.Path.{◌≡◌}
use mathlib.Core.Bool.{cond}
use mathlib.Core.Logic.{⊎_elim, ◌↔◌}
use Prim.Native.Nat.{ℕ, ◌+◌, ◌*◌, ◌/◌, ◌≤◌, ◌<◌}
use native.Mathlib.Nat.{div-lt_iff_lt-mul}
use native.Mathlib.Omega.{arith}
use borrow.Author.Tests.{lt-ltb, le-ltb}
use lib.Dec.{ltb}
use Rattle.rules.specs.Count.{lo, hi, crossing}
use Rattle.windows.specs.Blocks.{start}
use Rattle.windows.proofs.Cuts.{lt_or_ge}

-- a window reaches into two blocks exactly where it begins before the block of its last sample
pub crossing_is : (s n i : ℕ) → crossing s n i ≡ cond (ltb (lo s i) (start (2 * s + 1) (hi s n i))) 1 0
unfolding crossing start
crossing_is s n i =
    let both : (lo s i / (2 * s + 1) < hi s n i / (2 * s + 1)) ↔ (lo s i < hi s n i / (2 * s + 1) * (2 * s + 1)) = div-lt_iff_lt-mul (omega arith) in
    ⊎_elim
    (λ (h : lo s i < hi s n i / (2 * s + 1) * (2 * s + 1)). rw (lt-ltb _ _ h, lt-ltb _ _ (both.1 h)))
    (λ (h : hi s n i / (2 * s + 1) * (2 * s + 1) ≤ lo s i).
    rw (
      le-ltb _ _ h,
      le-ltb (lo s i / (2 * s + 1)) (hi s n i / (2 * s + 1))
          (⊎_elim (λ (x : lo s i / (2 * s + 1) < hi s n i / (2 * s + 1)). absurd (omega (arith, both.0 x))) (λ x. x) (lt_or_ge (lo s i / (2 * s + 1)) (hi s n i / (2 * s + 1)))),
    ))
    (lt_or_ge (lo s i) (hi s n i / (2 * s + 1) * (2 * s + 1)))
