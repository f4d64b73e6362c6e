-- The sums over a list of samples are moments: what `slope` asks for. Assumes nothing.
use mathlib.Core.List.{List, [], ◌∷◌}
use Prim.Native.Nat.{ℕ, ◌*◌, ◌≤◌, ◌<◌}
use native.Mathlib.Nat.{mul-le-mul}
use native.Mathlib.Omega.{arith}
use lib.ListN.{length}
use Rattle.rules.specs.Window.{total}
use Rattle.rules.specs.Transmission.{Sample, Sg, St, Sgg, Sgt}
use Rattle.rules.proofs.Windowed.{All, none, more}
use Rattle.rules.proofs.Spread.{spread, rise, fall}
use Rattle.pixel.specs.Moments.{Moments}

-- a sample of guide and coarse value
pub record Small (i : Sample) : Type 0 where
  pub guide : i.g ≤ 765
  pub coarse : i.t ≤ 10000

-- what bounds each value bounds their sum
total_le : (f : Sample → ℕ) (B : ℕ) → ((i : Sample) → Small i → f i ≤ B) → (l : List Sample) → All Small l → total f l ≤ B * length l
total_le f B le [] none = omega arith
total_le f B le (i ∷ l) (more h a) = omega (arith, total_le f B le l a, le i h)

coarse_all : (l : List Sample) → All Small l → All (λ (i : Sample). i.t ≤ 10000) l
coarse_all [] none = none
coarse_all (i ∷ l) (more h a) = more h.coarse (coarse_all l a)

pub moments : (l : List Sample) → 0 < length l → length l ≤ 14641 → All Small l → Moments (length l) (Sg l) (St l) (Sgg l) (Sgt l)
moments l some few a = record {
  some = some;
  few = few;
  g = total_le (λ i. i.g) 765 (λ i h. h.guide) l a;
  t = total_le (λ i. i.t) 10000 (λ i h. h.coarse) l a;
  gg = total_le (λ i. i.g * i.g) 585225 (λ i h. mul-le-mul h.guide h.guide) l a;
  gt = total_le (λ i. i.g * i.t) 7650000 (λ i h. mul-le-mul h.guide h.coarse) l a;
  spread = spread l;
  rise = rise l (coarse_all l a);
  fall = fall l (coarse_all l a);
}
