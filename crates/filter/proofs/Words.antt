-- Sums of the samples' two words over a window of at most 14,641 of them, taken apart into the sums of their four terms. Assumes nothing.
use mathlib.Core.Path.{◌≡◌}
use mathlib.Core.List.{List, [], ◌∷◌}
use Prim.Native.Nat.{ℕ, ◌+◌, ◌*◌}
use native.Mathlib.Omega.{arith}
use lib.ListN.{length}
use Rattle.rules.specs.Window.{total}
use Rattle.rules.specs.Transmission.{Sample, Sg, St, Sgg, Sgt}
use Rattle.planes.specs.Stage.{product_word, square_word}
use Rattle.pixel.specs.Moments.{Moments}
use Rattle.filter.specs.Row.{guides, products, coarses, squares}

-- a sum of two terms in one word
total_word : (f g : Sample → ℕ) (c : ℕ) (l : List Sample) → total (λ i. f i + c * g i) l ≡ total f l + c * total g l
total_word f g c [] = omega arith
total_word f g c (i ∷ l) = omega (arith, total_word f g c l)

module _ (l : List Sample) (m : Moments (length l) (Sg l) (St l) (Sgg l) (Sgt l)) where
  -- the sum of each word
  products_sum : total product_word l ≡ Sg l + 16777216 * Sgt l
  products_sum = total_word (λ i. i.g) (λ i. i.g * i.t) 16777216 l

  squares_sum : total square_word l ≡ St l + 268435456 * Sgg l
  squares_sum = total_word (λ i. i.t) (λ i. i.g * i.g) 268435456 l

  -- and its halves
  pub guides_is : guides (total product_word l) ≡ Sg l
  guides_is = rw products_sum (omega (arith, m.g, m.few))

  pub products_is : products (total product_word l) ≡ Sgt l
  products_is = rw products_sum (omega (arith, m.g, m.few))

  pub coarses_is : coarses (total square_word l) ≡ St l
  coarses_is = rw squares_sum (omega (arith, m.t, m.few))

  pub squares_is : squares (total square_word l) ≡ Sgg l
  squares_is = rw squares_sum (omega (arith, m.t, m.few))
