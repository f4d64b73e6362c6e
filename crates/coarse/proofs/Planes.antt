-- The two planes of the work area, row by row. Assumes nothing.
use mathlib.Core.Path.{◌≡◌, refl, ◌∙◌}
use mathlib.Core.List.{List}
use Prim.Native.Nat.{ℕ, ◌+◌, ◌*◌, ◌≤◌, ◌<◌}
use native.Mathlib.Nat.{mul-le-mul_right}
use native.Mathlib.Omega.{arith}
use native.Mathlib.Decide.{dec_lt}
use lib.IntN.{ℤ, pos}
use Rattle.rules.specs.Window.{Plane, Shown}
use Rattle.rules.specs.Transmission.{Sample}
use Rattle.planes.specs.Cells.{cells}
use Rattle.planes.proofs.Shown.{row_end}
use Rattle.planes.specs.Stage.{word_of, product_word, square_word}
use Rattle.coarse.specs.Rows.{SamplesPut, SampledTo}

module _ (w h : ℕ) (S : Plane (Shown Sample)) (l : List ℤ) where
  pub sampled_none : SampledTo l l w h S 0
  sampled_none = record { products = λ y x p q. absurd (omega arith); squares = λ y x p q. absurd (omega arith); rest = record { same = λ i p. refl } }

  -- row n is put
  pub sampled_more : (m m' : List ℤ) (n : ℕ) → n < h → SampledTo l m w h S n → SamplesPut m m' (n * w) (w * h + n * w) (S n) w → SampledTo l m' w h S (n + 1)
  sampled_more m m' n low was put =
      record {
        products = λ y x p q. product y x p q (dec_lt y n);
        squares = λ y x p q. square y x p q (dec_lt y n);
        rest = record { same = λ i p. put.kept i (λ s t. omega (arith, row_end w h n low)) (λ s t. omega (arith, row_end w h n low)) ∙ was.rest.same i p };
      }
    where
      product : (y x : ℕ) → y < n + 1 → x < w → Dec (y < n) → cells m' 0 w y x ≡ pos (word_of product_word (S y x))
      product y x p q (yes j) =
          let b : (y + 1) * w ≤ n * w = mul-le-mul_right w (omega arith) in
          put.kept (0 + (y * w + x)) (λ s t. omega arith) (λ s t. omega (arith, row_end w h y (omega arith))) ∙ was.products y x j q
      product y x p q (no j) =
          let k : y ≡ n = omega arith in
          let e : 0 + (n * w + x) ≡ n * w + x = omega arith in
          rw (k, e) (put.products x q)

      square : (y x : ℕ) → y < n + 1 → x < w → Dec (y < n) → cells m' (w * h) w y x ≡ pos (word_of square_word (S y x))
      square y x p q (yes j) =
          let b : (y + 1) * w ≤ n * w = mul-le-mul_right w (omega arith) in
          put.kept (w * h + (y * w + x)) (λ s t. omega (arith, row_end w h n low)) (λ s t. omega arith) ∙ was.squares y x j q
      square y x p q (no j) =
          let k : y ≡ n = omega arith in
          let e : w * h + (n * w + x) ≡ w * h + n * w + x = omega arith in
          rw (k, e) (put.squares x q)
