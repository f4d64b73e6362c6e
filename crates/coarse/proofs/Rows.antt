-- What a store adds: an entry to a row, the two words of a sample, 0 of a hidden one, to the work area. Assumes nothing.
use mathlib.Core.Path.{◌≡◌, refl, sym, ap, ◌∙◌}
use mathlib.Core.Bool.{Bool, true, false, cond}
use mathlib.Core.List.{List}
use Prim.Native.Nat.{ℕ, ◌+◌, ◌<◌}
use native.Mathlib.Omega.{arith}
use lib.ListN.{length, get_or, set}
use lib.IntN.{ℤ, pos}
use mir.Syntax.{w64}
use mir.Val.{SFits}
use mir.Facts.{to_z-of_z}
use Rattle.rules.specs.Window.{Shown}
use Rattle.rules.specs.Transmission.{Sample}
use Rattle.rules.proofs.Integers.{rd}
use Rattle.planes.specs.Stage.{word_of, product_word, square_word}
use Rattle.std.proofs.lemmas.Grind.{common_steps}
use Rattle.coarse.specs.Rows.{SamplesPut}

-- ---- entry n goes into a row whose first n are those of g

pub row_more : (g : ℕ → ℕ) (l : List ℕ) (n x : ℕ) → n < length l → x ≡ g n → ((i : ℕ) → i < n → get_or l i 0 ≡ g i)
    → (i : ℕ) → i < n + 1 → get_or (set l n x) i 0 ≡ g i
row_more g l n x inside e h i q = grind (arith, common_steps, h)

-- ---- the words of sample n go into the work area

-- z is a word of a sample, and m what is chosen by whether it is seen
pub word_is : (word : Sample → ℕ) (i : Shown Sample) (z m : ℤ) → SFits w64 z → SFits w64 m → z ≡ pos (word i.value) → m ≡ cond i.seen (rd z) (pos 0)
    → rd m ≡ pos (word_of word i)
word_is word i z m z-fits m-fits e chosen = to_z-of_z {w = w64} m-fits ∙ chosen ∙ go i.seen
  where
    go : (b : Bool) → cond b (rd z) (pos 0) ≡ pos (cond b (word i.value) 0)
    go true = to_z-of_z {w = w64} z-fits ∙ e
    go false = refl

module _ (to two : ℕ) (S : ℕ → Shown Sample) where
  pub puts_more : (l m : List ℤ) (n : ℕ) (a b : ℤ) → to + n < two → two + n < length m → a ≡ pos (word_of product_word (S n)) → b ≡ pos (word_of square_word (S n))
      → SamplesPut l m to two S n → SamplesPut l (set (set m (to + n) a) (two + n) b) to two S (n + 1)
  puts_more l m n a b apart inside ea eb put =
      record {
        products = λ x h. grind (arith, common_steps, put.products x);
        squares = λ x h. grind (arith, common_steps, put.squares x);
        kept = λ i p q. grind (arith, common_steps, put.kept i (λ s t. p s (omega arith)) (λ s t. q s (omega arith)), p, q);
      }

-- the same samples, otherwise named
pub puts_as : (l m : List ℤ) (to two : ℕ) (S T : ℕ → Shown Sample) (n : ℕ) → ((x : ℕ) → x < n → T x ≡ S x) → SamplesPut l m to two S n → SamplesPut l m to two T n
puts_as l m to two S T n e put =
    record {
      products = λ x h. put.products x h ∙ ap (λ (i : Shown Sample). pos (word_of product_word i)) (sym (e x h));
      squares = λ x h. put.squares x h ∙ ap (λ (i : Shown Sample). pos (word_of square_word i)) (sym (e x h));
      kept = put.kept;
    }
