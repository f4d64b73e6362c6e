-- Names and values: which classes are letters, the tests in their order, and what is known of a word. Assumes nothing.
use mathlib.Core.Path.{◌≡◌, refl, ◌∙◌}
use mathlib.Core.Bool.{true, false}
use mathlib.Core.List.{List, [], ◌∷◌}
use mathlib.Core.Logic.{⊎_elim}
use Prim.Native.Nat.{ℕ, ◌≤◌, ◌<◌}
use native.Mathlib.Omega.{arith}
use lib.Dec.{ltb}
use lib.ListN.{length}
use borrow.Author.Tests.{lt-ltb, le-ltb}
use types.Run.{OneOf}
use denote.Enum.Declared.{tag_of}
use Rattle.fields.specs.declared.Class.{Class}
use Rattle.fields.specs.contracts.Class.{the_type}
use Rattle.fields.specs.declared.Class.TheVariants.{Digit, Lower, Tab, LineEnd, Other}
use Rattle.fields.specs.Every.{every}
use Rattle.fields.proofs.Every.{up_to_empty, up_to_long, up_to_is, up_to_some, up_to_every}
use Rattle.settings.specs.Texts.{in_word, letter, word}

-- ---- the first two classes are the letters, the other three are not

by_tag : (k : Class) → in_word k ≡ ltb (tag_of the_type k) 2
by_tag Digit = refl
by_tag Lower = refl
by_tag Tab = refl
by_tag LineEnd = refl
by_tag Other = refl

low : (t : ℕ) → OneOf (0 ∷ 1 ∷ []) t → t < 2
low t = ⊎_elim (λ (e : t ≡ 0). let z : t < 2 = omega arith in z) (λ (e : t ≡ 1). let z : t < 2 = omega arith in z)

high : (t : ℕ) → OneOf (2 ∷ 3 ∷ 4 ∷ []) t → 2 ≤ t
high t =
    ⊎_elim (λ (e : t ≡ 2). let z : 2 ≤ t = omega arith in z)
    (⊎_elim (λ (e : t ≡ 3). let z : 2 ≤ t = omega arith in z) (λ (e : t ≡ 4). let z : 2 ≤ t = omega arith in z))

module _ (k : Class) where
  pub is_letter : OneOf (0 ∷ 1 ∷ []) (tag_of the_type k) → in_word k ≡ true
  is_letter h = by_tag k ∙ lt-ltb (tag_of the_type k) 2 (low (tag_of the_type k) h)

  pub no_letter : OneOf (2 ∷ 3 ∷ 4 ∷ []) (tag_of the_type k) → in_word k ≡ false
  no_letter h = by_tag k ∙ le-ltb (tag_of the_type k) 2 (high (tag_of the_type k) h)

-- ---- the tests in their order

module _ (s : List ℕ) where
  pub word_empty : length s ≡ 0 → word s ≡ false
  unfolding word
  word_empty = up_to_empty 16 letter s

  pub word_long : 16 < length s → word s ≡ false
  unfolding word
  word_long = up_to_long 16 letter s

  pub word_is : 0 < length s → length s ≤ 16 → word s ≡ every letter s
  unfolding word
  word_is = up_to_is 16 letter s

  module _ (w : word s ≡ true) where
    pub word_some : 0 < length s
    unfolding word
    word_some = up_to_some 16 letter s w

    pub word_letters : every letter s ≡ true
    unfolding word
    word_letters = up_to_every 16 letter s w
