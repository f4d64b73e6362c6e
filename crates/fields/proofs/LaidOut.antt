-- A line that is laid out: the tests in their order, what is known of it, and that it has no byte of the class other. Assumes nothing.
use mathlib.Core.Path.{◌≡◌, refl, sym, ap, ◌∙◌}
use mathlib.Core.Bool.{Bool, true, false, ◌&&◌}
use mathlib.Core.List.{List, [], ◌∷◌}
use Prim.Native.Nat.{ℕ, suc, ◌+◌}
use native.Mathlib.Omega.{arith}
use lib.Dec.{eqb}
use lib.ListN.{length, get_or, drop}
use borrow.Author.Tests.{eq-eqb, ne_eqb, eqb-true}
use Rattle.fields.specs.Bytes.{plain}
use Rattle.fields.specs.Every.{every}
use Rattle.fields.specs.Fields.{split, field_of, same}
use Rattle.fields.specs.LaidOut.{laid}
use Rattle.fields.proofs.Every.{both, every_also}
use Rattle.fields.proofs.Alike.{same_eq}
use Rattle.fields.proofs.Lines.{plain_fields}

module _ (t : List ℕ → Bool) (word line : List ℕ) (n : ℕ) where
  pub laid_word : same (field_of 9 line 0) word ≡ false → false ≡ laid t word n line
  unfolding laid
  laid_word e = rw e

  module _ (w : same (field_of 9 line 0) word ≡ true) where
    pub laid_count : (length (split 9 line) ≡ n + 1 → ⊥) → false ≡ laid t word n line
    unfolding laid
    laid_count e = rw (w, ne_eqb (length (split 9 line)) (suc n) (λ q. e (let z : length (split 9 line) ≡ n + 1 = omega arith in z)))

    pub laid_fields : length (split 9 line) ≡ n + 1 → every t (drop 1 (split 9 line)) ≡ laid t word n line
    unfolding laid
    laid_fields e = rw (w, eq-eqb (length (split 9 line)) (suc n) (let z : length (split 9 line) ≡ suc n = omega arith in z))

-- ---- what is known of it

pub record Laid (t : List ℕ → Bool) (word : List ℕ) (n : ℕ) (line : List ℕ) : Type 0 where
  pub first : field_of 9 line 0 ≡ word
  pub count : length (split 9 line) ≡ suc n
  pub others : every t (drop 1 (split 9 line)) ≡ true

module _ (t : List ℕ → Bool) (word line : List ℕ) (n : ℕ) where
  pub laid_known : laid t word n line ≡ true → Laid t word n line
  unfolding laid
  laid_known h =
      let first : Bool = same (field_of 9 line 0) word in
      let count : Bool = eqb (length (split 9 line)) (suc n) in
      let p = both (first && count) (every t (drop 1 (split 9 line))) h in
      let q = both first count p.0 in
      record { first = same_eq (field_of 9 line 0) word q.0; count = eqb-true (length (split 9 line)) (suc n) q.1; others = p.1 }

  -- where the word is plain, and a field that passes the test
  module _ (w : plain word ≡ true) (p : (f : List ℕ) → t f ≡ true → plain f ≡ true) where
    fields_plain : (fs : List (List ℕ)) → get_or fs 0 [] ≡ word → every t (drop 1 fs) ≡ true → every plain fs ≡ true
    fields_plain [] e h = refl
    fields_plain (f ∷ fs) e h = rw (ap plain e ∙ w) (every_also t plain p fs h)

    laid_plain : laid t word n line ≡ true → plain line ≡ true
    unfolding field_of
    laid_plain h = let l = laid_known h in sym (plain_fields line) ∙ fields_plain (split 9 line) l.first l.others

    pub rough_unlaid : plain line ≡ false → laid t word n line ≡ false
    rough_unlaid r = go (laid t word n line) refl
      where
        go : (b : Bool) → laid t word n line ≡ b → b ≡ false
        go false e = refl
        go true e = sym (laid_plain e) ∙ r
