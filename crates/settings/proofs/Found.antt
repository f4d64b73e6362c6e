-- The line that is found: how it is walked to; in a good text it is ended and well formed, it has the name, and no line before it has. Assumes nothing.
use mathlib.Core.Path.{◌≡◌, refl, sym, ap, subst, ◌∙◌}
use mathlib.Core.Bool.{Bool, true, false, cond, true≢false}
use mathlib.Core.List.{List, [], ◌∷◌}
use Prim.Native.Nat.{ℕ, zero, suc, ◌+◌, ◌<◌}
use native.Mathlib.Omega.{arith}
use lib.ListN.{length, get_or}
use Rattle.std.specs.Prelude.{Option, Some, None}
use Rattle.fields.specs.Fields.{split, field_of, same}
use Rattle.fields.proofs.Alike.{same_eq, same_refl}
use Rattle.fields.proofs.Every.{both}
use Rattle.fields.proofs.Places.{Stands, field_stands, stands_in}
use Rattle.settings.specs.Texts.{word, kept, good_lines, good, seek, first_with, value_in, value_at}
use Rattle.settings.proofs.Words.{word_some}
use Rattle.settings.proofs.Lines.{kept_line}

-- ---- the walk to the line that is found

-- what holds of a line that has the name, and on past one that has not, holds of the line that is found
module _ (name : List ℕ) (P : List (List ℕ) → ℕ → Type 0)
    (here : (l m : List ℕ) (ls : List (List ℕ)) → same (field_of 9 l 1) name ≡ true → P (l ∷ m ∷ ls) 0)
    (on : (l m : List ℕ) (ls : List (List ℕ)) (d : ℕ) → same (field_of 9 l 1) name ≡ false → P (m ∷ ls) d → P (l ∷ m ∷ ls) (suc d)) where
  -- counted from j on
  record From (ls : List (List ℕ)) (j k : ℕ) : Type 0 where
    d : ℕ
    number : k ≡ j + d
    holds : P ls d

  walk : (ls : List (List ℕ)) (j k : ℕ) → seek j ls name ≡ Some k → From ls j k
  walk [] j k e = absurd (let z : ◌≡◌ {A = ℕ} 0 1 = cc in let y : ⊥ = omega arith in y)
  walk (l ∷ []) j k e = absurd (let z : ◌≡◌ {A = ℕ} 0 1 = cc in let y : ⊥ = omega arith in y)
  walk (l ∷ m ∷ ls) j k e = go (same (field_of 9 l 1) name) refl e (walk (m ∷ ls) (suc j) k)
    where
      go : (t : Bool) → same (field_of 9 l 1) name ≡ t → cond t (Some j) (seek (suc j) (m ∷ ls) name) ≡ Some k
          → (seek (suc j) (m ∷ ls) name ≡ Some k → From (m ∷ ls) (suc j) k) → From (l ∷ m ∷ ls) j k
      go true t q next = let n : k ≡ j = cc in record { d = 0; number = omega arith; holds = here l m ls t }
      go false t q next = let p = next q in record { d = suc p.d; number = omega (arith, p.number); holds = on l m ls p.d t p.holds }

  pub found_by : (text : List ℕ) (k : ℕ) → first_with text name ≡ Some k → P (split 10 text) k
  unfolding first_with
  found_by text k e = let p = walk (split 10 text) 0 k e in subst (P (split 10 text)) (let z : p.d ≡ k = omega (arith, p.number) in z) p.holds

-- ---- the line that is found in a good text

-- line d of ls is the first with the name
pub record Found (ls : List (List ℕ)) (name : List ℕ) (d : ℕ) : Type 0 where
  pub ended : suc d < length ls
  pub sound : kept (get_or ls d []) ≡ true
  pub named : field_of 9 (get_or ls d []) 1 ≡ name
  pub first : (i : ℕ) → i < d → field_of 9 (get_or ls i []) 1 ≡ name → ⊥

module _ (text name : List ℕ) (g : good text ≡ true) (k : ℕ) (e : first_with text name ≡ Some k) where
  pub first_line : Found (split 10 text) name k
  unfolding good
  first_line = found_by name (λ ls d. good_lines ls ≡ true → Found ls name d) here on text k e g
    where
      here : (l m : List ℕ) (ls : List (List ℕ)) → same (field_of 9 l 1) name ≡ true → good_lines (l ∷ m ∷ ls) ≡ true → Found (l ∷ m ∷ ls) name 0
      here l m ls t h =
          record {
            ended = omega arith;
            sound = (both (kept l) (good_lines (m ∷ ls)) h).0;
            named = same_eq (field_of 9 l 1) name t;
            first = λ i b. absurd (let z : ⊥ = omega arith in z);
          }

      earlier : (l m : List ℕ) (ls : List (List ℕ)) (d : ℕ) → same (field_of 9 l 1) name ≡ false → ((i : ℕ) → i < d → field_of 9 (get_or (m ∷ ls) i []) 1 ≡ name → ⊥)
          → (i : ℕ) → i < suc d → field_of 9 (get_or (l ∷ m ∷ ls) i []) 1 ≡ name → ⊥
      earlier l m ls d t f zero b q = true≢false (sym (same_refl name) ∙ ap (λ (s : List ℕ). same s name) (sym q) ∙ t)
      earlier l m ls d t f (suc i) b q = f i (omega arith) q

      on : (l m : List ℕ) (ls : List (List ℕ)) (d : ℕ) → same (field_of 9 l 1) name ≡ false → (good_lines (m ∷ ls) ≡ true → Found (m ∷ ls) name d)
          → good_lines (l ∷ m ∷ ls) ≡ true → Found (l ∷ m ∷ ls) name (suc d)
      on l m ls d t next h =
          let p = next (both (kept l) (good_lines (m ∷ ls)) h).1 in
          record { ended = omega (arith, p.ended); sound = p.sound; named = p.named; first = earlier l m ls d t p.first }

  -- a name that a good text has is well formed: so an ill-formed one is one that neither text has
  pub name_word : word name ≡ true
  unfolding field_of
  name_word = sym (ap word first_line.named) ∙ (kept_line (get_or (split 10 text) k []) first_line.sound).name

  -- its value is not empty
  pub value_some : 0 < length (value_in text k)
  unfolding field_of
  value_some = word_some _ (kept_line (get_or (split 10 text) k []) first_line.sound).value

-- the value of a line stands in the text where the definition says
pub value_stands : (text : List ℕ) (k : ℕ) → Stands (value_in text k) text (value_at text k)
value_stands text k = stands_in (field_stands 9 (field_of 10 text k) 2) (field_stands 10 text k)
