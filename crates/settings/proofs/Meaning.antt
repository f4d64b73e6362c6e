-- The answer of two written texts is that of the names and values of the field followed by those of the house: the first with the name. Assumes nothing.
use mathlib.Core.Path.{◌≡◌, refl, sym, ap, ap₂, ◌∙◌}
use mathlib.Core.Bool.{Bool, true, false, cond}
use mathlib.Core.List.{List, [], ◌∷◌, ◌++◌, append-nil, head-eq_of_cons-eq, tail-eq_of_cons-eq}
use Prim.Native.Nat.{ℕ, suc}
use native.Mathlib.Omega.{arith}
use lib.ListN.{length, get_or}
use denote.Ref.{Bor}
use Rattle.std.specs.Prelude.{Option, Some, None}
use Rattle.fields.specs.Fields.{split, field_of, same}
use Rattle.fields.proofs.Lines.{some_part}
use Rattle.settings.specs.Texts.{word, seek, first_with, value_in}
use Rattle.settings.specs.Promise.{over, source_of, bytes_of, Setting}
use Rattle.settings.specs.Written.{Pair, row, written, words, lookup}
use Rattle.settings.proofs.Texts.{seek_first}
use Rattle.settings.proofs.Answers.{name_good}
use Rattle.settings.proofs.Found.{found_by}
use Rattle.settings.proofs.Written.{row_fields, row_line_lem, first_words, written_good}

-- ---- the first with the name, among the lines and among the pairs

module _ (name : List ℕ) where
  -- a line from what is written: its name and its value are the pair's
  module _ (p : Pair) (ps : List Pair) (h : words (p ∷ ps) ≡ true) where
    w : ((word p.0 ≡ true) × (word p.1 ≡ true)) × (words ps ≡ true)
    w = first_words p ps h

    lines : split 10 (written (p ∷ ps)) ≡ row p ∷ split 10 (written ps)
    lines = row_line_lem p w.0.0 w.0.1 (written ps)

    row_name : field_of 9 (row p) 1 ≡ p.0
    unfolding field_of
    row_name = ap (λ (fs : List (List ℕ)). get_or fs 1 []) (row_fields p w.0.0 w.0.1)

    row_value : field_of 9 (row p) 2 ≡ p.1
    unfolding field_of
    row_value = ap (λ (fs : List (List ℕ)). get_or fs 2 []) (row_fields p w.0.0 w.0.1)

    row_test : (l : List ℕ) (t : Bool) → row p ≡ l → same (field_of 9 l 1) name ≡ t → same p.0 name ≡ t
    row_test l t r e = ap (λ (n : List ℕ). same n name) (sym row_name ∙ ap (λ (x : List ℕ). field_of 9 x 1) r) ∙ e

    first_row : (j : ℕ) → seek j (split 10 (written (p ∷ ps))) name ≡ cond (same p.0 name) (Some j) (seek (suc j) (split 10 (written ps)) name)
    first_row j =
        ap (λ (ls : List (List ℕ)). seek j ls name) lines
        ∙ seek_first j name (row p) (split 10 (written ps)) (some_part 10 (written ps))
        ∙ ap (λ (n : List ℕ). cond (same n name) (Some j) (seek (suc j) (split 10 (written ps)) name)) row_name

  -- where no line has the name, no pair has it
  absent : (ps : List Pair) → words ps ≡ true → (j : ℕ) → seek j (split 10 (written ps)) name ≡ None → (qs : List Pair) → lookup (ps ++ qs) name ≡ lookup qs name
  absent [] h j e qs = refl
  absent (p ∷ ps) h j e qs = go (same p.0 name) (sym (first_row p ps h j) ∙ e) (absent ps (w p ps h).1 (suc j))
    where
      go : (t : Bool) → cond t (Some j) (seek (suc j) (split 10 (written ps)) name) ≡ None
          → (seek (suc j) (split 10 (written ps)) name ≡ None → (qs : List Pair) → lookup (ps ++ qs) name ≡ lookup qs name)
          → cond t p.1 (lookup (ps ++ qs) name) ≡ lookup qs name
      go true q on = absurd (let z : ◌≡◌ {A = ℕ} 0 1 = cc in let y : ⊥ = omega arith in y)
      go false q on = on q qs

  -- the line that is found has the value of the first pair with the name
  abbrev Valued : List (List ℕ) → ℕ → Type 0
  Valued ls d = (ps : List Pair) → words ps ≡ true → split 10 (written ps) ≡ ls → (qs : List Pair) → field_of 9 (get_or ls d []) 2 ≡ lookup (ps ++ qs) name

  pub line_value : (ps : List Pair) → words ps ≡ true → (k : ℕ) → first_with (written ps) name ≡ Some k → (qs : List Pair) → value_in (written ps) k ≡ lookup (ps ++ qs) name
  unfolding field_of
  line_value ps h k e = found_by name Valued here on (written ps) k e ps h refl
    where
      here : (l m : List ℕ) (ls : List (List ℕ)) → same (field_of 9 l 1) name ≡ true → Valued (l ∷ m ∷ ls) 0
      here l m ls t [] h s qs = absurd (let n = ap length s in let z : ⊥ = omega arith in z)
      here l m ls t (p ∷ ps) h s qs =
          let r : row p ≡ l = head-eq_of_cons-eq (sym (lines p ps h) ∙ s) in
          ap (λ (x : List ℕ). field_of 9 x 2) (sym r) ∙ row_value p ps h ∙ rw (row_test p ps h l true r t)

      on : (l m : List ℕ) (ls : List (List ℕ)) (d : ℕ) → same (field_of 9 l 1) name ≡ false → Valued (m ∷ ls) d → Valued (l ∷ m ∷ ls) (suc d)
      on l m ls d t next [] h s qs = absurd (let n = ap length s in let z : ⊥ = omega arith in z)
      on l m ls d t next (p ∷ ps) h s qs =
          let q = sym (lines p ps h) ∙ s in
          next ps (w p ps h).1 (tail-eq_of_cons-eq q) qs ∙ rw (row_test p ps h l false (head-eq_of_cons-eq q) t)

  pub line_none : (ps : List Pair) → words ps ≡ true → first_with (written ps) name ≡ None → (qs : List Pair) → lookup (ps ++ qs) name ≡ lookup qs name
  unfolding first_with
  line_none ps h e = absent ps h 0 e

-- ---- the answer of two written texts

pub said : (fs hs : List Pair) (name : List ℕ) → words fs ≡ true → words hs ≡ true → word name ≡ true
    → bytes_of (written fs) (written hs) (source_of (written fs) (written hs) name) ≡ lookup (fs ++ hs) name
said fs hs name f h n = go (first_with (written fs) name) (first_with (written hs) name) refl refl
  where
    source : (a b : Option ℕ) → first_with (written fs) name ≡ a → first_with (written hs) name ≡ b → source_of (written fs) (written hs) name ≡ over a b
    source a b p q = sym (name_good (written fs) (written hs) name (written_good fs f) (written_good hs h) n a b p q)

    go : (a b : Option ℕ) → first_with (written fs) name ≡ a → first_with (written hs) name ≡ b
        → bytes_of (written fs) (written hs) (source_of (written fs) (written hs) name) ≡ lookup (fs ++ hs) name
    go (Some k) b p q = ap (bytes_of (written fs) (written hs)) (source (Some k) b p q) ∙ line_value name fs f k p hs
    go None (Some k) p q =
        ap (bytes_of (written fs) (written hs)) (source None (Some k) p q)
        ∙ line_value name hs h k q []
        ∙ ap (λ (ps : List Pair). lookup ps name) (append-nil hs)
        ∙ sym (line_none name fs f p hs)
    go None None p q =
        ap (bytes_of (written fs) (written hs)) (source None None p q)
        ∙ sym (line_none name fs f p hs ∙ ap (λ (ps : List Pair). lookup ps name) (sym (append-nil hs)) ∙ line_none name hs h q [])

-- from the call's promise alone: r is what `setting` returns
pub setting_said : (field house : Bor (List ℕ)) (name : List ℕ) (r : Bor (List ℕ)) → Setting field house name r
    → (fs hs : List Pair) → words fs ≡ true → words hs ≡ true → word name ≡ true → field.now ≡ written fs → house.now ≡ written hs → r.now ≡ lookup (fs ++ hs) name
setting_said field house name r p fs hs f h n e g =
    p.bytes ∙ ap₂ (λ (a b : List ℕ). bytes_of a b (source_of a b name)) e g ∙ said fs hs name f h n
