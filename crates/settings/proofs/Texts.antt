-- A text: a turn of the loop that judges its lines, and of the loop that looks for a name. Assumes nothing.
use mathlib.Core.Path.{◌≡◌, refl, sym, ap, ◌∙◌}
use mathlib.Core.Bool.{true, false, cond, ◌&&◌}
use mathlib.Core.List.{List, [], ◌∷◌}
use Prim.Native.Nat.{ℕ, suc, ◌+◌, ◌-◌, ◌≤◌, ◌<◌}
use native.Mathlib.Numerals.{add-one}
use native.Mathlib.Omega.{arith}
use lib.ListN.{length, take, drop, length-drop, drop_of_length-le}
use Rattle.std.specs.Prelude.{Option, Some, None}
use Rattle.fields.specs.Bytes.{line_of}
use Rattle.fields.specs.Fields.{Ends, split, field_of, same}
use Rattle.fields.proofs.Split.{rest_first, rest_last}
use Rattle.fields.proofs.Lines.{some_part, sound, broken, Ended}
use Rattle.fields.proofs.Places.{join, join_split}
use Rattle.settings.specs.Texts.{kept, good_lines, good, seek}
use Rattle.settings.proofs.Lines.{rough_unkept}

-- ---- the lines judged

pub good_first : (l : List ℕ) (ls : List (List ℕ)) → 0 < length ls → good_lines (l ∷ ls) ≡ (kept l && good_lines ls)
good_first l [] h = absurd (let z : ⊥ = omega arith in z)
good_first l (m ∷ ls) h = refl

module _ (text : List ℕ) (at e n : ℕ) (p : Ended text at e n) where
  turn : good (drop at text) ≡ (kept (take (e - at) (drop at text)) && good (drop (e + 1) text))
  unfolding good
  turn = ap good_lines p.line ∙ good_first (take (e - at) (drop at text)) (split 10 (drop (e + 1) text)) (some_part 10 (drop (e + 1) text))

  pub good_on : kept (take (e - at) (drop at text)) ≡ true → good (drop at text) ≡ good (drop (e + 1) text)
  good_on k = turn ∙ rw k

  pub good_off : kept (take (e - at) (drop at text)) ≡ false → good (drop at text) ≡ false
  good_off k = turn ∙ rw k

pub good_end : (text : List ℕ) (at : ℕ) → length text ≤ at → good (drop at text) ≡ true
unfolding good
good_end text at h = ap (λ (s : List ℕ). good_lines (split 10 s)) (drop_of_length-le text h)

-- a line that is broken is not well formed, or not ended
pub good_broken : (text : List ℕ) (at : ℕ) → at < length text → line_of text at ≡ None → good (drop at text) ≡ false
unfolding good
good_broken text at h b = go (split 10 (drop at text)) (ap length (join_split 10 (drop at text))) (broken text at b)
  where
    some : 0 < length (drop at text)
    some = simp length-drop (omega arith)

    go : (ls : List (List ℕ)) → length (join 10 ls) ≡ length (drop at text) → sound ls ≡ false → good_lines ls ≡ false
    go [] e s = absurd (let m = some in let z : ⊥ = omega arith in z)
    go ([] ∷ []) e s = absurd (let m = some in let z : ⊥ = omega arith in z)
    go ((x ∷ l) ∷ []) e s = refl
    go (l ∷ m ∷ ls) e s = rw (rough_unkept l s)

-- ---- the name looked for

pub seek_first : (k : ℕ) (name l : List ℕ) (ls : List (List ℕ)) → 0 < length ls → seek k (l ∷ ls) name ≡ cond (same (field_of 9 l 1) name) (Some k) (seek (suc k) ls name)
seek_first k name l [] h = absurd (let z : ⊥ = omega arith in z)
seek_first k name l (m ∷ ls) h = refl

module _ (text name : List ℕ) (at r : ℕ) (f : Ends text at 10 r) (k : ℕ) where
  -- where the rest of the text has no line end, it has no line
  pub seek_last : r ≡ length text → seek k (split 10 (drop at text)) name ≡ None
  seek_last e = ap (λ (ls : List (List ℕ)). seek k ls name) (rest_last 10 text at r f e)

  module _ (l : r < length text) where
    here : seek k (split 10 (drop at text)) name
        ≡ cond (same (field_of 9 (take (r - at) (drop at text)) 1) name) (Some k) (seek (suc k) (split 10 (drop (r + 1) text)) name)
    here =
        ap (λ (ls : List (List ℕ)). seek k ls name) (rest_first 10 text at r f l)
        ∙ seek_first k name (take (r - at) (drop at text)) (split 10 (drop (r + 1) text)) (some_part 10 (drop (r + 1) text))

    pub seek_found : same (field_of 9 (take (r - at) (drop at text)) 1) name ≡ true → seek k (split 10 (drop at text)) name ≡ Some k
    seek_found e = here ∙ rw e

    pub seek_on : same (field_of 9 (take (r - at) (drop at text)) 1) name ≡ false → seek k (split 10 (drop at text)) name ≡ seek (k + 1) (split 10 (drop (r + 1) text)) name
    seek_on e = here ∙ rw e (ap (λ (m : ℕ). seek m (split 10 (drop (r + 1) text)) name) (sym (add-one k)))

pub seek_end : (text name : List ℕ) (at k : ℕ) → length text ≤ at → seek k (split 10 (drop at text)) name ≡ None
seek_end text name at k h = ap (λ (s : List ℕ). seek k (split 10 s) name) (drop_of_length-le text h)
