-- What is passed over before a number is cut into pieces, each a white byte or a comment, where something stands behind it. Assumes nothing.
use mathlib.Core.Path.{◌≡◌, refl, sym, ap, ◌∙◌}
use mathlib.Core.Bool.{Bool, true, false, cond, not, ◌||◌, or-false, true≢false}
use mathlib.Core.List.{List, [], ◌∷◌, ◌++◌}
use Prim.Native.Nat.{ℕ, suc, ◌<◌}
use native.Mathlib.Omega.{arith}
use lib.ListN.{length, take, drop}
use Rattle.pnm.specs.Header.{ends, white, opens, gap_in}
use Rattle.pnm.specs.Gap.{comment, pieces, joined}

-- pieces that make up a list
pub record Cut (l : List ℕ) : Type 0 where
  pub made : List (List ℕ)
  pub is : l ≡ joined made
  pub all : pieces made ≡ true

-- the rest of a comment, and pieces
record Opened (l : List ℕ) : Type 0 where
  inner : List ℕ
  behind : List ℕ
  is : l ≡ inner ++ behind
  ended : comment inner ≡ true
  cut : Cut behind

-- by whether a comment is open
abbrev Passed : Bool → List ℕ → Type 0
Passed true l = Opened l
Passed false l = Cut l

-- one byte more: of a comment, or of a gap
abbrev in_comment : (b : ℕ) (l : List ℕ) (e : Bool) → ends b ≡ e → Passed (not e) l → Opened (b ∷ l)
in_comment b l true e f = record { inner = b ∷ []; behind = l; is = refl; ended = e; cut = f }
in_comment b l false e f = go f.inner f.is f.ended
  where
    go : (c : List ℕ) → l ≡ c ++ f.behind → comment c ≡ true → Opened (b ∷ l)
    go [] i t = absurd (true≢false (sym t))
    go (x ∷ c) i t = record { inner = b ∷ x ∷ c; behind = f.behind; is = ap (λ (k : List ℕ). b ∷ k) i; ended = rw (e, t); cut = f.cut }

abbrev in_gap : (b : ℕ) (l : List ℕ) (o : Bool) → opens b ≡ o → (white b || o) ≡ true → Passed o l → Cut (b ∷ l)
in_gap b l true o w f =
    record { made = (b ∷ f.inner) ∷ f.cut.made; is = ap (λ (k : List ℕ). b ∷ k) (f.is ∙ ap (λ (k : List ℕ). f.inner ++ k) f.cut.is); all = rw (o, f.ended, f.cut.all) }
in_gap b l false o w f =
    record { made = (b ∷ []) ∷ f.made; is = ap (λ (k : List ℕ). b ∷ k) f.is; all = rw (o, sym (or-false (white b)) ∙ w, f.all) }

passed_over : (inside : Bool) (l : List ℕ) → 0 < length (drop (gap_in inside l) l) → Passed inside (take (gap_in inside l) l)
passed_over true [] h = absurd (let z : ⊥ = omega arith in z)
passed_over false [] h = absurd (let z : ⊥ = omega arith in z)
passed_over true (b ∷ l) h = in_comment b (take (gap_in (not (ends b)) l) l) (ends b) refl (passed_over (not (ends b)) l h)
passed_over false (b ∷ l) h = go (white b || opens b) refl h (passed_over (opens b) l)
  where
    go : (w : Bool) → (white b || opens b) ≡ w
        → 0 < length (drop (cond w (suc (gap_in (opens b) l)) 0) (b ∷ l))
        → (0 < length (drop (gap_in (opens b) l) l) → Passed (opens b) (take (gap_in (opens b) l) l))
        → Cut (take (cond w (suc (gap_in (opens b) l)) 0) (b ∷ l))
    go true w k more = in_gap b (take (gap_in (opens b) l) l) (opens b) refl w (more k)
    go false w k more = record { made = []; is = refl; all = refl }

pub cut_of : (l : List ℕ) → 0 < length (drop (gap_in false l) l) → Cut (take (gap_in false l) l)
cut_of l h = passed_over false l h
