-- From what a public call answers to the one promise: the number that the answer says is returned, and a value that it carries stands in the places
-- exactly when that is 0. Assumes nothing.
use mathlib.Core.Path.{◌≡◌, refl, ap, ◌∙◌}
use Prim.Native.Nat.{ℕ, zero, suc, ◌≤◌}
use Rattle.std.specs.Prelude.{Result}
use Rattle.rules.specs.declared.Figure.{Figure}
use Rattle.rules.specs.declared.Refusal.{Refusal}
use Rattle.rules.specs.declared.Band.{Band}
use Rattle.rules.specs.Answers.{or, said, left}
use Rattle.rules.specs.Promise.{figure_or, band_said, unless}
use Rattle.rules.proofs.Answers.{said_or, left_or, said_band}
use Rattle.boundary.specs.Handed.{figure_after}
use Rattle.boundary.specs.Returns.{Returns}

-- an answer with no value
pub answered_returns :
    {A : Type 0} (refusal : ℕ) (new old m : A) {r : Result (Unit {0}) Refusal} {n : ℕ}
    → refusal ≤ 15
    → r ≡ or refusal tt
    → m ≡ unless refusal new old
    → n ≡ said r
    → Returns refusal new old n m
answered_returns refusal new old m most e after told = record { number = told ∙ ap said e ∙ said_or refusal tt most; after = after }

-- an answer with a value
pub valued_returns :
    {A : Type 0} (refusal : ℕ) (new old : A) {r : Result A Refusal} {n : ℕ} {m : A}
    → refusal ≤ 15
    → r ≡ or refusal new
    → (n ≡ said r) × (m ≡ left r old)
    → Returns refusal new old n m
valued_returns {A} refusal new old most e told =
    record {
      number = told.0 ∙ ap said e ∙ said_or refusal new most;
      after = told.1 ∙ ap (λ (r : Result A Refusal). left r old) e ∙ left_or refusal new old;
    }

-- that of Band figure
figure_left : (n : ℕ) (new old : Figure) → figure_after (figure_or n new) old ≡ unless n new old
figure_left zero new old = refl
figure_left (suc n) new old = refl

pub figured_returns :
    (refusal : ℕ) (new old : Figure) {r : Band} {n : ℕ} {m : Figure}
    → refusal ≤ 15
    → r ≡ figure_or refusal new
    → (n ≡ band_said r) × (m ≡ figure_after r old)
    → Returns refusal new old n m
figured_returns refusal new old most e told =
    record {
      number = told.0 ∙ ap band_said e ∙ said_band refusal new most;
      after = told.1 ∙ ap (λ (r : Band). figure_after r old) e ∙ figure_left refusal new old;
    }

-- ---- a place more

unless_both :
    {A B C : Type 0} (both : A → B → C) (k : ℕ) (a a' : A) (b b' : B)
    → both (unless k a a') (unless k b b') ≡ unless k (both a b) (both a' b')
unless_both both zero a a' b b' = refl
unless_both both (suc k) a a' b b' = refl

-- two places that are written by the same calls are one
pub both_return :
    {A B C : Type 0} (both : A → B → C) (refusal : ℕ) (left left' : A) (new old : B) {l : A} {m : B} {n : ℕ}
    → l ≡ unless refusal left left'
    → Returns refusal new old n m
    → Returns refusal (both left new) (both left' old) n (both l m)
both_return both refusal left left' new old e r =
    record { number = r.number; after = rw (e, r.after) (unless_both both refusal left left' new old) }
