-- Each number is given exactly when its test holds and none before it does. The part is empty exactly on a refusal. Assumes nothing.
use mathlib.Core.Path.{◌≡◌, refl, sym, ap, subst, ◌∙◌}
use mathlib.Core.Bool.{Bool, true, false, not, cond, ◌&&◌, ◌||◌}
use mathlib.Core.List.{List, [], ◌∷◌}
use Prim.Native.Nat.{ℕ, ◌<◌}
use native.Mathlib.Omega.{arith}
use lib.ListN.{length}
use denote.Ref.{Bor}
use Rattle.std.specs.Prelude.{Option, Some, None, Result, Ok, Err}
use Rattle.rules.specs.Refusals.{first}
use Rattle.rules.specs.Answers.{number, said}
use Rattle.rules.proofs.Answers.{number_some}
use Rattle.rules.proofs.Exactly.{Exact, exact}
use Rattle.settings.specs.declared.Source.{Source}
use Rattle.settings.specs.declared.Source.TheVariants.{Field, House}
use Rattle.rules.specs.declared.Refusal.{Refusal}
use Rattle.rules.specs.declared.Refusal.TheVariants.{Layout, Name}
use Rattle.settings.specs.Texts.{word, good, had, first_with, value_in}
use Rattle.settings.specs.Promise.{over, source_of, tests_setting, bytes_of, why_said, refusal_of, Setting, Refuses}
use Rattle.settings.proofs.Found.{value_some}

-- ---- the numbers

tested : (a b w : Bool) (p q : Option ℕ) → first ((9, not a || not b) ∷ (15, not w || not (had p || had q)) ∷ []) ≡ said (cond (a && b) (cond w (over p q) (Err Name)) (Err Layout))
tested false b w p q = refl
tested true false w p q = refl
tested true true false p q = refl
tested true true true (Some k) q = refl
tested true true true None (Some k) = refl
tested true true true None None = refl

pub setting_exact : (field house name : List ℕ) → Exact (refusal_of field house name) (tests_setting field house name)
unfolding refusal_of source_of
setting_exact field house name =
    subst (λ (n : ℕ). Exact n (tests_setting field house name))
    (tested (good field) (good house) (word name) (first_with field name) (first_with house name))
    (exact (tests_setting field house name) refl)

-- ---- how each answer comes about

pub data Came (field house name : List ℕ) : Result Source Refusal → Type 0 where
  of_field : {k : ℕ} → good field ≡ true → first_with field name ≡ Some k → Came field house name (Ok (Field k))
  of_house : {k : ℕ} → good house ≡ true → first_with field name ≡ None → first_with house name ≡ Some k → Came field house name (Ok (House k))
  refused : {e : Refusal} → Came field house name (Err e)

pub came : (field house name : List ℕ) → Came field house name (source_of field house name)
unfolding source_of
came field house name = go (good field) (good house) (word name) (first_with field name) (first_with house name) refl refl refl refl
  where
    go : (a b w : Bool) (p q : Option ℕ) → good field ≡ a → good house ≡ b → first_with field name ≡ p → first_with house name ≡ q
        → Came field house name (cond (a && b) (cond w (over p q) (Err Name)) (Err Layout))
    go false b w p q ea eb ep eq = refused
    go true false w p q ea eb ep eq = refused
    go true true false p q ea eb ep eq = refused
    go true true true (Some k) q ea eb ep eq = of_field ea ep
    go true true true None (Some k) ea eb ep eq = of_house eb ep eq
    go true true true None None ea eb ep eq = refused

-- ---- the part is empty exactly on a refusal

pub record EmptyExactly (part : List ℕ) (no : ℕ) : Type 0 where
  pub empty : 0 < no → length part ≡ 0
  pub refused : length part ≡ 0 → 0 < no

-- a part with a byte, of a call that is not refused
full : (part : List ℕ) → 0 < length part → EmptyExactly part 0
full part h = record { empty = λ l. absurd (let z : ⊥ = omega arith in z); refused = λ e. absurd (let z : ⊥ = omega arith in z) }

-- a refusal has a number above 0
number_positive : (e : Refusal) → 0 < number e
number_positive e = go (number e) (number_some e)
  where
    go : (n : ℕ) → (n ≡ 0 → ⊥) → 0 < n
    go n h = omega arith

answered : (field house name : List ℕ) (s : Result Source Refusal) → Came field house name s → EmptyExactly (bytes_of field house s) (said s)
answered field house name (Ok (Field k)) (of_field g e) = full (value_in field k) (value_some field name g k e)
answered field house name (Ok (House k)) (of_house g n e) = full (value_in house k) (value_some house name g k e)
answered field house name (Err e) refused = record { empty = λ l. refl; refused = λ l. number_positive e }

-- from the promise of `setting`: r is what it returns, n the number of the refusal, 0 where there is none
pub empty_exactly : (field house : Bor (List ℕ)) (name : List ℕ) (r : Bor (List ℕ)) (n : ℕ)
    → Setting field house name r → n ≡ refusal_of field.now house.now name → EmptyExactly r.now n
unfolding refusal_of
empty_exactly field house name r n p q =
    let s = source_of field.now house.now name in
    let e = answered field.now house.now name s (came field.now house.now name) in
    record {
      empty = λ h. ap length p.bytes ∙ e.empty (subst (λ (m : ℕ). 0 < m) q h);
      refused = λ h. subst (λ (m : ℕ). 0 < m) (sym q) (e.refused (sym (ap length p.bytes) ∙ h));
    }

-- from the promises of the two calls: w is what `setting_refusal` returns
pub empty_refused : (field house : Bor (List ℕ)) (name : List ℕ) (r : Bor (List ℕ)) (w : Option Refusal)
    → Setting field house name r → Refuses field.now house.now name w → EmptyExactly r.now (why_said w)
empty_refused field house name r w p q = empty_exactly field house name r (why_said w) p (omega (arith, q))
