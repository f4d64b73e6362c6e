-- No second answer meets a promise: the part's bytes and the memory it lies in are fixed, and so are why there is none and its number. Assumes nothing.
use mathlib.Core.Path.{◌≡◌, refl, sym, ap}
use mathlib.Core.List.{List}
use Prim.Native.Nat.{ℕ}
use native.Mathlib.Omega.{arith}
use denote.Ref.{Bor}
use Rattle.std.specs.Prelude.{Option, Some, None}
use Rattle.rules.specs.declared.Refusal.{Refusal}
use Rattle.rules.proofs.Answers.{number_some, number_one}
use Rattle.settings.specs.Promise.{Setting, Refuses, why_said, refusal_of}

pub setting_one : (field house : Bor (List ℕ)) (name : List ℕ) (r r' : Bor (List ℕ)) → Setting field house name r → Setting field house name r' → (r.now ≡ r'.now) × (r.ref_ptr ≡ r'.ref_ptr)
setting_one field house name r r' p q = (cc, cc)

-- two numbers that are the refusal's are one
pub refusal_one : (field house name : List ℕ) (n n' : ℕ) → n ≡ refusal_of field house name → n' ≡ refusal_of field house name → n ≡ n'
refusal_one field house name n n' p q = cc

-- two answers with one number are one
why_one : (w w' : Option Refusal) → why_said w ≡ why_said w' → w ≡ w'
why_one None None h = refl
why_one None (Some e) h = absurd (number_some e (sym h))
why_one (Some e) None h = absurd (number_some e h)
why_one (Some e) (Some f) h = ap Some (number_one e f h)

pub refuses_one : (field house name : List ℕ) (w w' : Option Refusal) → Refuses field house name w → Refuses field house name w' → w ≡ w'
refuses_one field house name w w' p q = why_one w w' (refusal_one field house name (why_said w) (why_said w') (omega (arith, p)) (omega (arith, q)))
