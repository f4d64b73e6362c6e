-- What a caller may say of a call of `depths` that was done, from its promise alone: every depth bounds its entry from both sides, and a pixel with more
-- transmission is no deeper. Assumes nothing.
use mathlib.Core.Path.{◌≡◌, sym, ap, ◌∙◌, subst}
use mathlib.Core.List.{List, map}
use Prim.Native.Nat.{ℕ, ◌≤◌, ◌<◌}
use native.Mathlib.Omega.{arith}
use lib.ListN.{length, get_or}
use Rattle.rules.specs.declared.Size.{Size}
use Rattle.std.specs.Prelude.{Result, Ok}
use Rattle.rules.specs.declared.Refusal.{Refusal}
use Rattle.rules.specs.Answers.{said}
use Rattle.rules.proofs.Answers.{or_free, made}
use Rattle.depth.specs.Table.{depth_of}
use Rattle.depth.specs.Promise.{refuse_depths, Depths}
use Rattle.depth.proofs.Meaning.{falls, Bounds, bounds}
use Rattle.depth.proofs.Written.{map_at}

module _ {z : Size} {entries out out' : List ℕ} {r : Result (Unit {0}) Refusal} (done : r ≡ Ok tt) (p : Depths z entries out r out') where
  pub each : (k : ℕ) → k < length entries → get_or out' k 0 ≡ depth_of (get_or entries k 0)
  each k h =
      let left : out' ≡ map depth_of entries = p.after ∙ sym (made _ _ _ (or_free (refuse_depths z entries (length out)) tt r p.answer (ap said done))) in
      ap (λ (l : List ℕ). get_or l k 0) left ∙ map_at depth_of entries k h

  pub bounded : (k : ℕ) → k < length entries → Bounds (get_or entries k 0) (get_or out' k 0)
  bounded k h = subst (Bounds (get_or entries k 0)) (sym (each k h)) (bounds (get_or entries k 0))

  pub no_deeper : (j k : ℕ) → j < length entries → k < length entries → get_or entries j 0 ≤ get_or entries k 0 → get_or out' k 0 ≤ get_or out' j 0
  no_deeper j k hj hk h = let a = falls (get_or entries j 0) (get_or entries k 0) h in let b = each j hj in let c = each k hk in omega arith
