-- `depths` says its refusal number, whatever it is handed. Assumes nothing.
use mathlib.Core.Path.{◌≡◌, refl, ap, ◌∙◌}
use mathlib.Core.List.{List}
use lib.ListN.{length}
use Prim.Native.Nat.{ℕ, ◌≤◌}
use Rattle.std.specs.Prelude.{Result}
use Rattle.rules.specs.declared.Size.{Size}
use Rattle.rules.specs.declared.Refusal.{Refusal}
use Rattle.rules.specs.Answers.{said}
use Rattle.rules.proofs.Answers.{said_or}
use Rattle.rules.proofs.Most.{first_most}
use Rattle.depth.specs.Promise.{tests_depths, refuse_depths, Depths}

pub depths_most : (z : Size) (entries : List ℕ) (out : ℕ) → refuse_depths z entries out ≤ 15
unfolding refuse_depths
depths_most z entries out = first_most (tests_depths z entries out) refl

pub depths_says :
    {z : Size} {entries out out' : List ℕ} {r : Result (Unit {0}) Refusal}
    → Depths z entries out r out'
    → said r ≡ refuse_depths z entries (length out)
depths_says {z} {entries} {out} p = ap said p.answer ∙ said_or _ _ (depths_most z entries (length out))
