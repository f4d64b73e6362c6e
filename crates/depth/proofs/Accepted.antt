-- What is known of a call that is not refused. Assumes nothing.
use mathlib.Core.Path.{◌≡◌, sym, ◌∙◌}
use mathlib.Core.List.{List}
use Prim.Native.Nat.{ℕ, ◌≤◌}
use lib.ListN.{length, get_or}
use Rattle.rules.specs.declared.Size.{Size}
use Rattle.rules.specs.Refusals.{bad_map}
use Rattle.rules.proofs.Good.{neither, map_good, entries_good}
use Rattle.depth.specs.Promise.{refuse_depths}
use Rattle.depth.proofs.Exactly.{depths_exact}

-- map and lent depths are of one length, and no entry is above 10,000
pub record Deepable (entries : List ℕ) (out : ℕ) : Type 0 where
  pub long : length entries ≡ out
  pub low : (p : ℕ) → get_or entries p 0 ≤ 10000

pub accepted : (z : Size) (entries : List ℕ) (out : ℕ) → refuse_depths z entries out ≡ 0 → Deepable entries out
accepted z entries out e =
    let n = (depths_exact z entries out).free e in
    let four = neither (bad_map z (length entries)) (bad_map z out) n.1.0 in
    record { long = map_good z (length entries) four.0 ∙ sym (map_good z out four.1); low = entries_good entries n.1.1.0 }
