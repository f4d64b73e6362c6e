-- `judge::wrong_entries` meets its contract. Assumes nothing.
use mathlib.Core.Path.{◌≡◌, refl, sym, ◌∙◌}
use mathlib.Core.Bool.{false, ◌||◌}
use lib.Dec.{ltb}
use lib.ListN.{length}
use native.Mathlib.Omega.{arith}
use Rattle.rules.specs.Refusals.{bad_entries}
use Rattle.rules.proofs.Front.{front_none, front_more, front_all}
use Rattle.judge.proofs.Laws.{or_assoc, or_false}
use Rattle.judge.proofs.wrong_entries.Goals as goal

pub loop-t-init : goal.loop-t-init
loop-t-init c = front_none ◌||◌ (ltb 10000) false c.args.map.now refl

pub loop-t-preserved : goal.loop-t-preserved
loop-t-preserved c = front_more ◌||◌ (ltb 10000) false c.args.map.now or_assoc c.loop-t.t-index c.loop-t.bad (omega arith) c.loop-t.invariant

pub returns : goal.returns
unfolding bad_entries
returns c =
    let map = c.args.map.now in
    let e : c.loop-t.t-index ≡ length map = omega arith in
    sym (or_false c.loop-t.bad) ∙ front_all ◌||◌ (ltb 10000) false map c.loop-t.bad (rw e at c.loop-t.invariant)
