-- `Columns::down` meets its contract: what it counts, at a step with a row and at one without. Assumes nothing.
use mathlib.Core.Path.{◌≡◌}
use Prim.Native.Nat.{◌+◌, ◌-◌, ◌*◌}
use lib.ListN.{length}
use Rattle.columns.specs.Down.{Rested}
use Rattle.columns.proofs.Steps.{take_count, rest_count}
use Rattle.columns.proofs.Columns.down.Goals as goal

pub returns-then-v-self-clause-count : goal.returns-then-v-self-clause-count
returns-then-v-self-clause-count g c = take_count _ _ _ _ _ _ _ _ _ c.args.self.now.s _ c.if-v-self.true c.take.ensures.taken

pub returns-clause-count : goal.returns-clause-count
returns-clause-count g c =
    let a = c.args in
    let l = a.self.now in
    let wide : length a.out.now ≡ length a.row.now = c.requires.n_in_bounds.2 in
    let e : Rested l.store l.ahead c.rest.new.out (a.v - 2 * l.s) l.h (length a.row.now) (2 * l.s + 1) c.rest.result = rw (c.saturating_sub.ensures, wide) at c.rest.ensures in
    rest_count _ _ _ _ _ _ l.s _ c.requires.s_bound.1 c.requires.s_bound.3 c.if-v-self.false e
