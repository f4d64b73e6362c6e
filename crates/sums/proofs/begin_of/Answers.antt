-- `sums::begin_of` meets its contract. The loop's invariant: the columns are those of the rows above y. Assumes nothing.
use Prim.Native.Nat.{◌+◌, ◌≤◌, ◌<◌, ◌-◌}
use native.Mathlib.Omega.{arith}
use Rattle.sums.proofs.Strips.{row_reads, row_enters, enter_strip}
use Rattle.sums.proofs.begin_of.Goals as goal

-- row y lies in the plane, above what the first squares have
pub enter-requires : goal.enter-requires
enter-requires g c =
    let a = c.args in
    let laws = g.met.S.Source in
    let inside : c.loop-y.y < a.v.h = omega (arith, c.min-end.ensures) in
    row_enters _ _ c.requires.0 (laws.ends a.source) (laws.stands a.source) c.loop-y.invariant (omega (arith, inside)) _ c.loop-y.y c.start.ensures inside

pub loop-y-preserved : goal.loop-y-preserved
loop-y-preserved g c =
    let a = c.args in
    let laws = g.met.S.Source in
    let y = c.loop-y.y in
    let above : y < a.v.top + a.r = omega (arith, c.min-end.ensures) in
    let first : a.v.top - (a.r + 1) ≤ y = omega (arith, c.saturating_sub-y.ensures) in
    enter_strip (g.S.Source.entries a.source) c.loop-y.invariant c.enter.auto.cols _ y (y + 1) a.v.top
    (row_reads _ _ c.requires.0 (laws.ends a.source) (laws.stands a.source) _ y c.start.ensures) c.enter.ensures (omega (arith, above)) first (omega arith) (omega (arith, above))
