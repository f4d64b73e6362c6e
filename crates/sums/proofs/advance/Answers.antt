-- `sums::advance` meets its contract: in each of the four cases the columns are those before the next row. Assumes nothing.
use Prim.Native.Nat.{◌+◌, ◌-◌}
use native.Mathlib.Nat.{le_refl}
use native.Mathlib.Omega.{arith}
use Rattle.sums.proofs.Strips.{row_reads, row_enters, enter_strip, leave_strip, slide_strip}
use Rattle.sums.proofs.advance.Goals as goal

pub leave-requires : goal.leave-requires
leave-requires g c =
    let a = c.args in
    let laws = g.met.S.Source in
    row_enters _ _ c.requires.readable.0 (laws.ends a.source) (laws.stands a.source) c.requires.columns (le_refl a.v.h) _ (a.y - a.r - 1) c.start.ensures
    (omega (arith, c.requires.readable.1))

pub returns-then-r-y : goal.returns-then-r-y
returns-then-r-y g c =
    let a = c.args in
    let laws = g.met.S.Source in
    leave_strip (g.S.Source.entries a.source) c.requires.columns c.leave.auto.cols _ (a.y - a.r - 1) (a.y + 1)
    (row_reads _ _ c.requires.readable.0 (laws.ends a.source) (laws.stands a.source) _ (a.y - a.r - 1) c.start.ensures) c.leave.ensures
    (omega arith) (omega (arith, c.requires.readable.1, c.if-v-y.true, c.if-r-y.true)) (omega (arith, c.if-r-y.true)) (omega (arith, c.if-v-y.true))

pub enter-requires : goal.enter-requires
enter-requires g c =
    let a = c.args in
    let laws = g.met.S.Source in
    row_enters _ _ c.requires.readable.0 (laws.ends a.source) (laws.stands a.source) c.requires.columns (le_refl a.v.h) _ (a.y + a.r) c.start-then-y-r.ensures
    (omega (arith, c.if-v-y.false))

pub returns-then-y-r : goal.returns-then-y-r
returns-then-y-r g c =
    let a = c.args in
    let laws = g.met.S.Source in
    enter_strip (g.S.Source.entries a.source) c.requires.columns c.enter.auto.cols _ (a.y + a.r) a.v.h (a.y + 1)
    (row_reads _ _ c.requires.readable.0 (laws.ends a.source) (laws.stands a.source) _ (a.y + a.r) c.start-then-y-r.ensures) c.enter.ensures
    (omega (arith, c.if-v-y.false)) (omega arith) (omega (arith, c.if-y-r.true)) (omega (arith, c.if-v-y.false))

pub slide-requires : goal.slide-requires
slide-requires g c =
    let a = c.args in
    let laws = g.met.S.Source in (
      row_enters _ _ c.requires.readable.0 (laws.ends a.source) (laws.stands a.source) c.requires.columns (le_refl a.v.h) _ (a.y + a.r) c.start-2.ensures
          (omega (arith, c.if-v-y.false)),
      row_enters _ _ c.requires.readable.0 (laws.ends a.source) (laws.stands a.source) c.requires.columns (le_refl a.v.h) _ (a.y - a.r - 1) c.start-3.ensures
          (omega (arith, c.requires.readable.1)),
    )

pub returns : goal.returns
returns g c =
    let a = c.args in
    let laws = g.met.S.Source in
    slide_strip (g.S.Source.entries a.source) c.requires.columns c.slide.auto.cols _ _ (a.y + a.r) (a.y - a.r - 1) (a.y + 1)
    (row_reads _ _ c.requires.readable.0 (laws.ends a.source) (laws.stands a.source) _ (a.y + a.r) c.start-2.ensures)
    (row_reads _ _ c.requires.readable.0 (laws.ends a.source) (laws.stands a.source) _ (a.y - a.r - 1) c.start-3.ensures) c.slide.ensures
    (omega (arith, c.if-v-y.false)) (omega arith) (omega arith) (omega (arith, c.if-y-r.false)) (omega (arith, c.if-v-y.false))
