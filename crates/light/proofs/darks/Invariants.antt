-- `light::darks` meets its contract. The loop's invariant is `Going`: the columns have taken i rows, i - s rows are given, and the comparisons are counted. Assumes nothing.
use Rattle.rules.specs.Shape.{described}
use Rattle.light.proofs.Going.{Going}
use Rattle.light.proofs.darks.Given as goal

abbrev pub invariant-loop-i : goal.invariant-loop-i
invariant-loop-i l = Going (described l.z) l.s l.mask l.frame l.initial.work l.work l.apart l.tops l.columns.store l.columns.ahead l.columns.h l.columns.s l.count l.i
