-- `depth::fallen` meets its contract. The loop's invariant: the depth is no more than `at`. Assumes nothing.
use mathlib.Core.Path.{ap}
use mathlib.Core.List.{List}
use Prim.Native.Nat.{ℕ, ◌-◌, ◌*◌}
use native.Mathlib.Omega.{arith}
use lib.ListN.{length, get_or}
use Rattle.depth.specs.Table.{thresholds, depth_of}
use Rattle.depth.proofs.Place.{no_later, later}
use Rattle.depth.proofs.Table.{count, falling}
use Rattle.depth.proofs.fallen.Goals as goal

pub bounds-table-at : goal.bounds-table-at
bounds-table-at c = let e = ap length c.args.table.now.whole in omega (arith, count)

pub returns-then-from-bound : goal.returns-then-from-bound
unfolding depth_of
returns-then-from-bound c =
    let k = c.loop-at.at - 1 in
    let e = ap (λ (l : List ℕ). get_or l k 0) c.args.table.now.whole in
    let after = later (100000 * c.args.t) thresholds falling k (omega (arith, count)) (omega arith) in
    omega arith

pub loop-at-preserved : goal.loop-at-preserved
unfolding depth_of
loop-at-preserved c =
    let k = c.loop-at.at - 1 in
    let e = ap (λ (l : List ℕ). get_or l k 0) c.args.table.now.whole in
    no_later (100000 * c.args.t) thresholds k (omega arith)
