-- `depth::depth_by` meets its contract. Assumes nothing.
use Rattle.std.proofs.Common.{◌≡◌, ap, arith, rules, length, ltb}
use Rattle.std.proofs.Common.{◌*◌}
use Rattle.std.specs.List.Sorted.{IsPartitionedBy}
use Rattle.std.proofs.lemmas.List.Sorted.{IsPartitionPoint-from_clause}
use Rattle.depth.specs.Table.{thresholds, depth_of}
use Rattle.depth.proofs.Place.{parted, parts}
use Rattle.depth.proofs.Table.{count, falling}
use Rattle.depth.proofs.depth_by.Goals as goal

pub overflow_cast-result : goal.overflow_cast-result
overflow_cast-result c = let e = ap length c.args.table.now.whole in omega (arith, count)

pub returns : goal.returns
unfolding depth_of
returns c =
    let m = 100000 * c.args.t in
    let t = c.args.table.now.entries in
    let e : t ≡ thresholds = c.args.table.now.whole in
    let falls : IsPartitionedBy (ltb m) t = rw e (parted m thresholds falling) in
    let point = IsPartitionPoint-from_clause (ltb m) t c.partition_point.result c.partition_point.ensures.partitioned falls (λ a r q k. search rules) in
    let place = parts m t c.partition_point.result c.partition_point.ensures.bound point in
    let long = ap length e in
    rw (← e) (omega (arith, count, c.partition_point.ensures.bound))
