-- `columns::fold` meets its contract. The invariant: the rows from j on are folded, with n comparisons for each before the last. Assumes nothing.
use mathlib.Core.Path.{◌≡◌, refl}
use Prim.Native.Nat.{suc, ◌+◌, ◌-◌, ◌*◌, ◌≤◌}
use native.Mathlib.Nat.{suc-mul, mul-le-mul_right}
use native.Mathlib.Omega.{arith}
use lib.ListN.{length, take}
use Rattle.std.proofs.Common.{rules}
use Rattle.columns.proofs.Stores.{folded_none, folded_more, laid_lesser}
use Rattle.columns.proofs.fold.Goals as goal

pub loop-j-init : goal.loop-j-init
loop-j-init c = (omega arith, folded_none _ _ _)

pub loop-j-preserved : goal.loop-j-preserved
loop-j-preserved c =
    let j = c.loop-j.j in
    let n = c.args.n in
    let rows = c.split_at_mut-rows in
    let next : suc (j - 1) ≡ j = omega arith in
    let this : j - 1 + 1 ≡ j = omega arith in
    let down : j * n ≡ (j - 1) * n + n = rw next at (suc-mul (j - 1) n) in
    let room : j * n + n ≤ length c.loop-j.store = omega (arith, c.requires, mul-le-mul_right n c.loop-j.auto.j) in
    let long : length (take n rows.result.1.now) ≡ n = search rules in (
      omega (arith, long, down),
      folded_more _ _ _ _ _ j c.loop-j.invariant.1 c.loop-j-test.true c.loop-j.auto.j
          (laid_lesser _ rows.result.0.now rows.result.1.now _ _ _ (j * n) _ n down room (rw this at rows.ensures.front) (rw this at rows.ensures.back) refl refl (search rules) (rw long at c.extend-count.ensures.1)),
    )
