-- `light::tally_row` meets its contract. The loop's invariant: with the counts of the positions before `first` go those of x more, each in its lane.
-- Assumes nothing.
use mathlib.Core.Path.{◌≡◌, ap}
use Prim.Native.Nat.{ℕ, ◌≤◌, ◌<◌, ◌+◌, ◌*◌, ◌%◌}
use native.Mathlib.Omega.{arith}
use lib.ListN.{length, get_or}
use Rattle.light.specs.Steps.{lane}
use Rattle.light.proofs.Counts.{tallied_more, below_more}
use Rattle.light.proofs.tally_row.Goals as goal

pub loop-x-preserved : goal.loop-x-preserved
loop-x-preserved c =
    let l = c.loop-x in
    let d = c.args in
    let h : get_or d.d.now l.x 0 ≤ 256 = c.requires.1 l.x c.loop-x-test.true in
    let x : ℕ = 4 * get_or d.d.now l.x 0 + (d.first + l.x) % 4 in
    let e : d.first + (l.x + 1) ≡ d.first + l.x + 1 = omega arith in
    let b : x < length l.apart = omega arith in (
      rw e (below_more (d.first + l.x) l.apart x b (omega arith) l.invariant.0),
      λ D s r. rw e (tallied_more (lane D) 1028 (d.first + l.x) l.apart x b (ap (λ (v : ℕ). 4 * v + (d.first + l.x) % 4) (r l.x (omega arith))) (l.invariant.1 D s r)),
    )

pub returns : goal.returns
returns c D s r =
    let l = c.loop-x in
    let d = c.args in
    let e : l.x ≡ length d.d.now = omega arith in
    rw e at (l.invariant.1 D s r)
