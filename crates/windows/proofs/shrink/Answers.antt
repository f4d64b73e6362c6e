-- `windows::shrink` meets its contract, from what `halves` and `meet` ensure and the law of the block method. Assumes nothing.
use mathlib.Core.Path.{◌≡◌}
use Prim.Native.Nat.{◌+◌}
use native.Mathlib.Omega.{arith}
use lib.ListN.{length}
use Rattle.windows.specs.Line.{entry}
use Rattle.rules.specs.Count.{comparisons, samples}
use Rattle.rules.proofs.Count.{samples_at_most, zero_count}
use Rattle.windows.proofs.Windows.{row_mins, row_count, zero_mins}
use Rattle.windows.proofs.shrink.Goals as goal
use Rattle.windows.proofs.shrink.Goals.{After-meet-b}

pub returns-then-s-eq0 : goal.returns-then-s-eq0
returns-then-s-eq0 c =
    let z = c.if-s-eq0.true in
    record { mins = λ x h. rw z (zero_mins (entry c.args.line.now) (length c.args.line.now) x h); count = rw z (zero_count (length c.args.line.now)) }

-- both passes together
counted : (c : After-meet-b) →
    c.halves-a.result + c.meet-b.result ≡ comparisons c.args.s (samples (length c.args.line.now))
counted c =
    let a = c.halves-a.ensures in
    row_count _ _ _ _ _ _ _ a.1 a.2 c.meet-b.ensures _ a.0

pub overflow_add-result : goal.overflow_add-result
overflow_add-result c =
    omega (arith, counted (goal.at.overflow_add-result c).After-meet-b, samples_at_most c.args.s (length c.args.line.now), c.requires.2)

pub returns : goal.returns
returns c =
    let a = c.halves-a.ensures in
    record { mins = row_mins _ _ _ _ _ _ _ a.1 a.2 c.meet-b.ensures; count = counted (goal.at.returns c).After-meet-b }
