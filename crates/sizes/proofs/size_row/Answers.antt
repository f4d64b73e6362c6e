-- `sizes::size_row` meets its contract. The loop's invariant: s holds the sum before window i, and the sizes of the first i windows are there. Assumes nothing.
use Prim.Native.Nat.{max}
use mathlib.Core.Path.{ap, ◌∙◌}
use lib.IntN.{ℤ, nat_abs}
use native.Mathlib.Omega.{arith}
use Rattle.sums.proofs.Turns.{holds_next, moves, moved_back}
use Rattle.sizes.proofs.Counts.{counted_more, count_as}
use Rattle.sizes.proofs.size_row.Goals as goal

pub overflow_add-s-in-loop-i : goal.overflow_add-s-in-loop-i
overflow_add-s-in-loop-i c = (moves c.requires.spannable.0 c.requires.spannable.1 c.loop-i.invariant.0).fit

pub size_of-requires : goal.size_of-requires
size_of-requires c =
    count_as (moved_back c.requires.spannable.0 c.requires.spannable.1 c.loop-i.invariant.0) (c.requires.by_index c.loop-i.i c.loop-i-test.true)

pub loop-i-preserved : goal.loop-i-preserved
loop-i-preserved c =
    let i = c.loop-i.invariant in
    let moved = moved_back c.requires.spannable.0 c.requires.spannable.1 i.0 in
    (holds_next c.requires.spannable.0 c.requires.spannable.1 i.0, counted_more i.1 (omega arith) _ (c.size_of.ensures ∙ ap (λ (z : ℤ). max 1 (nat_abs z)) moved))
