-- `light::level_row` meets its contract. The loop's invariant is the contract at x pixels. Assumes nothing.
use lib.ListN.{get_or}
use Rattle.light.specs.Steps.{level_by, Starts}
use Rattle.light.proofs.level_row.Given as goal

abbrev pub invariant-loop-x : goal.invariant-loop-x
invariant-loop-x l = Starts (λ i. level_by (get_or l.mask i 0) (get_or l.d i 0)) l.x l.levels
