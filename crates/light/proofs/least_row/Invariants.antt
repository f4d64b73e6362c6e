-- `light::least_row` meets its contract. The loop's invariant is the contract at x pixels. Assumes nothing.
use lib.ListN.{get_or}
use Rattle.rules.specs.Light.{darkest}
use Rattle.rules.specs.Buffers.{pixel_at}
use Rattle.light.specs.Steps.{least_by, Starts}
use Rattle.light.proofs.least_row.Given as goal

abbrev pub invariant-loop-x : goal.invariant-loop-x
invariant-loop-x l = Starts (λ i. least_by (get_or l.mask i 0) (darkest (pixel_at l.frame i))) l.x l.row
