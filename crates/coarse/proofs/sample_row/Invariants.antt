-- `coarse::sample_row` meets its contract. The loop's invariant is the contract at x pixels. Assumes nothing.
use lib.ListN.{get_or}
use Rattle.planes.specs.Stage.{masked_at}
use Rattle.coarse.specs.Rows.{sample_of, SamplesPut}
use Rattle.coarse.proofs.sample_row.Given as goal

abbrev pub invariant-loop-x : goal.invariant-loop-x
invariant-loop-x l = SamplesPut l.initial.work l.work l.to l.two (λ i. sample_of l.omega (masked_at l.mask l.frame i) (get_or l.d i 0)) l.x
