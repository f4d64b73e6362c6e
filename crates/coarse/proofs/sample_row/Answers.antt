-- `coarse::sample_row` meets its contract. The loop's invariant is the contract at x pixels. Assumes nothing.
use mathlib.Core.Path.{◌≡◌, ap, ◌∙◌}
use native.Mathlib.Omega.{arith}
use lib.ListN.{get_or}
use lib.IntN.{pos}
use Rattle.rules.specs.Light.{guide}
use Rattle.rules.specs.Window.{Shown}
use Rattle.rules.specs.Transmission.{Sample}
use Rattle.planes.specs.Stage.{masked_at, product_word, square_word}
use Rattle.coarse.specs.Rows.{sample_of}
use Rattle.coarse.proofs.Rows.{word_is, puts_more}
use Rattle.coarse.proofs.sample_row.Goals as goal

pub loop-x-preserved : goal.loop-x-preserved
loop-x-preserved c =
    let l = c.loop-x in
    let d = c.args in
    let S : Shown Sample = sample_of d.omega (masked_at d.mask.now d.frame.now l.x) (get_or d.d.now l.x 0) in
    let g : c.guide_of-g.result ≡ S.value.g = c.guide_of-g.ensures.0 ∙ ap guide c.pixel_at.ensures in
    let t : c.coarse_of-t.result ≡ S.value.t = c.coarse_of-t.ensures in
    let product : c.word-product.result ≡ pos (product_word S.value) = c.word-product.ensures ∙ (λ i. pos (product_word (record { g = g i; t = t i }))) in
    let square : c.word-square.result ≡ pos (square_word S.value) = c.word-square.ensures ∙ (λ i. pos (square_word (record { g = g i; t = t i }))) in
    puts_more d.to d.two _ _ l.work l.x _ _ (omega arith) (omega arith)
    (word_is product_word S _ _ (record { sfits = c.word-product.type_inv }) (record { sfits = c.seen_or.type_inv }) product c.seen_or.ensures)
    (word_is square_word S _ _ (record { sfits = c.word-square.type_inv }) (record { sfits = c.seen_or-in-loop-x.type_inv }) square c.seen_or-in-loop-x.ensures)
    l.invariant
