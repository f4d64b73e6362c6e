-- `clearing::clear_whole` meets its contract: the whole frame sees all of itself. Assumes nothing.
use mathlib.Core.Path.{◌∙◌}
use Rattle.rules.specs.Shape.{described}
use Rattle.rules.specs.Transmission.{map_entry}
use Rattle.rules.specs.Picture.{cleared}
use Rattle.rules.specs.Buffers.{pixels, masked, values, clear}
use Rattle.clearing.proofs.Grown.{nested_all, entries_all, bytes_all}
use Rattle.clearing.proofs.clear_whole.Goals as goal

pub refresh-requires : goal.refresh-requires
refresh-requires c =
    let d = c.args in
    record { given = (c.requires.given, nested_all (described d.z) d.k c.requires.given.size); loan = c.requires.loan }

pub returns : goal.returns
unfolding clear
returns c =
    let r = c.refresh in
    let d = c.args in
    let z = described d.z in
    let f = masked z d.mask.now d.frame.now in
    let m = r.ensures.map ∙ entries_all z (map_entry z d.k d.a f) (values z d.map.now) in
    let p = r.ensures.picture ∙ bytes_all z (cleared z d.k d.a f) (pixels z d.picture.now) in
    let w = r.ensures.work in
    record { count = r.ensures.count; after = λ i. record { frame = d.frame.now; map = m i; picture = p i; work = w i } }
