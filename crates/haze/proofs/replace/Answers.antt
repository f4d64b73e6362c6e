-- `haze::replace` meets its contract. Assumes nothing.
use Rattle.rules.specs.Setup.{handed}
use Rattle.rules.specs.Promise.{lent_of}
use Rattle.refusals.proofs.Accepted.{replace_accepted}
use Rattle.haze.proofs.Accepted.{free, given, loan}
use Rattle.haze.proofs.replace.Goals as goal

pub replace_whole-count-requires : goal.replace_whole-count-requires
replace_whole-count-requires c =
    let s = c.args in
    let p = handed s.z s.k s.a s.mask.now in
    let l = lent_of s.frame.now s.map.now s.picture.now s.work.now in
    let n = replace_accepted p s.c s.new.now l (free c.refuse_replace.ensures c.in_ok-refuse_replace.was) in
    record { given = given p l n.clear; loan = loan p l n.clear; good_rect = (n.rect, n.pixels) }
