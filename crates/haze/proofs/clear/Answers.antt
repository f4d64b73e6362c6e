-- `haze::clear` meets its contract. Assumes nothing.
use Rattle.rules.specs.Setup.{handed}
use Rattle.rules.specs.Promise.{lent_of}
use Rattle.refusals.proofs.Accepted.{clear_accepted}
use Rattle.haze.proofs.Accepted.{free, given, loan}
use Rattle.haze.proofs.clear.Goals as goal

pub clear_whole-count-requires : goal.clear_whole-count-requires
clear_whole-count-requires c =
    let s = c.args in
    let p = handed s.z s.k s.a s.mask.now in
    let l = lent_of s.frame.now s.map.now s.picture.now s.work.now in
    let n = clear_accepted p l (free c.refuse_clear.ensures c.in_ok-refuse_clear.was) in
    record { given = given p l n; loan = loan p l n }
