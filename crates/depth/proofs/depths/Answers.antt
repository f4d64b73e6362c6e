-- `depth::depths` keeps its promise: a refused call writes nothing, an accepted one leaves the depth of every entry. Assumes nothing.
use Rattle.std.proofs.Common.{rules}
use Rattle.rules.proofs.Answers.{or_free}
use Rattle.depth.proofs.Accepted.{accepted}
use Rattle.depth.proofs.depths.Goals as goal

pub write-requires : goal.write-requires
write-requires c =
    let k = accepted _ _ _ (or_free _ tt c.refuse.result c.refuse.ensures (search rules)) in
    record { every_value = (c.fill.ensures, k.long); by_index = k.low }
