-- `light::find` meets its contract, from what its parts ensure. Assumes nothing.
use mathlib.Core.Path.{refl, ap₂, ◌∙◌}
use lib.ListN.{get_or-replicate}
use Rattle.rules.specs.Shape.{described}
use Rattle.rules.specs.Promise.{finding_of}
use Rattle.light.proofs.Areas.{wiped_after}
use Rattle.light.proofs.find.Goals as goal

pub darks-count-requires : goal.darks-count-requires
darks-count-requires c = (c.requires, refl, refl, λ v h. get_or-replicate 1028 v 0 0 h)

pub returns : goal.returns
returns c =
    let a = c.args in
    record {
      found = ap₂ finding_of (c.colour.ensures ∙ c.pick-p.ensures.gives) c.darks-count.ensures.count;
      after = wiped_after (described a.z) a.work.now _ _ c.darks-count.auto.work c.darks-count.ensures.rest c.wipe.ensures;
    }
