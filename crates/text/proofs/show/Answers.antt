-- `text::show` meets its contract: a frame that is ready is refused by neither call, and what they leave is written. Assumes nothing.
use mathlib.Core.Path.{◌≡◌, sym, ap, ◌∙◌}
use lib.ListN.{length}
use Rattle.std.specs.Prelude.{Ok}
use borrow.Author.Rules.{rules}
use Rattle.rules.specs.Promise.{Lent, lent_of}
use Rattle.text.proofs.Showing.{light_done, cleared_done, finished}
use Rattle.text.proofs.show.Goals as goal
use Rattle.text.proofs.show.Goals.{After-light}

-- what stands in the buffers before
abbrev old : After-light → Lent
old c = lent_of c.args.frame.now c.args.map.now c.args.picture.now c.args.work.now

pub unwrap-found-requires : goal.unwrap-found-requires
unwrap-found-requires c =
    light_done c.args.z c.args.k c.args.mask.now (old (goal.at.unwrap-found-requires c).After-light) _ c.requires c.light.result _ c.light.ensures

pub unwrap-requires : goal.unwrap-requires
unwrap-requires c =
    cleared_done c.args.z c.args.k c.args.mask.now (old (goal.at.unwrap-requires c).After-light) _ c.requires c.light.result _ c.light.ensures
    c.unwrap-found.result c.unwrap-found.ensures c.light.auto.work c.clear.result _ c.clear.ensures

pub put_outs-requires : goal.put_outs-requires
put_outs-requires c = search (rules, c.requires)

pub returns : goal.returns
returns c =
    finished c.args.z c.args.k c.args.mask.now (old (goal.at.returns c).After-light) _ c.requires c.light.result _ c.light.ensures
    c.unwrap-found.result c.unwrap-found.ensures c.light.auto.work c.clear.result _ c.args.out.now _ _ _ _
    c.clear.ensures c.clear.auto.map c.put_light-at.ensures.0 c.put_outs.ensures
