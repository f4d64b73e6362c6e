-- `planes::row_start` meets its contract: the row ends in the plane. Assumes nothing.
use mathlib.Core.Path.{refl}
use Rattle.planes.proofs.Shown.{row_inside}
use Rattle.planes.proofs.row_start.Goals as goal

pub returns : goal.returns
returns c = (refl, row_inside c.args.v c.args.y c.requires.0 c.requires.1)
