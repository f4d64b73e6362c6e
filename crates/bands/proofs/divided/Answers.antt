-- `bands::divided` meets its contract. Assumes nothing.
use mathlib.Core.Path.{refl}
use Rattle.rules.specs.Picture.{quotient}
use Rattle.rules.proofs.Doubles.{in_float_lem}
use Rattle.bands.proofs.divided.Goals as goal

pub int_to_float-result : goal.int_to_float-result
int_to_float-result c = in_float_lem _ c.requires.0

pub int_to_float-result-2 : goal.int_to_float-result-2
int_to_float-result-2 c = in_float_lem _ c.requires.1

pub returns : goal.returns
unfolding quotient
returns c = refl
