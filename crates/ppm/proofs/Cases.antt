-- The worked files, by computing: one statement over the whole table. Assumes nothing.
use mathlib.Core.Path.{◌≡◌, refl}
use mathlib.Core.List.{map}
use Rattle.rules.specs.Refusals.{bad_size, bad_frame}
use Rattle.fields.specs.Decimal.{figured, decimal}
use Rattle.pnm.specs.Header.{from, figures, past, token, magic, closed, good}
use Rattle.ppm.specs.File.{head}
use Rattle.ppm.specs.Promise.{pixels, refuse_size, refuse_read, refuse_write}
use Rattle.ppm.specs.Cases.{Row, table}

pub cases : map (λ (c : Row). c.got) table ≡ map (λ (c : Row). c.want) table
unfolding table from figures past token magic closed good head pixels refuse_size refuse_read refuse_write figured decimal bad_size bad_frame
cases = refl
