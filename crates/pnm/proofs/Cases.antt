-- The worked headers, by computing: one statement over the whole table. Assumes nothing.
use mathlib.Core.Path.{◌≡◌, refl}
use mathlib.Core.List.{map}
use Rattle.fields.specs.Decimal.{figured}
use Rattle.pnm.specs.Header.{from, figures, past, token, magic, closed, good, header_of}
use Rattle.pnm.specs.Cases.{Row, table}

pub cases : map (λ (c : Row). c.got) table ≡ map (λ (c : Row). c.want) table
unfolding table from figures past token magic closed good header_of figured
cases = refl
