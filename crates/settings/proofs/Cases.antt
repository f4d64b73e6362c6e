-- The worked calls, by computing: one statement over the whole table. Assumes nothing.
use mathlib.Core.Path.{◌≡◌, refl}
use mathlib.Core.List.{map}
use Rattle.fields.specs.Fields.{field_of, field_at}
use Rattle.fields.specs.LaidOut.{laid}
use Rattle.settings.specs.Texts.{word, good, first_with}
use Rattle.settings.specs.Promise.{source_of, refusal_of}
use Rattle.settings.specs.Cases.{Row, table}

pub cases : map (λ (c : Row). c.got) table ≡ map (λ (c : Row). c.want) table
unfolding table refusal_of source_of word good first_with laid field_of field_at
cases = refl
