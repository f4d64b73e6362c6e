-- The paper's whole example and the refused texts, in one statement over a table. Assumes nothing.
use mathlib.Core.Path.{◌≡◌, refl}
use mathlib.Core.List.{map}
use Rattle.fields.specs.Words.{bytes}
use Rattle.fields.specs.Decimal.{decimal, figured, numeral, number_of}
use Rattle.fields.specs.Fields.{field_of}
use Rattle.fields.specs.LaidOut.{laid}
use Rattle.rules.specs.Refusals.{bad_size, bad_settings}
use Rattle.rules.specs.Window.{square, window}
use Rattle.rules.specs.Light.{dark, rank, candidates, light}
use Rattle.rules.specs.Transmission.{coarse, line, refine, sample, fit, refined, map_entry}
use Rattle.rules.specs.Picture.{recover, recover3, cleared}
use Rattle.rules.specs.Buffers.{pixels, seen_in, masked, bytes as written, entries, clear}
use Rattle.records.specs.Records.{number_at, size_of, settings_of, colour_of, large, bright, fault}
use Rattle.records.specs.Judging.{painted}
use Rattle.text.specs.Text.{verdict, out_line, outs, light_line, bad_line, shown, reply}
use Rattle.text.specs.Cases.{table}

pub cases : map (λ r. reply (bytes r.input)) table ≡ map (λ r. bytes r.want) table
unfolding table reply verdict fault laid number_at size_of settings_of colour_of large bright painted out_line outs light_line bad_line shown decimal figured numeral number_of field_of bad_size bad_settings square window dark rank candidates light coarse line refine sample fit refined map_entry recover recover3 cleared pixels seen_in masked written entries clear
cases = refl
