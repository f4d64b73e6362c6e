-- The worked depths and calls, by computing: one statement over the whole table. Assumes nothing.
use mathlib.Core.Path.{◌≡◌, refl}
use mathlib.Core.List.{map}
use Rattle.rules.specs.Refusals.{bad_size, bad_map, bad_entries}
use Rattle.depth.specs.Table.{thresholds, depth_of}
use Rattle.depth.specs.Promise.{refuse_depths}
use Rattle.depth.specs.Cases.{Row, table}

pub cases : map (λ (c : Row). c.got) table ≡ map (λ (c : Row). c.want) table
unfolding table thresholds depth_of refuse_depths bad_size bad_map bad_entries
cases = refl
