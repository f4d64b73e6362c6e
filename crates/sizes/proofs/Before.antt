-- From row to row: what stands before the next once a row's sizes are known. Assumes nothing.
use mathlib.Core.Path.{◌≡◌}
use mathlib.Core.List.{List}
use Prim.Native.Nat.{ℕ, ◌+◌, ◌-◌, ◌≤◌}
use lib.ListN.{length}
use native.Mathlib.Nat.{add_assoc}
use native.Mathlib.Omega.{arith}
use Rattle.planes.specs.declared.View.{View}
use Rattle.sums.specs.Sum.{Columns}
use Rattle.planes.specs.Stage.{box_seen}
use Rattle.sizes.specs.Sizes.{Sizes, bit_plane}
use Rattle.sizes.specs.declared.WindowSizes.{WindowSizes}
use Rattle.sizes.specs.Before.{SizesAbout, SizesBefore}

pub before_next : {b v : View} {r : ℕ} {mask : List ℕ} {s : WindowSizes} (y : ℕ) → Columns s.columns (bit_plane b mask) v.w v.h r (v.top + y + 1)
    → Sizes v r (box_seen b mask) (v.top + y) s.ns s.inverses → v.wide ≤ length s.ns → v.wide ≤ length s.inverses → SizesBefore b v r mask (y + 1) s
before_next {b} {v} {r} {mask} {s} y c sizes ns inverses =
    let last : y + 1 - 1 ≡ y = omega arith in
    let about : SizesAbout b v r mask y s = record { sizes = sizes; ns_long = ns; inverses_long = inverses } in
    record { columns = rw (← add_assoc v.top y 1) c; sizes = λ h. rw last about }
