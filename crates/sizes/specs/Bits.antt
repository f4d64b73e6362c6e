-- Where the rows of a box stand in the mask's ones and zeros. Assumes nothing.
use Rattle.std.specs.Prelude.{◌≡◌, List, ℕ, ◌+◌, ◌≤◌, get_or, length, pos}
use mathlib.Core.Path.{ap, sym, subst, ◌∙◌}
use lib.ListN.{length-map, get_or-map}
use Rattle.planes.specs.declared.View.{View}
use Rattle.planes.specs.View.{row_start}
use Rattle.planes.proofs.Shown.{seen_at_lem, row_inside}
use Rattle.sizes.specs.Sizes.{Row, shows, bit, bit_plane, bits_of}

pub bit_at : (mask : List ℕ) (i : ℕ) → get_or (bits_of mask) i (pos 0) ≡ bit (shows (get_or mask i 0))
bit_at mask i = get_or-map (λ (m : ℕ). bit (shows m)) mask i 0

-- row y ends in the mask, and is the box's
pub row_ends : (b : View) (mask : List ℕ) (y : ℕ) → Row b mask y → row_start b y + b.wide ≤ length (bits_of mask)
row_ends b mask y p =
    subst (λ (n : ℕ). row_start b y + b.wide ≤ n) (sym (length-map mask (λ (m : ℕ). bit (shows m)) ∙ p.bytes)) (row_inside b y p.box p.inside)

pub row_stands : (b : View) (mask : List ℕ) (y x : ℕ) → get_or (bits_of mask) (row_start b y + x) (pos 0) ≡ bit_plane b mask y x
row_stands b mask y x = bit_at mask (row_start b y + x) ∙ ap bit (seen_at_lem b mask y x)
