-- What stands ready when an accepted frame is cleared. Assumes nothing.
use Rattle.std.specs.Prelude.{◌≡◌, false, List, ℕ, ◌+◌, ◌*◌, ◌≤◌}
use Rattle.rules.specs.Shape.{described, room}
use Rattle.rules.specs.declared.Size.{Size}
use Rattle.rules.specs.declared.Settings.{Settings}
use Rattle.rules.specs.Refusals.{bad_size, bad_settings}
use Rattle.records.specs.Records.{large}
use Rattle.records.specs.Judging.{cells}
use Rattle.text.specs.Text.{ones}

-- size and settings are not refused, the mask hides nothing, and the buffers have these lengths: a `light` line has at most 18 bytes, an `out` line at most 22
pub record Ready (z : Size) (k : Settings) (mask : List ℕ) (frame entries picture work out : ℕ) : Type 0 where
  pub size_good : bad_size z ≡ false
  pub settings_good : bad_settings k ≡ false
  pub mask_is : mask ≡ ones z
  pub frame_is : frame ≡ 3 * cells z
  pub entries_is : entries ≡ cells z
  pub picture_is : picture ≡ 3 * cells z
  pub work_room : room (described z) ≤ work
  pub out_room : 18 + 22 * cells z ≤ out

-- a frame that the text's reader has accepted, in memory for the largest frame, and memory for the longest answer
pub record Accepted (z : Size) (k : Settings) (frame out : ℕ) : Type 0 where
  pub size_good : bad_size z ≡ false
  pub size_small : large z ≡ false
  pub settings_good : bad_settings k ≡ false
  pub frame_room : 1728 ≤ frame
  pub out_room : 12690 ≤ out
