-- What a row is worked out from: of each window its size and sums, and of each transmission its scale. Assumes nothing.
use Rattle.std.specs.Prelude.{◌≡◌, cond, eqb, List, ℕ, ◌-◌, ◌*◌, ◌/◌, ◌%◌, ◌≤◌, ◌<◌, max, length, get_or, ℤ, pos, nat_abs}
use Rattle.rules.specs.declared.Rgb.{Rgb}
use Rattle.rules.specs.Light.{guide}
use Rattle.rules.specs.Transmission.{refine_of}
use Rattle.rules.specs.Picture.{recover3}
use Rattle.rules.specs.Buffers.{pixel_at, channel}
use Rattle.pixel.specs.Over.{Over, parts}

-- ---- map entries

-- of each of n windows: the sums of slopes and of offsets, how many pixels it has, and the reciprocal of that
pub record Windows (n : ℕ) (slopes offsets : List ℤ) (ns inverses : List ℕ) : Type 0 where
  pub a_long : n ≤ length slopes
  pub b_long : n ≤ length offsets
  pub n_long : n ≤ length ns
  pub i_long : n ≤ length inverses
  pub some : (i : ℕ) → i < n → 0 < get_or ns i 0
  pub few : (i : ℕ) → i < n → get_or ns i 0 ≤ 14641
  pub over : (i : ℕ) → i < n → Over 1 (get_or ns i 0) parts (get_or inverses i 0)
  pub a_le : (i : ℕ) → i < n → nat_abs (get_or slopes i (pos 0)) ≤ 2560000 * get_or ns i 0
  pub b_le : (i : ℕ) → i < n → nat_abs (get_or offsets i (pos 0)) ≤ 2147483648 * get_or ns i 0

-- the map entry of a pixel of refined value t under the mask's byte m
abbrev pub entry_by : ℕ → ℕ → ℕ
entry_by m t = cond (eqb m 0) 10000 t

-- that of the frame's pixel at position q, whose window is the one at q - p
abbrev pub entry_from : List ℕ → List ℕ → ℕ → List ℤ → List ℤ → List ℕ → ℕ → ℕ
entry_from mask frame p slopes offsets ns q =
    entry_by (get_or mask q 0) (refine_of (get_or ns (q - p) 0) (get_or slopes (q - p) (pos 0)) (get_or offsets (q - p) (pos 0)) (guide (pixel_at frame q)))

-- ---- cleared pixels

-- m is a scale of the transmission t
abbrev pub ScaleOf : ℕ → ℕ → Type 0
ScaleOf t m = Over 10000 (max t 39) 8388608 m

-- an entry of the table is 0, where it is not known yet, or a scale of its index
pub record Known (table : List ℕ) : Type 0 where
  pub long : length table ≡ 10001
  pub is : (t : ℕ) → t ≤ 10000 → 0 < get_or table t 0 → ScaleOf t (get_or table t 0)

-- scales of the transmissions T of n pixels
pub record Scales (T : ℕ → ℕ) (n : ℕ) (scales : List ℕ) : Type 0 where
  pub is : (k : ℕ) → k < n → ScaleOf (T k) (get_or scales k 0)

-- the transmissions of the entries, with the floor t0
abbrev pub floored_at : List ℕ → ℕ → ℕ → ℕ
floored_at map t0 k = max (get_or map k 0) t0

-- the bytes of pixels, by position
abbrev pub bytes_of : (ℕ → Rgb) → ℕ → ℕ
bytes_of g q = channel (q % 3) (g (q / 3))

-- the cleared pixel of the frame's pixel at position q, whose transmission is the one at q - p
abbrev pub cleared_by : Rgb → List ℕ → ℕ → (ℕ → ℕ) → ℕ → Rgb
cleared_by a frame p T q = recover3 a (pixel_at frame q) (T (q - p))

-- transmissions that a pixel is recovered by
abbrev pub Floored : (ℕ → ℕ) → ℕ → Type 0
Floored T n = (k : ℕ) → k < n → (0 < T k) × (T k ≤ 10000)
