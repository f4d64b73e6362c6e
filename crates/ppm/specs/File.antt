-- A PPM file as it is written: `P6`, LF, W, blank, H, LF, `255`, LF, the pixels. Assumes nothing.
use Rattle.std.specs.Prelude.{ℕ, ◌+◌, ◌*◌, List, ◌++◌, length}
use Rattle.rules.specs.declared.Size.{Size}
use Rattle.fields.specs.Words.{bytes}
use Rattle.fields.specs.Decimal.{decimal}

unfoldable pub head : Size → List ℕ
head z = bytes "P6\n" ++ decimal z.w ++ bytes " " ++ decimal z.h ++ bytes "\n255\n"

abbrev pub file : Size → List ℕ → List ℕ
file z frame = head z ++ frame

-- how long it is for a whole frame: 9 bytes that are in every header, the digits, the pixels
abbrev pub long : Size → ℕ
long z = 9 + length (decimal z.w) + length (decimal z.h) + 3 * (z.w * z.h)
