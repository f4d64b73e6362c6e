-- The program's text: from the bytes of the input to the bytes of the output. Assumes nothing.
use Rattle.std.specs.Prelude.{List, [], ◌∷◌, ◌++◌, ℕ, ◌+◌, ◌*◌, get_or, drop, replicate}
use Rattle.rules.specs.Shape.{described}
use Rattle.rules.specs.declared.Size.{Size}
use Rattle.rules.specs.declared.Settings.{Settings}
use Rattle.rules.specs.declared.Rgb.{Rgb}
use Rattle.rules.specs.Window.{from, flat}
use Rattle.rules.specs.Light.{light}
use Rattle.rules.specs.Setup.{handed}
use Rattle.rules.specs.Buffers.{masked, clear}
use Rattle.fields.specs.Words.{bytes}
use Rattle.fields.specs.Fields.{split}
use Rattle.fields.specs.Written.{row}
use Rattle.records.specs.Records.{size_of, settings_of}
use Rattle.records.specs.Judging.{Verdict, good, bad, judge, line_at, cells, kinds, channels, painted}

-- ---- judging

unfoldable pub verdict : List ℕ → Verdict
verdict input = judge (kinds (cells (size_of (line_at input 0)))) 1 (split 10 input)

-- ---- writing, with the same tabs and line ends

-- `out`, map entry, R, G, B
unfoldable pub out_line : ℕ → ℕ → ℕ → ℕ → List ℕ
out_line t r g b = row (bytes "out") (t ∷ r ∷ g ∷ b ∷ [])

-- the pixel at position p
abbrev pub out_at : List ℕ → List ℕ → ℕ → List ℕ
out_at entries picture p = out_line (get_or entries p 0) (get_or picture (3 * p) 0) (get_or picture (3 * p + 1) 0) (get_or picture (3 * p + 2) 0)

unfoldable pub outs : ℕ → List ℕ → List ℕ → List ℕ
outs n entries picture = flat (from 0 n (out_at entries picture))

unfoldable pub light_line : Rgb → List ℕ
light_line a = row (bytes "light") (channels a)

unfoldable pub bad_line : ℕ → ℕ → List ℕ
bad_line n l = row (bytes "bad") (n ∷ l ∷ [])

-- ---- the light is found, then used

-- the mask that every text means: each pixel is seen
abbrev pub ones : Size → List ℕ
ones z = replicate (cells z) 1

unfoldable pub shown : Size → Settings → List ℕ → List ℕ
shown z k frame =
    let a = light (described z) k (masked (described z) (ones z) frame) in
    let s = clear (handed z k a (ones z)) frame in
    light_line a ++ outs (cells z) s.map s.picture

-- ---- the whole

abbrev pub replied : Verdict → List ℕ → List ℕ
replied good input =
    shown (size_of (line_at input 0)) (settings_of (line_at input 1)) (painted (cells (size_of (line_at input 0))) (drop 2 (split 10 input)))
replied (bad n l) input = bad_line n l

unfoldable pub reply : List ℕ → List ℕ
reply input = replied (verdict input) input
