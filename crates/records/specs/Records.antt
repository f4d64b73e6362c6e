-- One line of the program's text: what each record says, and what is wrong with a line. A line is given without its line end. Assumes nothing.
use Rattle.std.specs.Prelude.{Bool, not, ◌||◌, List, [], ◌∷◌, ℕ, ltb}
use Rattle.rules.specs.declared.Size.{Size}
use Rattle.rules.specs.declared.Settings.{Settings}
use Rattle.rules.specs.declared.Rgb.{Rgb}
use Rattle.rules.specs.Refusals.{first, bad_size, bad_settings}
use Rattle.fields.specs.Words.{bytes}
use Rattle.fields.specs.Fields.{field_of}
use Rattle.fields.specs.LaidOut.{laid}
use Rattle.fields.specs.Decimal.{numeral, number_of, value_in}
use Rattle.records.specs.declared.Kind.{Kind}
use Rattle.records.specs.declared.Kind.TheVariants.{Size as kind_size, Set as kind_set, Px as kind_px}

-- the number in field n, 0 where there is none
unfoldable pub number_at : List ℕ → ℕ → ℕ
number_at line n = value_in (number_of (field_of 9 line n))

-- ---- what the records say

-- `size` W H
unfoldable pub size_of : List ℕ → Size
size_of line = record { w = number_at line 1; h = number_at line 2 }

-- `set` s r omega E t0 share
unfoldable pub settings_of : List ℕ → Settings
settings_of line =
    record { s = number_at line 1; r = number_at line 2; omega = number_at line 3; e = number_at line 4; t0 = number_at line 5; share = number_at line 6 }

-- `px` R G B
unfoldable pub colour_of : List ℕ → Rgb
colour_of line = record { r = number_at line 1; g = number_at line 2; b = number_at line 3 }

-- ---- what is wrong with a line: within one line 9 comes before 1, then 10, then 2; 0 for nothing

-- 10: the program's frame has a side above 24
unfoldable pub large : Size → Bool
large z = ltb 24 z.w || ltb 24 z.h

-- a `px` number is at most 255
unfoldable pub bright : List ℕ → Bool
bright line = ltb 255 (number_at line 1) || ltb 255 (number_at line 2) || ltb 255 (number_at line 3)

-- 9: the line is not the word and its numbers, or a number of a `px` is too high
unfoldable pub fault : Kind → List ℕ → ℕ
fault kind_size line = first ((9, not (laid numeral (bytes "size") 2 line)) ∷ (1, bad_size (size_of line)) ∷ (10, large (size_of line)) ∷ [])
fault kind_set line = first ((9, not (laid numeral (bytes "set") 6 line)) ∷ (2, bad_settings (settings_of line)) ∷ [])
fault kind_px line = first ((9, not (laid numeral (bytes "px") 3 line) || bright line) ∷ [])
