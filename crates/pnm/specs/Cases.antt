-- Worked headers, as a table: what the definitions give, and what is wanted by the request's words and by the readings of their open places. Assumes nothing.
use Rattle.std.specs.Prelude.{ℕ, zero, suc, List, [], ◌∷◌, ◌++◌, cond, length, Option, Some, None}
use Prim.Native.String.{String}
use Rattle.fields.specs.Words.{bytes}
use Rattle.pnm.specs.declared.Head.{Head}
use Rattle.pnm.specs.Header.{good, header_of}

pub record Row : Type 0 where
  pub got : List ℕ
  pub want : List ℕ

-- ---- what the rows are written with

-- the numbers of a header, none of a bad one
abbrev numbers : Option Head → List ℕ
numbers (Some h) = h.width ∷ h.height ∷ h.maximum ∷ h.start ∷ []
numbers None = []

-- a file of a kind, and the numbers of its header
abbrev says : ℕ → String → List ℕ → Row
says kind text want = record { got = numbers (header_of kind (bytes text)); want = want }

-- a PPM header of 2 by 1 and nothing behind it, and a bad one
abbrev fine : String → Row
fine text = says 54 text (2 ∷ 1 ∷ 255 ∷ length (bytes text) ∷ [])

abbrev bad : String → Row
bad text = says 54 text []

-- the bytes below n that between two texts make a good header
abbrev found : ℕ → String → String → List ℕ
found zero left right = []
found (suc b) left right = found b left right ++ cond (good 54 (bytes left ++ b ∷ bytes right)) (b ∷ []) []

abbrev between : String → String → List ℕ → Row
between left right want = record { got = found 256 left right; want = want }

-- ---- the table

unfoldable pub table : List Row
table =
    -- the request's words: the plain form, every white byte, longer gaps, leading zeros
    fine "P6\n2 1\n255\n"
    ∷ fine "P6\t2\r1\n255\t"
    ∷ fine "P6 \t\r\n2\n\n1  255\r"
    ∷ fine "P6 02 000001 000255 "
    -- comments in every gap, at its start, in it and one after another, ended by LF and by CR, of any bytes
    ∷ fine "P6 # one\n2 # two\r1\t#\n255 "
    ∷ fine "P6#c\n2#c\n1 255 "
    ∷ fine "P6#c\r2#c\r1#c\r255 "
    ∷ fine "P6#a\n#b\r# P6 9 9\r\n2 1 255 "
    ∷ fine "P6 2 #\0\u{b}\u{c}\t##7\n1 255 "
    -- a comment without end
    ∷ bad "P6#c"
    ∷ bad "P6 2 1#c 255 "
    -- the empty file, a part of a header, no gap, a sign
    ∷ bad ""
    ∷ bad "P6 2 1 "
    ∷ bad "P62 1 255 "
    ∷ bad "P6 +2 1 255 "
    -- one white byte after the maximum, and no gap; the file that ends at the maximum
    ∷ bad "P6 2 1 255#"
    ∷ bad "P6 2 1 255#\n"
    ∷ bad "P6 2 1 255"
    ∷ bad "P6 0 1 255"
    -- VT, FF, NUL; the magic
    ∷ bad "P6 \u{b} 2 1 255 "
    ∷ bad "P6 2 \u{c} 1 255 "
    ∷ bad "P6 2 1 \0 255 "
    ∷ bad "p6 2 1 255 "
    ∷ bad "P5 2 1 255 "
    ∷ bad " P6 2 1 255 "
    -- seven digits, zeros or not
    ∷ bad "P6 0000002 1 255 "
    ∷ bad "P6 2 0000001 255 "
    ∷ bad "P6 2 1 0000255 "
    ∷ bad "P6 1000000 1 255 "
    -- of all bytes: which are a gap, which end a header, which open and which end a comment, which are digits
    ∷ between "P6" "2 1 255 " (9 ∷ 10 ∷ 13 ∷ 32 ∷ [])
    ∷ between "P6 2 1 255" "" (9 ∷ 10 ∷ 13 ∷ 32 ∷ [])
    ∷ between "P6" "c\n2 1 255 " (35 ∷ [])
    ∷ between "P6#" "2 1 255 " (10 ∷ 13 ∷ [])
    ∷ between "P6 " " 1 255 " (bytes "0123456789")
    -- headers of another kind; the numbers are not judged, and are taken as far as their digits go
    ∷ says 53 "P5\n3 0\n65535\n 1" (3 ∷ 0 ∷ 65535 ∷ 13 ∷ [])
    ∷ says 54 "P5\n3 0\n65535\n 1" []
    ∷ says 53 "P6\n3 0\n65535\n 1" []
    ∷ says 54 "P6 999999 1 2550 " (999999 ∷ 1 ∷ 2550 ∷ 17 ∷ [])
    ∷ []
