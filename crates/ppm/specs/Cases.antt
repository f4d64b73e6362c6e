-- Worked files, as a table: what the definitions give, and what is wanted by the request's words and by the readings of their open places. Headers have a
-- table of their own, in `pnm`. Assumes nothing.
use Rattle.std.specs.Prelude.{ℕ, List, [], ◌∷◌, ◌++◌, Result, Ok, Err, map, length, replicate}
use Prim.Native.String.{String}
use Rattle.rules.specs.declared.Size.{Size}
use Rattle.rules.specs.declared.Refusal.{Refusal}
use Rattle.rules.specs.Answers.{number, or}
use Rattle.rules.specs.Promise.{unless}
use Rattle.fields.specs.Words.{bytes}
use Rattle.ppm.specs.File.{file}
use Rattle.ppm.specs.Promise.{size, pixels, refuse_size, refuse_read, refuse_write, length_for}

pub record Row : Type 0 where
  pub got : List ℕ
  pub want : List ℕ

-- ---- what the rows are written with

-- the pixels of 2 by 1: whole, short by one, one left over
abbrev two : List ℕ
two = 250 ∷ 0 ∷ 255 ∷ 100 ∷ 150 ∷ 200 ∷ []

abbrev short : List ℕ
short = 250 ∷ 0 ∷ 255 ∷ 100 ∷ 150 ∷ []

abbrev over : List ℕ
over = two ++ 7 ∷ []

-- lent memory before a call
abbrev lent : ℕ → List ℕ
lent n = replicate n 170

abbrev answer : Result Size Refusal → List ℕ
answer (Ok z) = 0 ∷ z.w ∷ z.h ∷ []
answer (Err e) = number e ∷ []

-- what size answers, what read answers with a lent frame of n bytes, and what stands in the frame afterwards
abbrev reads : List ℕ → ℕ → List ℕ
reads s n =
    let no = refuse_read s n in
    answer (or (refuse_size s) (size s)) ++ answer (or no (size s)) ++ unless no (pixels s) (lent n)

-- a file is taken as a frame of w by h
abbrev takes : String → List ℕ → ℕ → ℕ → Row
takes text frame w h = record { got = reads (bytes text ++ frame) (length frame); want = 0 ∷ w ∷ h ∷ 0 ∷ w ∷ h ∷ frame }

-- a file is refused by size, and by read with a lent frame of n bytes
abbrev refuses : ℕ → String → List ℕ → ℕ → Row
refuses k text rest n = record { got = reads (bytes text ++ rest) n; want = k ∷ k ∷ lent n }

-- size takes a file of 2 by 1, read refuses a lent frame of n bytes
abbrev unfit : ℕ → Row
unfit n = record { got = reads (bytes "P6 2 1 255 " ++ two) n; want = 0 ∷ 2 ∷ 1 ∷ 4 ∷ lent n }

abbrev sized : ℕ → ℕ → Size
sized w h = record { w = w; h = h }

-- what write answers with an output of n bytes, and what stands there afterwards
abbrev writes : Size → List ℕ → ℕ → List ℕ → Row
writes z frame n want =
    let no = refuse_write z (length frame) n in
    record { got = no ∷ unless no (file z frame) (lent n); want = want }

-- the text before the pixels, and the length of the whole file
abbrev begins : ℕ → ℕ → String → ℕ → Row
begins w h text long = record { got = length_for (sized w h) ∷ file (sized w h) []; want = long ∷ bytes text }

-- the number by the lengths of frame and output
abbrev write_no : ℕ → ℕ → ℕ → ℕ → ℕ → Row
write_no w h frame out k = record { got = refuse_write (sized w h) frame out ∷ []; want = k ∷ [] }

-- ---- the table

unfoldable pub table : List Row
table =
    -- files that are taken, with comments too; after CR the LF is a pixel's byte, and so are `#` and blank
    takes "P6\n2 1\n255\n" two 2 1
    ∷ takes "P6 1 2 255 " two 1 2
    ∷ takes "P6#c\n02#c\n1 255 " two 2 1
    ∷ takes "P6 1 1 255\r" (10 ∷ 0 ∷ 255 ∷ []) 1 1
    ∷ takes "P6 1 1 255 " (35 ∷ 10 ∷ 32 ∷ []) 1 1
    ∷ refuses 13 "P6 2 1 255\r\n" two 6
    -- 11: no header, or one that is bad
    ∷ refuses 11 "" [] 0
    ∷ refuses 11 "P6 2 1 255" [] 6
    ∷ refuses 11 "P6 0 1 255" [] 0
    ∷ refuses 11 "P6 2 1 255#" two 6
    -- 1: the size
    ∷ refuses 1 "P6 0 1 255 " [] 0
    ∷ refuses 1 "P6 1 0 255 " [] 0
    ∷ refuses 1 "P6 1025 1 255 " [] 6
    ∷ refuses 1 "P6 1 1025 255 " [] 6
    ∷ refuses 1 "P6 513 512 255 " [] 6
    ∷ refuses 13 "P6 1024 256 255 " [] 6
    -- 12: the maximum, its digits as far as they go
    ∷ refuses 12 "P6 2 1 65535 " two 6
    ∷ refuses 12 "P6 2 1 0 " two 6
    ∷ refuses 12 "P6 2 1 254 " two 6
    ∷ refuses 12 "P6 2 1 256 " two 6
    ∷ refuses 12 "P6 2 1 2550 " two 6
    -- 13: pixels short, bytes left over, a second picture
    ∷ refuses 13 "P6 2 1 255 " short 6
    ∷ refuses 13 "P6 2 1 255 " over 6
    ∷ refuses 13 "P6 2 1 255 " (two ++ bytes "P6 2 1 255 " ++ two) 6
    -- 4: the lent frame
    ∷ unfit 5
    ∷ unfit 7
    -- two faults at once
    ∷ refuses 11 "P5 0 1 255 " [] 0
    ∷ refuses 11 "P5 2 1 254 " two 6
    ∷ refuses 11 "P5 2 1 255 " short 6
    ∷ refuses 11 "P5 2 1 255 " two 5
    ∷ refuses 1 "P6 0 1 254 " [] 0
    ∷ refuses 1 "P6 0 1 255 " two 0
    ∷ refuses 1 "P6 0 1 255 " [] 6
    ∷ refuses 12 "P6 2 1 254 " short 6
    ∷ refuses 12 "P6 2 1 254 " two 5
    ∷ refuses 13 "P6 2 1 255 " short 5
    -- write: the whole file, and the text for more digits
    ∷ writes (sized 2 1) two 17 (0 ∷ bytes "P6\n2 1\n255\n" ++ two)
    ∷ writes (sized 1 2) two 17 (0 ∷ bytes "P6\n1 2\n255\n" ++ two)
    ∷ begins 10 99 "P6\n10 99\n255\n" 2983
    ∷ begins 1024 100 "P6\n1024 100\n255\n" 307216
    -- 1, 3 and 4, each alone
    ∷ write_no 1024 256 786432 786448 0
    ∷ write_no 1025 1 3075 3089 1
    ∷ write_no 0 1 0 11 1
    ∷ write_no 2 1 5 17 3
    ∷ write_no 2 1 7 17 3
    ∷ write_no 2 1 6 16 4
    ∷ write_no 2 1 6 18 4
    -- and two at once
    ∷ write_no 0 1 6 11 1
    ∷ write_no 0 1 0 0 1
    ∷ write_no 2 1 5 16 3
    -- a refused write; no length of a size that is refused
    ∷ writes (sized 2 1) two 16 (4 ∷ lent 16)
    ∷ writes (sized 2 1) short 17 (3 ∷ lent 17)
    ∷ record { got = map (λ (z : Size). length_for z) (sized 0 1 ∷ sized 1 1025 ∷ []); want = 0 ∷ 0 ∷ [] }
    ∷ []
