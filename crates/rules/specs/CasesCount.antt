-- Rows of the number of comparisons, as `Cases` has those of document 01: what the definition gives, and what is wanted. The wanted values are those of the
-- independent second program. Assumes nothing.
use Rattle.std.specs.Prelude.{ℕ, true, false, List, [], ◌∷◌, map, replicate}
use Rattle.rules.specs.declared.Settings.{Settings}
use Rattle.rules.specs.declared.Rect.{Rect}
use Rattle.rules.specs.Setup.{handed}
use Rattle.rules.specs.Count.{comparisons, samples, frame_comparisons, replace_comparisons}
use Rattle.rules.specs.Cases.{Row, shape, size, radii, rgb, nats, rect}

-- ---- what the rows are written with

-- lines of these lengths, at one radius
abbrev lines : ℕ → List ℕ → List ℕ
lines s l = map (λ n. comparisons s (samples n)) l

-- Replace in a frame of 40 by 30; neither light nor mask has a part in it
abbrev put : Rect → Settings → ℕ
put c k = replace_comparisons (handed (size 40 30) k (rgb 1 1 1) []) c

-- ---- the table, its numbers going on from those of `CasesMask`

unfoldable pub count_table : List Row
count_table =
    -- one sample, 2s, 2s + 1 and 2s + 2 of them, and on; the last block shorter than s, of s, and longer
    record { no = 53; got = nats (lines 7 (1 ∷ 2 ∷ 14 ∷ 15 ∷ 16 ∷ 17 ∷ 22 ∷ 23 ∷ 29 ∷ 30 ∷ 31 ∷ 45 ∷ 52 ∷ 100 ∷ [])); want = nats (0 ∷ 2 ∷ 26 ∷ 28 ∷ 36 ∷ 39 ∷ 54 ∷ 56 ∷ 68 ∷ 70 ∷ 78 ∷ 112 ∷ 138 ∷ 270 ∷ []) }
    ∷ record { no = 53; got = nats (lines 1 (1 ∷ 2 ∷ 3 ∷ 4 ∷ 5 ∷ 6 ∷ 7 ∷ 8 ∷ 9 ∷ 10 ∷ 640 ∷ [])); want = nats (0 ∷ 2 ∷ 4 ∷ 6 ∷ 8 ∷ 10 ∷ 12 ∷ 14 ∷ 16 ∷ 18 ∷ 1278 ∷ []) }
    ∷ record { no = 53; got = nats (lines 30 (1 ∷ 30 ∷ 60 ∷ 61 ∷ 62 ∷ 91 ∷ 92 ∷ 122 ∷ 123 ∷ 200 ∷ [])); want = nats (0 ∷ 58 ∷ 118 ∷ 120 ∷ 151 ∷ 238 ∷ 240 ∷ 300 ∷ 331 ∷ 559 ∷ []) }
    -- radius 0 takes none
    ∷ record { no = 54; got = nats (lines 0 (1 ∷ 2 ∷ 3 ∷ 100 ∷ [])); want = nats (0 ∷ 0 ∷ 0 ∷ 0 ∷ []) }
    -- any list as long takes as many
    ∷ record { no = 55; got = nats (comparisons {A = ℕ} 2 (replicate 12 9) ∷ comparisons 2 (true ∷ false ∷ true ∷ true ∷ false ∷ true ∷ []) ∷ []); want = nats (26 ∷ 11 ∷ []) }
    -- all rows, then all columns: of one sample, of one row, of one column, and more
    ∷ record { no = 56; got = nats (frame_comparisons (shape 1 1) 3 ∷ frame_comparisons (shape 9 1) 2 ∷ frame_comparisons (shape 1 9) 2 ∷ frame_comparisons (shape 4 3) 1 ∷ frame_comparisons (shape 23 17) 4 ∷ frame_comparisons (shape 40 30) 0 ∷ []); want = nats (0 ∷ 18 ∷ 18 ∷ 34 ∷ 1826 ∷ 0 ∷ []) }
    -- Replace in a frame of 40 by 30: the part about the rectangle in the middle, cut at one corner, at another, at one side, not smaller than the frame, at s = 0, and cut at all sides
    ∷ record { no = 57; got = nats (put (rect 20 14 2 3) (radii 1 2) ∷ put (rect 0 0 1 1) (radii 1 2) ∷ put (rect 38 29 2 1) (radii 2 1) ∷ put (rect 5 12 4 1) (radii 3 0) ∷ put (rect 0 0 40 30) (radii 1 0) ∷ put (rect 17 3 1 2) (radii 0 5) ∷ put (rect 30 20 3 3) (radii 2 9) ∷ []); want = nats (1934 ∷ 440 ∷ 360 ∷ 862 ∷ 4660 ∷ 0 ∷ 5480 ∷ []) }
    ∷ []
