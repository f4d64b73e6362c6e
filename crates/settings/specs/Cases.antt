-- Worked calls, as a table: what the definitions give, and what is wanted by the request's words. Assumes nothing.
use Rattle.std.specs.Prelude.{ℕ, List, [], ◌∷◌}
use Prim.Native.String.{String}
use Rattle.std.specs.Borrow.{Bor}
use Rattle.fields.specs.Words.{bytes}
use Rattle.settings.specs.Promise.{source_of, refusal_of, bytes_of, memory_of}

pub record Row : Type 0 where
  pub got : List ℕ
  pub want : List ℕ

-- a text that begins at the beginning of a block of memory
abbrev lent : ℕ → String → Bor (List ℕ)
lent block s = record { ref_ptr = (block, 0); now = bytes s }

-- field in block 1, house in block 2: the number, the block and the place of the part, and its bytes
abbrev asked : String → String → String → ℕ → ℕ → ℕ → String → Row
asked field house name number block place part =
    let f = lent 1 field in
    let h = lent 2 house in
    let s = source_of f.now h.now (bytes name) in
    let at = memory_of f h s in
    record {
      got = refusal_of f.now h.now (bytes name) ∷ at.0 ∷ at.1 ∷ bytes_of f.now h.now s;
      want = number ∷ block ∷ place ∷ bytes part;
    }

-- a refused call
abbrev refused : String → String → String → ℕ → Row
refused field house name number = asked field house name number 1 0 ""

unfoldable pub table : List Row
table =
    -- the field's before the house's, otherwise the house's; the first line counts
    asked "keep\tomega\t9000\n" "keep\tomega\t9500\n" "omega" 0 1 11 "9000"
    ∷ asked "keep\tr\t7\n" "keep\tr\t30\nkeep\tomega\t9500\n" "omega" 0 2 21 "9500"
    ∷ asked "keep\ta\t1\nkeep\ta\t2\n" "" "a" 0 1 7 "1"
    ∷ asked "" "keep\tb\tx\nkeep\ta\t1\nkeep\ta\t2\n" "a" 0 2 16 "1"
    ∷ asked "keep\tb\t1\nkeep\ta\t1\n" "" "a" 0 1 16 "1"
    -- a name as any, a value that is a name, a name that begins another
    ∷ asked "keep\tkeep\tkeep\n" "" "keep" 0 1 10 "keep"
    ∷ asked "keep\ta\tb\nkeep\tb\tc\n" "" "b" 0 1 16 "c"
    ∷ asked "keep\tab\t1\nkeep\ta\t2\n" "" "a" 0 1 17 "2"
    ∷ refused "keep\tab\t1\n" "" "a" 15
    -- 1 and 16 letters or digits, not 0, not 17
    ∷ asked "keep\tz9\t0\n" "" "z9" 0 1 8 "0"
    ∷ asked "keep\tabcdefghijklmnop\t0123456789abcdef\n" "" "abcdefghijklmnop" 0 1 22 "0123456789abcdef"
    ∷ refused "keep\tabcdefghijklmnopq\t1\n" "" "a" 9
    ∷ refused "keep\ta\t0123456789abcdefg\n" "" "a" 9
    ∷ refused "keep\t\t1\n" "" "a" 9
    ∷ refused "keep\ta\t\n" "" "a" 9
    ∷ refused "keep\ta\tB\n" "" "a" 9
    ∷ refused "keep\ta\t-1\n" "" "a" 9
    -- the layout of a line
    ∷ refused "keep\ta\n" "" "a" 9
    ∷ refused "keep\ta\t1\t\n" "" "a" 9
    ∷ refused "keep\t\ta\t1\n" "" "a" 9
    ∷ refused "kee\ta\t1\n" "" "a" 9
    ∷ refused "keep a\t1\n" "" "a" 9
    ∷ refused "keep\ta\t1\r\n" "" "a" 9
    ∷ refused "\n" "" "a" 9
    ∷ refused "keep\ta\t1\n\n" "" "a" 9
    ∷ refused "keep\ta\t1" "" "a" 9
    ∷ refused "keep\ta\t1\nkeep\tb\t2" "" "a" 9
    -- all lines of both texts are judged before the name
    ∷ refused "keep\ta\t1\n" "keep\tb\n" "a" 9
    ∷ refused "" "x" "a" 9
    ∷ refused "x" "" "" 9
    ∷ refused "keep\ta\t1\n" "x" "A" 9
    -- a name that neither has, an ill-formed one
    ∷ refused "" "" "a" 15
    ∷ refused "keep\ta\t1\n" "keep\tb\t2\n" "c" 15
    ∷ refused "keep\ta\t1\n" "keep\tb\t2\n" "" 15
    ∷ refused "keep\ta\t1\n" "" "A" 15
    ∷ refused "keep\tabcdefghijklmnop\t1\n" "" "abcdefghijklmnopq" 15
    ∷ []
