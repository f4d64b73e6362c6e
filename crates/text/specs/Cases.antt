-- The paper's whole example, and texts that are refused: inputs, and what the paper says to them. Assumes nothing.
use Prim.Native.String.{String}
use Rattle.std.specs.Prelude.{List, [], ◌∷◌}

-- an input and the paper's answer to it
pub record Row : Type 0 where
  pub input : String
  pub want : String

abbrev asked : String → String → Row
asked input want = record { input = input; want = want }

unfoldable pub table : List Row
table =
    -- case P2
    asked "size\t2\t1\nset\t0\t0\t9500\t59\t1000\t1\npx\t200\t200\t200\npx\t100\t150\t180\n" "light\t200\t200\t200\nout\t500\t200\t200\t200\nout\t5250\t10\t105\t162\n"
    -- a missing line, a line that is not ended, an empty line
    ∷ asked "" "bad\t9\t1\n"
    ∷ asked "\n" "bad\t9\t1\n"
    ∷ asked "size\t0\t0" "bad\t9\t1\n"
    ∷ asked "size\t1\t1\n" "bad\t9\t2\n"
    ∷ asked "size\t1\t1\n\n" "bad\t9\t2\n"
    ∷ asked "size\t1\t1\nset\t0\t0\t9500\t59\t1000\t1\n" "bad\t9\t3\n"
    ∷ asked "size\t1\t1\nset\t0\t0\t9500\t59\t1000\t1\npx\t0\t0\t0" "bad\t9\t3\n"
    -- numbers: a leading zero, seven digits, none, a sign, too many, a carriage return
    ∷ asked "size\t01\t1\n" "bad\t9\t1\n"
    ∷ asked "size\t1000000\t1\n" "bad\t9\t1\n"
    ∷ asked "size\t\t1\n" "bad\t9\t1\n"
    ∷ asked "size\t+1\t1\n" "bad\t9\t1\n"
    ∷ asked "size\t1\t1\t1\n" "bad\t9\t1\n"
    ∷ asked "size\t1\t1\r\n" "bad\t9\t1\n"
    ∷ asked "size\t1\t1\nset\t0\t0\t9500\t59\t1000\t1\t1\t255\n" "bad\t9\t2\n"
    ∷ asked "size\t1\t1\nset\t0\t0\t9500\t59\t1000\t1\npx\t0\t256\t0\n" "bad\t9\t3\n"
    -- 1 comes before 10, and both before the lines that follow; 2 before missing pixels
    ∷ asked "size\t0\t25\n" "bad\t1\t1\n"
    ∷ asked "size\t25\t1\n" "bad\t10\t1\n"
    ∷ asked "size\t1\t25\n" "bad\t10\t1\n"
    ∷ asked "size\t1\t1025\n" "bad\t1\t1\n"
    ∷ asked "size\t1\t1\nset\t31\t0\t9500\t59\t1000\t1\n" "bad\t2\t2\n"
    -- a byte after the last record
    ∷ asked "size\t1\t1\nset\t0\t0\t9500\t59\t1000\t1\npx\t0\t0\t0\n\n" "bad\t9\t4\n"
    ∷ asked "size\t1\t1\nset\t0\t0\t9500\t59\t1000\t1\npx\t0\t0\t0\nx" "bad\t9\t4\n"
    -- case P4: black
    ∷ asked "size\t1\t1\nset\t0\t0\t9500\t59\t1000\t1\npx\t0\t0\t0\n" "light\t1\t1\t1\nout\t10000\t0\t0\t0\n"
    ∷ []
