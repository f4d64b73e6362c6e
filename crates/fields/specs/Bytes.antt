-- The class of a byte, and what the reader makes of a line by the classes of its bytes. Assumes nothing.
use Rattle.std.specs.Prelude.{Bool, true, false, cond, ◌&&◌, List, [], ◌∷◌, ℕ, suc, leb, eqb, drop, Option, Some, None}
use Rattle.fields.specs.Every.{every}
use Rattle.fields.specs.declared.Class.{Class}
use Rattle.fields.specs.declared.Class.TheVariants.{Digit, Lower, Tab, LineEnd, Other}
use Rattle.fields.specs.declared.Line.{Line}

-- digit, lower-case letter, tab, line end or other
abbrev pub class_of : ℕ → Class
class_of b =
    cond (leb 48 b && leb b 57) Digit
    (cond (leb 97 b && leb b 122) Lower
    (cond (eqb b 9) Tab
    (cond (eqb b 10) LineEnd Other)))

-- the number of fields after a byte of the class
abbrev pub counted : Class → ℕ → ℕ
counted Digit n = n
counted Lower n = n
counted Tab n = suc n
counted LineEnd n = n
counted Other n = n

-- the reader's step on a byte of the class at place i, in field n: on with the line, its end, or none
abbrev pub on_class : Class → ℕ → ℕ → Option Line → Option Line
on_class Digit i n more = more
on_class Lower i n more = more
on_class Tab i n more = more
on_class LineEnd i n more = Some (record { end = i; fields = n })
on_class Other i n more = None

abbrev pub scan : List ℕ → ℕ → ℕ → Option Line
scan [] i n = None
scan (b ∷ bs) i n = on_class (class_of b) i n (scan bs (suc i) (counted (class_of b) n))

-- the line that begins at a place: its end and the number of its fields; none where it has a byte of the class other before its end, or no end
unfoldable pub line_of : List ℕ → ℕ → Option Line
line_of s at = scan (drop at s) at 1

-- ---- what no line of a text has

abbrev pub usual : Class → Bool
usual Digit = true
usual Lower = true
usual Tab = true
usual LineEnd = true
usual Other = false

abbrev pub plain : List ℕ → Bool
plain s = every (λ b. usual (class_of b)) s
