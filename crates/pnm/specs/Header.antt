-- The header of a binary Netpbm file: P and its kind's digit, then width, height and maximum, each after a gap, then one white byte. Places are counted from
-- 0. Every definition has a value on every list; `good` says where they mean something. Assumes nothing.
use Rattle.std.specs.Prelude.{ℕ, suc, ◌+◌, Bool, true, false, cond, not, ◌&&◌, ◌||◌, List, [], ◌∷◌, leb, ltb, eqb, length, get_or, take, drop, Option, Some, None}
use Rattle.fields.specs.Decimal.{digit, figured, value_from}
use Rattle.pnm.specs.declared.Head.{Head}
use Rattle.pnm.specs.declared.Token.{Token}

-- CR or LF
abbrev pub ends : ℕ → Bool
ends b = eqb b 13 || eqb b 10

-- blank, tab, CR or LF
abbrev pub white : ℕ → Bool
white b = eqb b 32 || eqb b 9 || ends b

-- `#`
abbrev pub opens : ℕ → Bool
opens b = eqb b 35

-- how many bytes at the front are white or in a comment, from its `#` to the next CR or LF; the first argument says whether a comment is open
abbrev pub gap_in : Bool → List ℕ → ℕ
gap_in inside [] = 0
gap_in true (b ∷ bs) = suc (gap_in (not (ends b)) bs)
gap_in false (b ∷ bs) = cond (white b || opens b) (suc (gap_in (opens b) bs)) 0

-- how many bytes at the front are digits
abbrev pub run : List ℕ → ℕ
run [] = 0
run (b ∷ bs) = cond (digit b) (suc (run bs)) 0

-- ---- a number behind a gap that begins at a place

-- where it begins
unfoldable pub from : List ℕ → ℕ → ℕ
from s at = at + gap_in false (drop at s)

-- its digits, as far as they go
unfoldable pub figures : List ℕ → ℕ → List ℕ
figures s at = take (run (drop (from s at) s)) (drop (from s at) s)

-- where it ends, and its value
unfoldable pub past : List ℕ → ℕ → ℕ
past s at = from s at + run (drop (from s at) s)

abbrev pub number : List ℕ → ℕ → ℕ
number s at = value_from 0 (figures s at)

-- the gap has a byte or more, the number 1 to 6 digits
unfoldable pub token : List ℕ → ℕ → Bool
token s at = ltb at (from s at) && figured (figures s at)

abbrev pub token_at : List ℕ → ℕ → Option Token
token_at s at = cond (token s at) (Some (record { value = number s at; end = past s at })) None

-- ---- the whole header

-- where the gaps before height and maximum begin, and where the maximum ends
abbrev pub second : List ℕ → ℕ
second s = past s 2

abbrev pub third : List ℕ → ℕ
third s = past s (second s)

abbrev pub last : List ℕ → ℕ
last s = past s (third s)

unfoldable pub magic : ℕ → List ℕ → Bool
magic kind s = leb 2 (length s) && eqb (get_or s 0 0) 80 && eqb (get_or s 1 0) kind

unfoldable pub closed : List ℕ → ℕ → Bool
closed s at = ltb at (length s) && white (get_or s at 0)

unfoldable pub good : ℕ → List ℕ → Bool
good kind s = magic kind s && token s 2 && token s (second s) && token s (third s) && closed s (last s)

-- width, height, maximum, and where the pixels begin
unfoldable pub header_of : ℕ → List ℕ → Option Head
header_of kind s =
    let head : Head = record { width = number s 2; height = number s (second s); maximum = number s (third s); start = suc (last s) } in
    cond (good kind s) (Some head) None

-- the number that each case says
abbrev pub head_said : Option Head → ℕ
head_said (Some head) = 0
head_said None = 11
