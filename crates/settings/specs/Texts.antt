-- A text of settings: what is well formed, and where a name's value stands. A line is given without its line end. Assumes nothing.
use Rattle.std.specs.Prelude.{Bool, true, false, cond, ◌&&◌, List, [], ◌∷◌, ℕ, suc, ◌+◌, Option, Some, None, is_some}
use Rattle.fields.specs.declared.Class.{Class}
use Rattle.fields.specs.declared.Class.TheVariants.{Digit, Lower, Tab, LineEnd, Other}
use Rattle.fields.specs.Words.{bytes}
use Rattle.fields.specs.Bytes.{class_of}
use Rattle.fields.specs.Every.{up_to}
use Rattle.fields.specs.Fields.{split, field_of, field_at, same}
use Rattle.fields.specs.LaidOut.{laid}

-- ---- what is well formed

-- a lower-case letter or a digit
abbrev pub in_word : Class → Bool
in_word Digit = true
in_word Lower = true
in_word Tab = false
in_word LineEnd = false
in_word Other = false

abbrev pub letter : ℕ → Bool
letter b = in_word (class_of b)

-- a name or a value: 1 to 16 of them
unfoldable pub word : List ℕ → Bool
word s = up_to 16 letter s

-- `keep`, name, value, parted by one tab
abbrev pub kept : List ℕ → Bool
kept line = laid word (bytes "keep") 2 line

-- of the parts between the line ends each is such a line but the last, which has no line end and is empty
abbrev pub good_lines : List (List ℕ) → Bool
good_lines [] = true
good_lines (l ∷ []) = same l []
good_lines (l ∷ m ∷ ls) = kept l && good_lines (m ∷ ls)

unfoldable pub good : List ℕ → Bool
good text = good_lines (split 10 text)

-- ---- the first line with a name, by its number; the last part is no line

abbrev pub had : Option ℕ → Bool
had n = is_some n

abbrev pub seek : ℕ → List (List ℕ) → List ℕ → Option ℕ
seek k [] name = None
seek k (l ∷ []) name = None
seek k (l ∷ m ∷ ls) name = cond (same (field_of 9 l 1) name) (Some k) (seek (suc k) (m ∷ ls) name)

unfoldable pub first_with : List ℕ → List ℕ → Option ℕ
first_with text name = seek 0 (split 10 text) name

-- the value of line k, and where it begins in the text
abbrev pub value_in : List ℕ → ℕ → List ℕ
value_in text k = field_of 9 (field_of 10 text k) 2

abbrev pub value_at : List ℕ → ℕ → ℕ
value_at text k = field_at 9 (field_of 10 text k) 2 + field_at 10 text k
