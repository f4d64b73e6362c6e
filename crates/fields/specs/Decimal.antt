-- Numbers in decimal: read, 1 to 6 digits, with leading zeros or without, and written. Assumes nothing.
use Rattle.std.specs.Prelude.{Bool, cond, not, ◌&&◌, List, [], ◌∷◌, ◌++◌, ℕ, zero, suc, ◌+◌, ◌-◌, ◌*◌, ◌/◌, ◌%◌, leb, ltb, eqb, length, get_or, Option, Some, None, unwrap_or}
use Rattle.fields.specs.Every.{every, up_to}

-- ---- read

abbrev pub digit : ℕ → Bool
digit b = leb 48 b && leb b 57

abbrev pub digits : List ℕ → Bool
digits s = every digit s

-- 1 to 6 digits
unfoldable pub figured : List ℕ → Bool
figured s = up_to 6 digit s

-- one digit, or more of which the first is not 0
abbrev pub led : List ℕ → Bool
led s = not (ltb 1 (length s) && eqb (get_or s 0 0) 48)

unfoldable pub numeral : List ℕ → Bool
numeral s = led s && figured s

abbrev pub value_from : ℕ → List ℕ → ℕ
value_from v [] = v
value_from v (b ∷ bs) = value_from (10 * v + (b - 48)) bs

-- zeros may lead
unfoldable pub digits_of : List ℕ → Option ℕ
digits_of s = cond (figured s) (Some (value_from 0 s)) None

-- no leading zero but 0 itself
unfoldable pub number_of : List ℕ → Option ℕ
number_of s = cond (numeral s) (Some (value_from 0 s)) None

-- the number, 0 where there is none
abbrev pub value_in : Option ℕ → ℕ
value_in n = unwrap_or n 0

-- ---- written

abbrev pub decimal_in : ℕ → ℕ → List ℕ
decimal_in zero n = []
decimal_in (suc most) n =
    let more = decimal_in most (n / 10) ++ ((48 + n % 10) ∷ []) in
    cond (ltb n 10) ((48 + n) ∷ []) more

-- a number has no more digits than one more than itself
unfoldable pub decimal : ℕ → List ℕ
decimal n = decimal_in (suc n) n
