-- What may stand before a number of a header, as the request says it: pieces, each a white byte, or a `#` and a comment up to and with the next CR or LF; and a
-- header that is put together from such gaps. Assumes nothing.
use Rattle.std.specs.Prelude.{◌≡◌, ℕ, ◌<◌, Bool, true, false, cond, not, ◌&&◌, List, [], ◌∷◌, ◌++◌, length}
use Rattle.fields.specs.Decimal.{figured, value_from}
use Rattle.pnm.specs.Header.{ends, white, opens}

-- a comment behind its `#`: its last byte, and none before, is CR or LF
abbrev pub comment : List ℕ → Bool
comment [] = false
comment (b ∷ []) = ends b
comment (b ∷ c ∷ bs) = not (ends b) && comment (c ∷ bs)

abbrev pub alone : ℕ → List ℕ → Bool
alone b [] = white b
alone b (c ∷ bs) = false

abbrev pub piece : List ℕ → Bool
piece [] = false
piece (b ∷ bs) = cond (opens b) (comment bs) (alone b bs)

abbrev pub pieces : List (List ℕ) → Bool
pieces [] = true
pieces (p ∷ ps) = piece p && pieces ps

-- one piece after another
abbrev pub joined : List (List ℕ) → List ℕ
joined [] = []
joined (p ∷ ps) = p ++ joined ps

-- a gap: one or more pieces
pub record Gap (g : List ℕ) : Type 0 where
  pub made : List (List ℕ)
  pub is : g ≡ joined made
  pub all : pieces made ≡ true
  pub some : 0 < length made

-- the parts of a header: three gaps, three numbers, the byte that ends it
pub record Parts : Type 0 where
  pub gap1 : List ℕ
  pub wide : List ℕ
  pub gap2 : List ℕ
  pub tall : List ℕ
  pub gap3 : List ℕ
  pub top : List ℕ
  pub close : ℕ

pub record GoodParts (p : Parts) : Type 0 where
  pub gap1 : Gap p.gap1
  pub wide : figured p.wide ≡ true
  pub gap2 : Gap p.gap2
  pub tall : figured p.tall ≡ true
  pub gap3 : Gap p.gap3
  pub top : figured p.top ≡ true
  pub close : white p.close ≡ true

-- the header that they make up
abbrev pub header : ℕ → Parts → List ℕ
header kind p = 80 ∷ kind ∷ p.gap1 ++ p.wide ++ p.gap2 ++ p.tall ++ p.gap3 ++ p.top ++ p.close ∷ []

-- two headers that say the same numbers
pub record Alike (p q : Parts) : Type 0 where
  pub wide : value_from 0 p.wide ≡ value_from 0 q.wide
  pub tall : value_from 0 p.tall ≡ value_from 0 q.tall
  pub top : value_from 0 p.top ≡ value_from 0 q.top
