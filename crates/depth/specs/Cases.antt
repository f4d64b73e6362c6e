-- Worked depths and calls, as a table: what the definitions give, and what is wanted by the request's words. Assumes nothing.
use Rattle.std.specs.Prelude.{ℕ, List, [], ◌∷◌, map, replicate}
use Rattle.rules.specs.Promise.{unless}
use Rattle.depth.specs.Table.{depth_of}
use Rattle.depth.specs.Promise.{refuse_depths}

pub record Row : Type 0 where
  pub got : List ℕ
  pub want : List ℕ

-- the depth of t is d
abbrev deep : ℕ → ℕ → Row
deep t d = record { got = depth_of t ∷ []; want = d ∷ [] }

-- a call with n lent depths: its number, and what stands in them afterwards
abbrev call : ℕ → ℕ → List ℕ → ℕ → List ℕ → Row
call w h entries n want =
    let no = refuse_depths (record { w = w; h = h }) entries n in
    record { got = no ∷ unless no (map depth_of entries) (replicate n 7); want = want }

unfoldable pub table : List Row
table =
    -- the request's figures, and those on the other side of each
    deep 10000 0
    ∷ deep 9999 1
    ∷ deep 9900 1
    ∷ deep 9899 2
    ∷ deep 2 848
    ∷ deep 1 917
    ∷ deep 0 918
    ∷ deep 65535 0
    -- accepted
    ∷ call 2 1 (9900 ∷ 0 ∷ []) 2 (0 ∷ 1 ∷ 918 ∷ [])
    ∷ call 1 2 (10000 ∷ 1 ∷ []) 2 (0 ∷ 0 ∷ 917 ∷ [])
    -- refused: each number alone
    ∷ call 0 1 [] 0 (1 ∷ [])
    ∷ call 1 1025 [] 0 (1 ∷ [])
    ∷ call 2 1 (9900 ∷ []) 2 (4 ∷ 7 ∷ 7 ∷ [])
    ∷ call 2 1 (9900 ∷ 0 ∷ 0 ∷ []) 2 (4 ∷ 7 ∷ 7 ∷ [])
    ∷ call 2 1 (9900 ∷ 0 ∷ []) 1 (4 ∷ 7 ∷ [])
    ∷ call 2 1 (9900 ∷ 0 ∷ []) 3 (4 ∷ 7 ∷ 7 ∷ 7 ∷ [])
    ∷ call 2 1 (0 ∷ 10001 ∷ []) 2 (8 ∷ 7 ∷ 7 ∷ [])
    -- and two at once
    ∷ call 0 1 (9900 ∷ []) 1 (1 ∷ 7 ∷ [])
    ∷ call 0 1 (10001 ∷ []) 1 (1 ∷ 7 ∷ [])
    ∷ call 2 1 (10001 ∷ []) 2 (4 ∷ 7 ∷ 7 ∷ [])
    ∷ []
