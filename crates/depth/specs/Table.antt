-- Relative depth: the table of thresholds by its rule, and the depth of a transmission. Assumes nothing.
use Rattle.std.specs.Prelude.{cond, List, [], ◌∷◌, ℕ, zero, suc, ◌*◌, ◌/◌, leb}
use Rattle.rules.specs.Window.{from}

-- 99/100, rounded down
abbrev pub step : ℕ → ℕ
step x = x * 99 / 100

-- x and what follows it, each a step from the one before, up to and with the first that is at most 100,000; at most n steps
abbrev pub chain : ℕ → ℕ → List ℕ
chain zero x = x ∷ []
chain (suc n) x = x ∷ cond (leb x 100000) [] (chain n (step x))

-- 1,000 steps are more than the rule takes: the last entry is at most 100,000 (law `last`)
unfoldable pub thresholds : List ℕ
thresholds = chain 1000 1000000000

-- the first place of a list whose entry is at most m, the list's length where there is none
abbrev pub place : ℕ → List ℕ → ℕ
place m [] = 0
place m (x ∷ xs) = cond (leb x m) 0 (suc (place m xs))

-- no entry of the table is at most 0, so the depth of 0 is the table's length
unfoldable pub depth_of : ℕ → ℕ
depth_of t = place (100000 * t) thresholds

-- the depth of each entry that a map may have, 0 to 10,000
unfoldable pub every_depth : List ℕ
every_depth = from 0 10001 depth_of
