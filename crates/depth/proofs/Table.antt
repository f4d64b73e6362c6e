-- The table's rule at every neighbouring pair, by one test that is computed over the whole table; and what follows from the rule: the table never rises, and
-- its entry k is k steps from the first. Assumes nothing.
use mathlib.Core.Path.{◌≡◌, refl, sym, ap, ◌∙◌, subst}
use mathlib.Core.Bool.{Bool, true, ◌&&◌}
use mathlib.Core.List.{List, [], ◌∷◌}
use Prim.Native.Nat.{ℕ, zero, suc, ◌+◌, ◌-◌, ◌≤◌, ◌<◌}
use native.Mathlib.Nat.{le_of_suc-le-suc, not-suc-le-zero, le_refl, zero-add, suc-add}
use native.Mathlib.Omega.{arith}
use lib.Dec.{T, leb, eqb, eqb→eq, leb→le}
use lib.ListN.{length, get_or}
use lib.Ieee.Fits.{and_l, and_r}
use Rattle.depth.specs.Table.{step, thresholds}
use Rattle.depth.proofs.Place.{Falling}

-- ---- the rule

-- what may follow x: nothing after an entry of at most 100,000, a step from x after any other
abbrev follows : ℕ → List ℕ → Bool
follows x [] = leb x 100000
follows x (y ∷ ys) = eqb y (step x) && leb 100001 x

abbrev linked : List ℕ → Bool
linked [] = true
linked (x ∷ xs) = follows x xs && linked xs

linked_at : (xs : List ℕ) → T (linked xs) → (k : ℕ) → suc k < length xs → (get_or xs (suc k) 0 ≡ step (get_or xs k 0)) × (100000 < get_or xs k 0)
linked_at [] t k h = absurd (not-suc-le-zero h)
linked_at (x ∷ []) t k h = absurd (not-suc-le-zero (le_of_suc-le-suc h))
linked_at (x ∷ (y ∷ ys)) t zero h =
    let f = and_l (follows x (y ∷ ys)) (linked (y ∷ ys)) t in
    (eqb→eq y (step x) (and_l (eqb y (step x)) (leb 100001 x) f), leb→le 100001 x (and_r (eqb y (step x)) (leb 100001 x) f))
linked_at (x ∷ (y ∷ ys)) t (suc k) h = linked_at (y ∷ ys) (and_r (follows x (y ∷ ys)) (linked (y ∷ ys)) t) k (le_of_suc-le-suc h)

pub count : length thresholds ≡ 918
unfolding thresholds
count = refl

abbrev pub entry : ℕ → ℕ
entry k = get_or thresholds k 0

pub first : entry 0 ≡ 1000000000
unfolding thresholds
first = refl

pub last : entry 917 ≡ 99371
unfolding thresholds
last = refl

-- each entry is 99/100 of the one before, rounded down, and only the last is at most 100,000
pub rule : (k : ℕ) → suc k < 918 → (entry (suc k) ≡ step (entry k)) × (100000 < entry k)
unfolding thresholds
rule k h = linked_at thresholds tt k (subst (λ (n : ℕ). suc k < n) (sym count) h)

-- ---- what follows

falls_by : (d j : ℕ) → d + j < 918 → entry (d + j) ≤ entry j
falls_by zero j h = rw (zero-add j) (le_refl _)
falls_by (suc d) j h =
    let r = (rule (d + j) (omega arith)).0 in
    let i = falls_by d j (omega arith) in
    rw (suc-add d j) (omega arith)

pub falling : Falling thresholds
falling j k h l =
    let e : k - j + j ≡ k = omega arith in
    subst (λ (i : ℕ). entry i ≤ entry j) e (falls_by (k - j) j (omega (arith, count)))

-- k steps from x
abbrev pub stepped : ℕ → ℕ → ℕ
stepped zero x = x
stepped (suc k) x = step (stepped k x)

pub steps : (k : ℕ) → k < 918 → entry k ≡ stepped k 1000000000
steps zero h = first
steps (suc k) h = (rule k h).0 ∙ ap step (steps k (omega arith))
