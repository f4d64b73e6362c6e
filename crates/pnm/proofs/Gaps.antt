-- A gap in front of a byte that is neither white nor `#` is taken whole, and so are digits in front of a byte that is no digit. Assumes nothing.
use mathlib.Core.Path.{◌≡◌, refl, sym, ◌∙◌}
use mathlib.Core.Bool.{Bool, true, false, cond, not, ◌||◌, or-true, true≢false}
use mathlib.Core.List.{List, [], ◌∷◌, ◌++◌, append_assoc}
use Prim.Native.Nat.{ℕ, suc, ◌+◌, ◌<◌}
use native.Mathlib.Omega.{arith}
use lib.Dec.{leb}
use lib.ListN.{length, length-append}
use borrow.Author.Tests.{ne_eqb, leb-true}
use Rattle.fields.proofs.Every.{both}
use Rattle.fields.proofs.Decimal.{figured_some, figured_digits}
use Rattle.fields.specs.Decimal.{digit, digits, figured}
use Rattle.pnm.specs.Header.{ends, white, opens, gap_in, run}
use Rattle.pnm.specs.Gap.{comment, alone, piece, pieces, joined, Gap}

-- ---- gaps

module _ (t : List ℕ) where
  comment_in : (c : List ℕ) → comment c ≡ true → gap_in true (c ++ t) ≡ length c + gap_in false t
  comment_in [] e = absurd (true≢false (sym e))
  comment_in (b ∷ []) e = rw e (omega arith)
  comment_in (b ∷ c ∷ bs) e =
      let more = both (not (ends b)) (comment (c ∷ bs)) e in
      let next = comment_in (c ∷ bs) more.1 in
      rw more.0 (omega arith)

  alone_in : (b : ℕ) (bs : List ℕ) → opens b ≡ false → alone b bs ≡ true → gap_in false (b ∷ bs ++ t) ≡ suc (length bs) + gap_in false t
  alone_in b [] o e = rw (e, o) (omega arith)
  alone_in b (c ∷ bs) o e = absurd (true≢false (sym e))

  piece_in : (p : List ℕ) → piece p ≡ true → gap_in false (p ++ t) ≡ length p + gap_in false t
  piece_in [] e = absurd (true≢false (sym e))
  piece_in (b ∷ bs) e = go (opens b) refl e
    where
      go : (o : Bool) → opens b ≡ o → cond o (comment bs) (alone b bs) ≡ true → gap_in false (b ∷ bs ++ t) ≡ suc (length bs) + gap_in false t
      go true o f = let more = comment_in bs f in rw (o, or-true) (omega arith)
      go false o f = alone_in b bs o f

pieces_in : (t : List ℕ) (ps : List (List ℕ)) → pieces ps ≡ true → gap_in false (joined ps ++ t) ≡ length (joined ps) + gap_in false t
pieces_in t [] e = omega arith
pieces_in t (p ∷ ps) e =
    let more = both (piece p) (pieces ps) e in
    let next = pieces_in t ps more.1 in
    let here = piece_in (joined ps ++ t) p more.0 in
    rw append_assoc (omega (arith, length-append p (joined ps)))

-- t does not go on with the gap
pub gap_taken : {g : List ℕ} (t : List ℕ) → Gap g → gap_in false t ≡ 0 → gap_in false (g ++ t) ≡ length g
gap_taken t gap stop = rw gap.is (let all = pieces_in t gap.made gap.all in omega arith)

pub gap_whole : {g : List ℕ} (b : ℕ) (rest : List ℕ) → Gap g → (white b || opens b) ≡ false → gap_in false (g ++ b ∷ rest) ≡ length g
gap_whole b rest gap e = gap_taken (b ∷ rest) gap (rw e)

pub gap_some : {g : List ℕ} → Gap g → 0 < length g
gap_some gap = rw gap.is (go gap.made gap.all gap.some)
  where
    go : (ps : List (List ℕ)) → pieces ps ≡ true → 0 < length ps → 0 < length (joined ps)
    go [] e h = h
    go ([] ∷ ps) e h = absurd (true≢false (sym e))
    go ((b ∷ bs) ∷ ps) e h = omega arith

-- ---- digits

run_in : (t d : List ℕ) → digits d ≡ true → run (d ++ t) ≡ length d + run t
run_in t [] e = omega arith
run_in t (b ∷ d) e =
    let more = both (digit b) (digits d) e in
    let next = run_in t d more.1 in
    rw more.0 (omega arith)

-- t begins with no digit
pub run_taken : (d t : List ℕ) → digits d ≡ true → run t ≡ 0 → run (d ++ t) ≡ length d
run_taken d t e stop = let all = run_in t d e in omega arith

pub run_whole : (d : List ℕ) (b : ℕ) (rest : List ℕ) → digits d ≡ true → digit b ≡ false → run (d ++ b ∷ rest) ≡ length d
run_whole d b rest e f = run_taken d (b ∷ rest) e (rw f)

-- ---- a number ends a gap, and a gap or a white byte ends a number

pub digit_no_gap : (b : ℕ) → digit b ≡ true → (white b || opens b) ≡ false
digit_no_gap b e =
    let low = leb-true 48 b (both (leb 48 b) (leb b 57) e).0 in
    rw (ne_eqb b 32 (omega arith), ne_eqb b 9 (omega arith), ne_eqb b 13 (omega arith), ne_eqb b 10 (omega arith), ne_eqb b 35 (omega arith))

pub gap_no_digit : (b : ℕ) → (white b || opens b) ≡ true → digit b ≡ false
gap_no_digit b e = go (digit b) refl
  where
    go : (d : Bool) → digit b ≡ d → d ≡ false
    go true f = absurd (true≢false (sym e ∙ digit_no_gap b f))
    go false f = refl

pub number_ends_gap : (d t : List ℕ) → figured d ≡ true → gap_in false (d ++ t) ≡ 0
number_ends_gap d t e = go d (figured_some d e) (figured_digits d e)
  where
    go : (d : List ℕ) → 0 < length d → digits d ≡ true → gap_in false (d ++ t) ≡ 0
    go [] h f = absurd (let z : ⊥ = omega arith in z)
    go (b ∷ d) h f = rw (digit_no_gap b (both (digit b) (digits d) f).0)

pub white_ends_number : (b : ℕ) (t : List ℕ) → white b ≡ true → run (b ∷ t) ≡ 0
white_ends_number b t e = rw (gap_no_digit b (rw e))

piece_ends_number : (p t : List ℕ) → piece p ≡ true → run (p ++ t) ≡ 0
piece_ends_number [] t e = absurd (true≢false (sym e))
piece_ends_number (b ∷ bs) t e = rw (gap_no_digit b (go (opens b) bs e))
  where
    go : (o : Bool) (cs : List ℕ) → cond o (comment cs) (alone b cs) ≡ true → (white b || o) ≡ true
    go true cs f = or-true (white b)
    go false [] f = rw f
    go false (c ∷ cs) f = absurd (true≢false (sym f))

pub gap_ends_number : {g : List ℕ} (t : List ℕ) → Gap g → run (g ++ t) ≡ 0
gap_ends_number t gap = rw gap.is (go gap.made gap.all gap.some)
  where
    go : (ps : List (List ℕ)) → pieces ps ≡ true → 0 < length ps → run (joined ps ++ t) ≡ 0
    go [] e h = absurd (let z : ⊥ = omega arith in z)
    go (p ∷ ps) e h = rw append_assoc (piece_ends_number p (joined ps ++ t) (both (piece p) (pieces ps) e).0)
