-- Steps of the reader of a header: what its calls answer, and which answer that comes to. Assumes nothing.
use mathlib.Core.Path.{◌≡◌, refl, ap}
use mathlib.Core.Bool.{Bool, true, false, cond, not, ◌&&◌, ◌||◌}
use mathlib.Core.List.{List, [], ◌∷◌}
use Prim.Native.Nat.{ℕ, suc, ◌+◌, ◌≤◌, ◌<◌}
use native.Mathlib.Numerals.{add-one}
use native.Mathlib.Omega.{arith}
use lib.Dec.{leb, eqb}
use lib.ListN.{length, get_or, drop, length-drop}
use borrow.Author.Tests.{lt-ltb, le-ltb, leb-true}
use Rattle.fields.proofs.Every.{both}
use Rattle.fields.specs.Decimal.{digit, figured, digits_of, value_from}
use Rattle.std.specs.Prelude.{Some, None, option_map}
use Rattle.pnm.specs.declared.Token.{Token}
use Rattle.pnm.specs.Header.{ends, white, opens, gap_in, run, from, figures, past, number, token, token_at, magic, closed, good, header_of}

-- ---- a count is of bytes that are there

most : (b : Bool) (n m : ℕ) → n ≤ m → cond b (suc n) 0 ≤ suc m
most true n m h = omega arith
most false n m h = omega arith

gap_most : (o : Bool) (s : List ℕ) → gap_in o s ≤ length s
gap_most true [] = omega arith
gap_most false [] = omega arith
gap_most true (b ∷ bs) = let h = gap_most (not (ends b)) bs in omega arith
gap_most false (b ∷ bs) = most (white b || opens b) _ _ (gap_most (opens b) bs)

run_most : (s : List ℕ) → run s ≤ length s
run_most [] = omega arith
run_most (b ∷ bs) = most (digit b) _ _ (run_most bs)

module _ (s : List ℕ) (at : ℕ) (h : at ≤ length s) where
  pub from_within : from s at ≤ length s
  unfolding from
  from_within = omega (arith, gap_most false (drop at s), length-drop at s)

  pub past_within : past s at ≤ length s
  unfolding past
  past_within = omega (arith, run_most (drop (from s at) s), length-drop (from s at) s, from_within)

-- ---- a number behind a gap

abbrev pub ending : ℕ → ℕ → Token
ending end value = record { value = value; end = end }

module _ (s : List ℕ) (at : ℕ) where
  pub no_gap : from s at ≡ at → None ≡ token_at s at
  unfolding token
  no_gap e = rw (le-ltb at (from s at) (omega arith))

  module _ (gap : from s at ≡ at → ⊥) where
    some : at < from s at
    unfolding from
    some = omega (arith, gap)

    -- the number is read of its digits
    pub gap_read : token_at s at ≡ option_map (ending (past s at)) (digits_of (figures s at))
    unfolding digits_of token
    gap_read = rw (lt-ltb at (from s at) some) (go (figured (figures s at)))
      where
        go : (b : Bool) → cond b (Some (ending (past s at) (number s at))) None ≡ option_map (ending (past s at)) (cond b (Some (value_from 0 (figures s at))) None)
        go true = refl
        go false = refl

  -- ---- what the answer of such a call tells

  pub record Told (t : Token) : Type 0 where
    pub good : token s at ≡ true
    pub value : number s at ≡ t.value
    pub end : past s at ≡ t.end

  pub told : (t : Token) → token_at s at ≡ Some t → Told t
  told t q = go (token s at) refl q
    where
      go : (b : Bool) → token s at ≡ b → cond b (Some (ending (past s at) (number s at))) None ≡ Some t → Told t
      go true g h =
          let same : ending (past s at) (number s at) ≡ t = cc in
          record { good = g; value = ap (λ (x : Token). x.value) same; end = ap (λ (x : Token). x.end) same }
      go false g h = absurd (let z : ◌≡◌ {A = ℕ} 0 1 = cc in let y : ⊥ = omega arith in y)

  pub told_bad : token_at s at ≡ None → token s at ≡ false
  told_bad q = go (token s at) q
    where
      go : (b : Bool) → cond b (Some (ending (past s at) (number s at))) None ≡ None → b ≡ false
      go true h = absurd (let z : ◌≡◌ {A = ℕ} 0 1 = cc in let y : ⊥ = omega arith in y)
      go false h = refl

-- what a reader of a number needs
pub ruleset reads = (from_within, past_within, no_gap, gap_read)

-- ---- the whole header

module _ (kind : ℕ) (s : List ℕ) where
  pub no_magic : magic kind s ≡ false → None ≡ header_of kind s
  unfolding header_of good
  no_magic m = rw m

  module _ (m : magic kind s ≡ true) where
    -- there is room for the magic
    pub two : 2 ≤ length s
    unfolding magic
    two = leb-true 2 (length s) (both (leb 2 (length s)) _ (both (leb 2 (length s) && eqb (get_or s 0 0) 80) _ m).0).0

    pub no_first : token s 2 ≡ false → None ≡ header_of kind s
    unfolding header_of good
    no_first t = rw (m, t)

    module _ {w : Token} (first : Told s 2 w) where
      pub no_second : token s w.end ≡ false → None ≡ header_of kind s
      unfolding header_of good
      no_second t = rw (m, first.good, first.end, t)

      module _ {h : Token} (next : Told s w.end h) where
        pub no_third : token s h.end ≡ false → None ≡ header_of kind s
        unfolding header_of good
        no_third t = rw (m, first.good, first.end, next.good, next.end, t)

        module _ {top : Token} (final : Told s h.end top) where
          pub no_close : closed s top.end ≡ false → None ≡ header_of kind s
          unfolding header_of good
          no_close t = rw (m, first.good, first.end, next.good, next.end, final.good, final.end, t)

          pub all_there : closed s top.end ≡ true → Some (record { width = w.value; height = h.value; maximum = top.value; start = top.end + 1 }) ≡ header_of kind s
          unfolding header_of good
          all_there t = rw (add-one top.end, m, first.good, first.end, first.value, next.good, next.end, next.value, final.good, final.end, final.value, t)

-- what a reader of a header needs
pub ruleset tells = (told, told_bad, two, no_magic, no_first, no_second, no_third, no_close, all_there)
