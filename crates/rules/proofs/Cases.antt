-- P1 to P11 and our own rows: one statement over the whole table, one over the rows under a mask and one over those of the comparisons. Each is computed as one test, which is quick to see that
-- a wrong definition fails it, and the test means that each row has what is wanted. Assumes nothing.
use mathlib.Core.Path.{◌≡◌, refl, sym, ap, ap₂}
use mathlib.Core.Bool.{Bool, true, false, ◌&&◌, true≢false}
use mathlib.Core.List.{List, [], ◌∷◌, map}
use lib.Dec.{eqb}
use lib.IntN.{ℤ, pos, negsuc}
use borrow.Author.Tests.{eqb-true}
use Rattle.rules.proofs.Near.{apart}
use lib.Ieee.{div, of_int, to_bits}
use Rattle.rules.specs.Window.{square, window}
use Rattle.rules.specs.Light.{dark, rank, candidates, light}
use Rattle.rules.specs.Transmission.{coarse, sample, line, fit, refine, refined, map_entry}
use Rattle.rules.specs.Picture.{recover, recover3, cleared, haze3, quotient, figure}
use Rattle.rules.specs.Buffers.{pixels, seen_in, masked, bytes, values, entries, near, patch, placed, hazed, clear, replace}
use Rattle.rules.specs.Refusals.{bad_size, bad_settings, bad_frame, bad_map, bad_mask, bad_work, bad_light, bad_rect, bad_band, bad_new, bad_entries, bad_seen, refuse_light, refuse_clear, refuse_replace, refuse_haze, refuse_band}
use Rattle.rules.specs.Cases.{Row, table}
use Rattle.rules.specs.CasesMask.{mask_table}
use Rattle.rules.specs.Count.{blocks_in, in_blocks, crossing, tally, comparisons, samples, frame_comparisons}
use Rattle.rules.specs.CasesCount.{count_table}

-- ---- a row that agrees has what is wanted: a test that is computed, and what it means

abbrev same : ℤ → ℤ → Bool
same (pos n) (pos m) = eqb n m
same (pos n) (negsuc m) = false
same (negsuc n) (pos m) = false
same (negsuc n) (negsuc m) = eqb n m

abbrev alike : List ℤ → List ℤ → Bool
alike [] [] = true
alike [] (j ∷ m) = false
alike (i ∷ l) [] = false
alike (i ∷ l) (j ∷ m) = same i j && alike l m

abbrev agree : List Row → Bool
agree [] = true
agree (c ∷ t) = alike c.got c.want && agree t

same_is : (i j : ℤ) → same i j ≡ true → i ≡ j
same_is (pos n) (pos m) e = ap pos (eqb-true n m e)
same_is (pos n) (negsuc m) e = absurd (true≢false (sym e))
same_is (negsuc n) (pos m) e = absurd (true≢false (sym e))
same_is (negsuc n) (negsuc m) e = ap negsuc (eqb-true n m e)

alike_is : (l m : List ℤ) → alike l m ≡ true → l ≡ m
alike_is [] [] e = refl
alike_is [] (j ∷ m) e = absurd (true≢false (sym e))
alike_is (i ∷ l) [] e = absurd (true≢false (sym e))
alike_is (i ∷ l) (j ∷ m) e = let t = apart (same i j) (alike l m) e in ap₂ (λ (a : ℤ) (b : List ℤ). a ∷ b) (same_is i j t.0) (alike_is l m t.1)

agree_is : (t : List Row) → agree t ≡ true → map (λ (c : Row). c.got) t ≡ map (λ (c : Row). c.want) t
agree_is [] e = refl
agree_is (c ∷ t) e =
    let h = apart (alike c.got c.want) (agree t) e in
    ap₂ (λ (a : List ℤ) (b : List (List ℤ)). a ∷ b) (alike_is c.got c.want h.0) (agree_is t h.1)

-- ---- the two tables

computed : agree table ≡ true
unfolding table window square dark rank candidates light coarse sample line fit refine refined map_entry recover recover3 cleared haze3 quotient figure pixels seen_in masked bytes values entries near patch placed hazed clear replace div of_int to_bits bad_size bad_settings bad_frame bad_map bad_mask bad_work bad_light bad_rect bad_band bad_new bad_entries bad_seen refuse_light refuse_clear refuse_replace refuse_haze refuse_band
computed = refl

computed_masked : agree mask_table ≡ true
unfolding mask_table window square dark rank candidates light coarse sample line fit refine refined map_entry recover recover3 cleared pixels seen_in masked bytes values entries near patch placed clear replace bad_size bad_settings bad_frame bad_map bad_mask bad_work bad_light bad_rect bad_new bad_seen refuse_light refuse_clear refuse_replace
computed_masked = refl

computed_counts : agree count_table ≡ true
unfolding count_table blocks_in in_blocks crossing tally comparisons samples frame_comparisons
computed_counts = refl

pub cases : map (λ (c : Row). c.got) table ≡ map (λ (c : Row). c.want) table
cases = agree_is table computed

pub cases_masked : map (λ (c : Row). c.got) mask_table ≡ map (λ (c : Row). c.want) mask_table
cases_masked = agree_is mask_table computed_masked

pub cases_counted : map (λ (c : Row). c.got) count_table ≡ map (λ (c : Row). c.want) count_table
cases_counted = agree_is count_table computed_counts
