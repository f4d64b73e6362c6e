-- The light by levels, counts and a cutoff is the light of the rules. Assumes nothing.
use mathlib.Core.Path.{◌≡◌, sym, ap, ap₂, ◌∙◌}
use mathlib.Core.Bool.{Bool, cond}
use mathlib.Core.List.{List}
use Prim.Native.Nat.{ℕ, ◌+◌, ◌*◌, ◌≤◌, ◌<◌}
use native.Mathlib.Omega.{arith}
use lib.Dec.{ltb, eqb}
use lib.ListN.{length, get_or}
use lib.IntN.{ℤ}
use Rattle.rules.specs.Shape.{described}
use Rattle.rules.specs.declared.Size.{Size}
use Rattle.rules.specs.declared.Settings.{Settings}
use Rattle.rules.specs.declared.Rgb.{Rgb}
use Rattle.rules.specs.Window.{Shown}
use Rattle.rules.specs.Light.{dark, at, places, m, before, rank, candidates, keep, guide, brightest, lifted, light}
use Rattle.rules.specs.Buffers.{pixel_at, masked}
use Rattle.rules.specs.Good.{AcceptedLight}
use Rattle.rules.proofs.Buffers.{at_masked}
use Rattle.rules.proofs.Good.{seen_good}
use Rattle.rules.proofs.Candidates.{m_le}
use Rattle.rules.proofs.Chosen.{places_of}
use Rattle.light.specs.declared.Cut.{Cut}
use Rattle.light.specs.Steps.{value, upto, hits, Tallied, CutAt, admitted, DarkPlane}
use Rattle.light.proofs.Positions.{count_cong, keep_cong}
use Rattle.light.proofs.Levels.{raised, first_by_level, level_none}
use Rattle.light.proofs.Counts.{by_counts}
use Rattle.light.proofs.Minima.{cond_not}
use Rattle.light.proofs.Areas.{value_level, levels}

-- ---- how many pixels are seen

abbrev pub seen_count : Size → List ℕ → List ℕ → ℕ
seen_count z mask frame = length (places (described z) (masked (described z) mask frame))

-- m is at most that
pub m_seen : (z : Size) (k : Settings) (mask frame : List ℕ) (n w : ℕ) → AcceptedLight z k mask n w → m (seen_count z mask frame) k ≤ seen_count z mask frame
m_seen z k mask frame n w a =
    m_le (seen_count z mask frame) k (places_of (described z) mask frame a.shown (seen_good mask a.some)) a.settings.share_most

-- levels that agree at n positions rank them alike
rank_cong : (n : ℕ) (d e : ℕ → ℕ) → ((o : ℕ) → o < n → d o ≡ e o) → (p : ℕ) → p < n → rank (upto n) d p ≡ rank (upto n) e p
unfolding rank
rank_cong n d e h p l = count_cong (λ o. before d o p) (λ o. before e o p) 0 n (λ o a b. rw (h p l, h o (omega arith)))

module _ (z : Size) (k : Settings) (mask frame : List ℕ) (v : List ℤ) (d : DarkPlane z k mask frame v) where
  -- whether a pixel is seen, and its dark value, by position
  abbrev seen_at : ℕ → Bool
  seen_at p = (at (described z) (masked (described z) mask frame) p).seen

  abbrev dark_at : ℕ → ℕ
  dark_at = at (described z) (dark (described z) k.s (masked (described z) mask frame))

  raised_is : (p : ℕ) → p < z.w * z.h → value v p ≡ raised seen_at dark_at p
  raised_is p h =
      value_level z k mask frame v d p h
      ∙ cond_not (eqb (get_or mask p 0) 0) 0 (dark_at p + 1)
      ∙ ap (λ (i : Shown Rgb). cond i.seen (dark_at p + 1) 0) (sym (at_masked (described z) mask frame p))

  -- all but those of level 0
  pub seen_is : hits (value v) (z.w * z.h) 0 + seen_count z mask frame ≡ z.w * z.h
  seen_is =
      ap (λ (i : ℕ). i + seen_count z mask frame)
      (count_cong (λ o. eqb 0 (value v o)) (λ o. eqb 0 (raised seen_at dark_at o)) 0 (z.w * z.h) (λ o a b. ap (eqb 0) (raised_is o (omega arith))))
      ∙ level_none seen_at dark_at (z.w * z.h)

  module _ (l : List ℕ) (c : Cut) (e : length l ≡ 257) (t : Tallied (value v) (z.w * z.h) l) (few : m (seen_count z mask frame) k ≤ seen_count z mask frame)
      (cut : CutAt l (m (seen_count z mask frame) k) c) where
    -- the candidates are those that the cutoff lets in
    let_in : candidates (described z) k (masked (described z) mask frame) ≡ keep (admitted (value v) c) (upto (z.w * z.h))
    unfolding candidates
    let_in =
        let n = m (seen_count z mask frame) k in
        first_by_level seen_at dark_at (upto (z.w * z.h)) n few
        ∙ keep_cong _ (admitted (value v) c) 0 (z.w * z.h)
        (λ p a b.
        let h : p < z.w * z.h = omega arith in
        ap (λ (r : ℕ). ltb r n) (sym (rank_cong (z.w * z.h) (value v) (raised seen_at dark_at) raised_is p h))
        ∙ by_counts (value v) (z.w * z.h) l e (λ o i. (levels z k mask frame v d o i).1) t n c cut p h)

    -- the pixel of the position that is chosen gives the light
    pub light_is : (r : ℕ) → r ≡ brightest (λ p. guide (pixel_at frame p)) (keep (admitted (value v) c) (upto (z.w * z.h)))
        → lifted (pixel_at frame r) ≡ light (described z) k (masked (described z) mask frame)
    unfolding light
    light_is r f =
        let pixel : (p : ℕ) → (at (described z) (masked (described z) mask frame) p).value ≡ pixel_at frame p =
        λ p. ap (λ (i : Shown Rgb). i.value) (at_masked (described z) mask frame p)
        in
        let same : ◌≡◌ {A = ℕ → ℕ} (λ p. guide (at (described z) (masked (described z) mask frame) p).value) (λ p. guide (pixel_at frame p)) =
        λ i p. guide (pixel p i)
        in
        ap lifted (sym (ap (λ (o : ℕ). (at (described z) (masked (described z) mask frame) o).value) (ap₂ brightest same let_in ∙ sym f) ∙ pixel r))
