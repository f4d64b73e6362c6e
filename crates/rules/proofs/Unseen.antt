-- No rule reads what a hidden pixel shows. Planes that are alike where they are seen, at each pixel of the frame (`SameIn`), have the same dark and coarse
-- values, map entries and candidates, and the same colours at seen pixels; and the same light, where a pixel is seen. Assumes nothing.
use mathlib.Core.Path.{◌≡◌, refl, sym, ap, ap₂, ◌∙◌}
use mathlib.Core.Bool.{Bool, true, false}
use mathlib.Core.List.{List}
use Prim.Native.Nat.{ℕ, ◌*◌, ◌/◌, ◌%◌, max, ◌≤◌, ◌<◌}
use native.Mathlib.Omega.{arith}
use lib.ListN.{length}
use lib.Dec.{ltb}
use Rattle.rules.specs.Shape.{Shape}
use Rattle.rules.specs.declared.Settings.{Settings}
use Rattle.rules.specs.declared.Rgb.{Rgb}
use Rattle.rules.specs.Window.{Plane, Shown, alike, least}
use Rattle.rules.specs.Light.{darkest, dark, at, keep, places, m, rank, candidates, guide, brightest, lifted, light}
use Rattle.rules.specs.Transmission.{least_ratio, coarse_of, coarse, sample, Line, line, fit, refine, refined, map_entry}
use Rattle.rules.specs.Picture.{recover3, cleared}
use Rattle.rules.proofs.Buffers.{row_lt, column_lt}
use Rattle.rules.proofs.Seen.{Same, window_same, entry_seen, entry_hidden}
use Rattle.rules.proofs.Order.{In, upto, from_end, keep_same}
use Rattle.rules.proofs.Candidates.{darks, m_le, candidates_many, candidates_in, candidates_rising, candidates_seen}
use Rattle.rules.proofs.Chosen.{shine, brightest_most, brightest_same}

-- at each pixel of the frame both are seen, with equal values, or both are hidden
abbrev pub SameIn : {A : Type 0} → Shape → Plane (Shown A) → Plane (Shown A) → Type 0
SameIn z f g = (y x : ℕ) → y < z.h → x < z.w → Same (f y x) (g y x)

-- whatever is read off the values
same_alike : {A B : Type 0} (r r' : A → B) (i j : Shown A) → ((v : A) → r v ≡ r' v) → Same i j → Same (alike r i) (alike r' j)
same_alike r r' i j e h = record { seen = h.seen; value = λ s. ap r (h.value s) ∙ e j.value }

module _ (z : Shape) (k : Settings) (a : Rgb) (f g : Plane (Shown Rgb)) (h : SameIn z f g) where
  pub coarse_same : (y x : ℕ) → coarse z k a f y x ≡ coarse z k a g y x
  unfolding coarse
  coarse_same y x =
      ap (λ (l : List ℕ). coarse_of k.omega (least 10000 l))
      (window_same z k.s _ _ y x (λ v u hv hu. same_alike (least_ratio a) (least_ratio a) (f v u) (g v u) (λ i. refl) (h v u hv hu)))

  sample_same : SameIn z (sample z k a f) (sample z k a g)
  unfolding sample
  sample_same y x hy hx = same_alike _ _ (f y x) (g y x) (λ i. ap (λ (t : ℕ). record { g = guide i; t = t }) (coarse_same y x)) (h y x hy hx)

  fit_same : SameIn z (fit z k a f) (fit z k a g)
  unfolding fit
  fit_same y x hy hx = same_alike _ _ (f y x) (g y x) (λ i. ap (line k.e) (window_same z k.r _ _ y x sample_same)) (h y x hy hx)

  module _ (y x : ℕ) (hy : y < z.h) (hx : x < z.w) where
    refined_same : (f y x).seen ≡ true → refined z k a f y x ≡ refined z k a g y x
    unfolding refined
    refined_same s = ap₂ (λ (i : Rgb) (l : List Line). refine (guide i) l) ((h y x hy hx).value s) (window_same z k.r _ _ y x fit_same)

    pub entry_same : map_entry z k a f y x ≡ map_entry z k a g y x
    entry_same = go (f y x).seen refl
      where
        other : (b : Bool) → (f y x).seen ≡ b → (g y x).seen ≡ b
        other b e = sym (h y x hy hx).seen ∙ e

        go : (b : Bool) → (f y x).seen ≡ b → map_entry z k a f y x ≡ map_entry z k a g y x
        go true e = entry_seen z k a f y x e ∙ refined_same e ∙ sym (entry_seen z k a g y x (other true e))
        go false e = entry_hidden z k a f y x e ∙ sym (entry_hidden z k a g y x (other false e))

    pub cleared_same : (f y x).seen ≡ true → cleared z k a f y x ≡ cleared z k a g y x
    unfolding cleared
    cleared_same s = ap₂ (λ (i : Rgb) (t : ℕ). recover3 a i (max t k.t0)) ((h y x hy hx).value s) entry_same

-- ---- seen positions, dark values, candidates and light

module _ {A : Type 0} (z : Shape) (f g : Plane (Shown A)) (h : SameIn z f g) where
  at_same : (p : ℕ) → p < z.w * z.h → Same (at z f p) (at z g p)
  at_same p l = h (p / z.w) (p % z.w) (row_lt z p l) (column_lt z p l)

  pub places_same : places z f ≡ places z g
  places_same = keep_same _ _ (upto 0 (z.w * z.h)) (λ p i. (at_same p (omega (arith, from_end 0 (z.w * z.h) p i))).seen)

module _ (z : Shape) (k : Settings) (f g : Plane (Shown Rgb)) (h : SameIn z f g) where
  pub dark_same : (y x : ℕ) → dark z k.s f y x ≡ dark z k.s g y x
  unfolding dark
  dark_same y x = ap (least 255) (window_same z k.s _ _ y x (λ v u hv hu. same_alike darkest darkest (f v u) (g v u) (λ i. refl) (h v u hv hu)))

  pub candidates_same : candidates z k f ≡ candidates z k g
  unfolding candidates
  candidates_same =
      let d : darks z k f ≡ darks z k g = λ i p. dark_same (p / z.w) (p % z.w) i in
      ap₂ (λ (l : List ℕ) (d : ℕ → ℕ). keep (λ p. ltb (rank l d p) (m (length l) k)) l) (places_same z f g h) d

  pub light_same : 0 < length (places z f) → k.share ≤ 1000 → light z k f ≡ light z k g
  unfolding light
  light_same some l =
      let c : List ℕ = candidates z k f in
      let value : (p : ℕ) → In p c → (at z f p).value ≡ (at z g p).value = λ p i. (at_same z f g h p (candidates_in z k f p i)).value (candidates_seen z k f p i) in
      let n = candidates_many z k f (m_le (length (places z f)) k some l) in
      let p : ℕ = brightest (shine z k f) c in
      let inside : In p c = (brightest_most (shine z k f) c (omega arith) (candidates_rising z k f)).inside in
      let same : p ≡ brightest (shine z k g) (candidates z k g) =
      brightest_same (shine z k f) (shine z k g) c (λ o i. ap guide (value o i)) ∙ ap (brightest (shine z k g)) candidates_same in
      ap lifted (value p inside ∙ ap (λ (o : ℕ). (at z g o).value) same)
