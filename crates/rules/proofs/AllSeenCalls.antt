-- An all-seen mask, from the calls' promises alone: calls of Light, Clear and Replace that are lent one are refused by the tests of document 01 with no
-- mask, and leave what it says (`lights_all`, `clears_all`, `replaces_all`). So it makes no difference which such mask is lent (`lights_either`,
-- `clears_either`, `replaces_either`). Assumes nothing.
use mathlib.Core.Path.{◌≡◌, refl, ap, ap₂, ◌∙◌}
use mathlib.Core.Bool.{Bool, true, false, not, ◌||◌}
use mathlib.Core.List.{List, [], ◌∷◌}
use Prim.Native.Nat.{ℕ, ◌*◌}
use native.Mathlib.Nat.{mul-pos}
use lib.ListN.{length}
use lib.IntN.{ℤ}
use borrow.Author.Tests.{eq-eqb}
use Rattle.rules.specs.Shape.{described}
use Rattle.rules.specs.declared.Size.{Size}
use Rattle.rules.specs.declared.Settings.{Settings}
use Rattle.rules.specs.declared.Rgb.{Rgb}
use Rattle.rules.specs.declared.Rect.{Rect}
use Rattle.std.specs.Prelude.{Result}
use Rattle.rules.specs.declared.Refusal.{Refusal}
use Rattle.rules.specs.declared.Finding.{Finding}
use Rattle.rules.specs.Light.{light}
use Rattle.rules.specs.Setup.{handed}
use Rattle.rules.specs.Buffers.{pixels, masked, State}
use Rattle.rules.specs.Refusals.{first, bad_size, bad_settings, bad_frame, bad_map, bad_mask, bad_work, bad_light, bad_rect, bad_new, bad_seen, refuse_light, refuse_clear, refuse_replace}
use Rattle.rules.specs.Count.{frame_comparisons, part_comparisons, clear_comparisons, replace_comparisons}
use Rattle.rules.specs.Answers.{or}
use Rattle.rules.specs.Promise.{Lent, state, lent, finding_of, unless, wiped, no_light, no_clear, no_replace, Lights, Clears, Replaces}
use Rattle.rules.proofs.Good.{size_good, settings_good, seen_none}
use Rattle.rules.proofs.Exactly.{light_exact}
use Rattle.rules.proofs.UnseenCalls.{found_same}
use Rattle.rules.proofs.Plain.{light_all}
use Rattle.rules.proofs.AllSeen.{AllSeen, clear_all, replace_all, all_light, all_clear, all_replace}

-- ---- the refusals of document 01

abbrev pub refuse_light_all : Size → Settings → List ℕ → List ℤ → ℕ
refuse_light_all z k frame work = first ((1, bad_size z) ∷ (2, bad_settings k) ∷ (3, bad_frame z (length frame)) ∷ (4, bad_work z (length work)) ∷ [])

abbrev pub refuse_clear_all : Size → Settings → Rgb → Lent → ℕ
refuse_clear_all z k a l =
    first
    ((1, bad_size z)
    ∷ (2, bad_settings k)
    ∷ (3, bad_frame z (length l.frame))
    ∷ (4, bad_frame z (length l.picture) || bad_map z (length l.map) || bad_work z (length l.work))
    ∷ (5, bad_light a)
    ∷ [])

abbrev pub refuse_replace_all : Size → Settings → Rgb → Rect → List ℕ → Lent → ℕ
refuse_replace_all z k a c new l =
    first
    ((1, bad_size z)
    ∷ (2, bad_settings k)
    ∷ (3, bad_frame z (length l.frame))
    ∷ (4, bad_frame z (length l.picture) || bad_map z (length l.map) || bad_work z (length l.work))
    ∷ (5, bad_light a)
    ∷ (6, bad_rect z c)
    ∷ (7, bad_new c (length new))
    ∷ [])

mask_fits : (z : Size) (n : ℕ) → n ≡ z.w * z.h → bad_mask z n ≡ false
unfolding bad_mask
mask_fits z n e = ap not (eq-eqb n (z.w * z.h) e)

-- a size that is not refused has a pixel, and an all-seen mask shows it
some_seen : (z : Size) (mask : List ℕ) → AllSeen (described z) mask → bad_size z ≡ false → bad_seen mask ≡ false
some_seen z mask all e = go (bad_seen mask) refl
  where
    go : (b : Bool) → bad_seen mask ≡ b → bad_seen mask ≡ false
    go false f = f
    go true f = let g = size_good z e in absurd (all 0 (mul-pos g.across g.down) (seen_none mask f 0))

all_no_light : (z : Size) (k : Settings) (mask frame : List ℕ) (work : List ℤ) → AllSeen (described z) mask → length mask ≡ z.w * z.h
    → no_light z k mask frame work ≡ refuse_light_all z k frame work
unfolding refuse_light
all_no_light z k mask frame work all n = go (bad_size z) refl
  where
    go : (b : Bool) → bad_size z ≡ b → no_light z k mask frame work ≡ refuse_light_all z k frame work
    go true e = rw e
    go false e = rw (mask_fits z (length mask) n, some_seen z mask all e)

-- ---- Light

-- it hides no pixel, and has the length that is asked for
pub record Whole (z : Size) (mask : List ℕ) : Type 0 where
  pub seen : AllSeen (described z) mask
  pub long : length mask ≡ z.w * z.h

module _ (z : Size) (k : Settings) (frame : List ℕ) (work : List ℤ) where
  -- what it answers, and leaves in the work area
  pub record LightsAll (r : Result Finding Refusal) (work' : List ℤ) : Type 0 where
    pub answer : r ≡ or (refuse_light_all z k frame work) (finding_of (light_all (described z) k (pixels (described z) frame)) (frame_comparisons (described z) k.s))
    pub after : work' ≡ unless (refuse_light_all z k frame work) (wiped (described z) work) work

  pub lights_all : (mask : List ℕ) (r : Result Finding Refusal) (work' : List ℤ) → Whole z mask → Lights z k mask frame work r work' → LightsAll r work'
  lights_all mask r work' w q =
      let n = all_no_light z k mask frame work w.seen w.long in
      let f = pixels (described z) frame in
      let same : no_light z k mask frame work ≡ 0 → light (described z) k (masked (described z) mask frame) ≡ light_all (described z) k f =
      λ e.
      let free = (light_exact z k (length mask) (bad_seen mask) (length frame) (length work)).free e in
      let g = size_good z free.0 in
      all_light (described z) mask w.seen frame k (mul-pos g.across g.down) (settings_good k free.1.0).share_most in
      record {
        answer = q.answer ∙ found_same (no_light z k mask frame work) _ _ _ same ∙ ap (λ (i : ℕ). or i (finding_of (light_all (described z) k f) (frame_comparisons (described z) k.s))) n;
        after = q.after ∙ ap (λ (i : ℕ). unless i (wiped (described z) work) work) n;
      }

  pub lights_either : (mask mask' : List ℕ) (r r' : Result Finding Refusal) (o o' : List ℤ) → Whole z mask → Whole z mask' → Lights z k mask frame work r o → Lights z k mask' frame work r' o'
      → (r ≡ r') × (o ≡ o')
  lights_either mask mask' r r' o o' w w' q q' =
      let a = lights_all mask r o w q in
      let b = lights_all mask' r' o' w' q' in
      (cc, cc)

-- ---- Clear and Replace

module _ (z : Size) (k : Settings) (a : Rgb) (l : Lent) where
  -- what a call answers and leaves, by its number and the comparisons and the state of one that is accepted
  pub record Left (n count : ℕ) (s : State) (r : Result ℕ Refusal) (m : Lent) : Type 0 where
    pub answer : r ≡ or n count
    pub after : m ≡ unless n (lent s (wiped (described z) l.work)) l

  pub clears_all : (mask : List ℕ) (r : Result ℕ Refusal) (m : Lent) → Whole z mask → Clears (handed z k a mask) l r m
      → Left (refuse_clear_all z k a l) (frame_comparisons (described z) k.s) (clear_all (described z) k a l.frame) r m
  unfolding refuse_clear
  clears_all mask r m w q =
      let p = handed z k a mask in
      let n : no_clear p l ≡ refuse_clear_all z k a l = rw (mask_fits z (length mask) w.long) in
      record {
        answer = q.answer ∙ ap (λ (i : ℕ). or i (clear_comparisons p)) n;
        after = q.after ∙ ap₂ (λ (i : ℕ) (s : State). unless i (lent s (wiped (described z) l.work)) l) n (all_clear p w.seen l.frame);
      }

  pub replaces_all : (c : Rect) (new mask : List ℕ) (r : Result ℕ Refusal) (m : Lent) → Whole z mask → Replaces (handed z k a mask) c new l r m
      → Left (refuse_replace_all z k a c new l) (part_comparisons (described z) k c) (replace_all (described z) k a c new (state l)) r m
  unfolding refuse_replace
  replaces_all c new mask r m w q =
      let p = handed z k a mask in
      let n : no_replace p c new l ≡ refuse_replace_all z k a c new l = rw (mask_fits z (length mask) w.long) in
      record {
        answer = q.answer ∙ ap (λ (i : ℕ). or i (replace_comparisons p c)) n;
        after = q.after ∙ ap₂ (λ (i : ℕ) (s : State). unless i (lent s (wiped (described z) l.work)) l) n (all_replace p w.seen c new (state l));
      }

  pub clears_either : (mask mask' : List ℕ) (r r' : Result ℕ Refusal) (m m' : Lent) → Whole z mask → Whole z mask' → Clears (handed z k a mask) l r m → Clears (handed z k a mask') l r' m'
      → (r ≡ r') × (m ≡ m')
  clears_either mask mask' r r' m m' w w' q q' =
      let b = clears_all mask r m w q in
      let b' = clears_all mask' r' m' w' q' in
      (cc, cc)

  pub replaces_either :
      (c : Rect) (new mask mask' : List ℕ) (r r' : Result ℕ Refusal) (m m' : Lent)
      → Whole z mask
      → Whole z mask'
      → Replaces (handed z k a mask) c new l r m
      → Replaces (handed z k a mask') c new l r' m'
      → (r ≡ r') × (m ≡ m')
  replaces_either c new mask mask' r r' m m' w w' q q' =
      let b = replaces_all c new mask r m w q in
      let b' = replaces_all c new mask' r' m' w' q' in
      (cc, cc)
