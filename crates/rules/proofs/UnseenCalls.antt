-- What a hidden pixel shows does not matter, as the buffers show it. Two frames that agree at every seen pixel (`SeenAlike`) have the same light, the same
-- map, and the same colour at every seen pixel: of the rules (`unseen_light`, `unseen_clear`), of calls of Light and Clear that keep their promises
-- (`unseen_lights`, `unseen_clears`), and after any runs of replacements that leave such frames (`unseen_ran`). Assumes nothing.
use mathlib.Core.Path.{◌≡◌, refl, sym, ap, ◌∙◌}
use mathlib.Core.Bool.{true}
use mathlib.Core.List.{List}
use Prim.Native.Nat.{ℕ, zero, suc, ◌≤◌, ◌<◌}
use lib.ListN.{length}
use lib.IntN.{ℤ}
use Rattle.rules.specs.Shape.{Shape, described}
use Rattle.rules.specs.declared.Size.{Size}
use Rattle.rules.specs.declared.Settings.{Settings}
use Rattle.rules.specs.declared.Rgb.{Rgb}
use Rattle.std.specs.Prelude.{Result}
use Rattle.rules.specs.declared.Refusal.{Refusal}
use Rattle.rules.specs.declared.Finding.{Finding}
use Rattle.rules.specs.Light.{places, light}
use Rattle.rules.specs.Setup.{Setup, shape}
use Rattle.rules.specs.Buffers.{pixels, seen_in, masked, State, clear}
use Rattle.rules.specs.Refusals.{bad_mask, bad_work, bad_seen, refuse_light}
use Rattle.rules.specs.Count.{clear_comparisons}
use Rattle.rules.specs.Answers.{or}
use Rattle.rules.specs.Promise.{Lent, lent_of, state, lent, finding_of, finding, unless, wiped, no_light, no_clear, Lights, Clears}
use Rattle.rules.specs.Run.{Ran}
use Rattle.rules.proofs.Buffers.{pixels_bytes, entries_cong, masked_seen}
use Rattle.rules.proofs.Good.{neither, settings_good, mask_good, seen_good}
use Rattle.rules.proofs.Exactly.{light_exact}
use Rattle.rules.proofs.Run.{ran_fresh}
use Rattle.rules.proofs.Chosen.{places_of}
use Rattle.rules.proofs.Unseen.{SameIn, light_same, entry_same, cleared_same}

-- the frames agree at every seen pixel
abbrev pub SeenAlike : Shape → List ℕ → List ℕ → List ℕ → Type 0
SeenAlike z mask frame frame' = (y x : ℕ) → y < z.h → x < z.w → seen_in z mask y x ≡ true → pixels z frame y x ≡ pixels z frame' y x

-- ---- the rules

module _ (z : Shape) (mask frame frame' : List ℕ) (h : SeenAlike z mask frame frame') where
  same : SameIn z (masked z mask frame) (masked z mask frame')
  unfolding masked
  same y x hy hx = record { seen = refl; value = h y x hy hx }

  pub unseen_light : (k : Settings) → 0 < length (places z (masked z mask frame)) → k.share ≤ 1000 → light z k (masked z mask frame) ≡ light z k (masked z mask frame')
  unseen_light k = light_same z k (masked z mask frame) (masked z mask frame') same

-- what does not hang on hidden pixels of a state
pub record SameShown (p : Setup) (s s' : State) : Type 0 where
  pub map : s.map ≡ s'.map
  pub picture : (y x : ℕ) → y < (shape p).h → x < (shape p).w → seen_in (shape p) p.mask y x ≡ true → pixels (shape p) s.picture y x ≡ pixels (shape p) s'.picture y x

pub unseen_clear : (p : Setup) (frame frame' : List ℕ) → SeenAlike (shape p) p.mask frame frame' → SameShown p (clear p frame) (clear p frame')
unfolding clear
unseen_clear p frame frame' h =
    let z = shape p in
    let k = p.settings in
    let f = masked z p.mask frame in
    let g = masked z p.mask frame' in
    let e : SameIn z f g = same z p.mask frame frame' h in
    record {
      map = entries_cong z _ _ (entry_same z k p.light f g e);
      picture =
          λ y x hy hx s.
          pixels_bytes z _ y x hy hx
          ∙ cleared_same z k p.light f g e y x hy hx (masked_seen z p.mask frame y x ∙ s)
          ∙ sym (pixels_bytes z _ y x hy hx);
    }

-- ---- Light: the same call with the one frame and with the other

-- two answers of Light that are refused alike, and carry the same light where they are not
pub found_same : (n : ℕ) (a b : Rgb) (count : ℕ) → (n ≡ 0 → a ≡ b) → or n (finding_of a count) ≡ or n (finding_of b count)
found_same zero a b count h = rw (h refl)
found_same (suc n) a b count h = refl

module _ (z : Size) (k : Settings) (mask frame frame' : List ℕ) (work : List ℤ) (long : length frame ≡ length frame') (h : SeenAlike (described z) mask frame frame') where
  pub unseen_lights : (r r' : Result Finding Refusal) (o o' : List ℤ) → Lights z k mask frame work r o → Lights z k mask frame' work r' o' → (r ≡ r') × (o ≡ o')
  unseen_lights r r' o o' q q' =
      let n : no_light z k mask frame work ≡ no_light z k mask frame' work = ap (λ (i : ℕ). refuse_light z k (length mask) (bad_seen mask) i (length work)) long in
      let f = masked (described z) mask frame in
      let light_is : no_light z k mask frame work ≡ 0 → light (described z) k f ≡ light (described z) k (masked (described z) mask frame') =
      λ e.
      let free = (light_exact z k (length mask) (bad_seen mask) (length frame) (length work)).free e in
      let shown = mask_good z (length mask) (neither (bad_mask z (length mask)) (bad_work z (length work)) free.1.1.1.0).0 in
      let some = places_of (described z) mask frame shown (seen_good mask free.1.1.1.1.0) in
      unseen_light (described z) mask frame frame' h k some (settings_good k free.1.0).share_most in (
        q.answer ∙ found_same (no_light z k mask frame work) _ _ _ light_is ∙ ap (λ (i : ℕ). or i (finding z k mask frame')) n ∙ sym q'.answer,
        q.after ∙ ap (λ (i : ℕ). unless i (wiped (described z) work) work) n ∙ sym q'.after,
      )

-- ---- Clear

-- of an accepted call and of a refused one
alike_unless : (p : Setup) (n : ℕ) (s s' : State) (work work' : List ℤ) (l l' : Lent) → SameShown p s s' → SameShown p (state l) (state l')
    → SameShown p (state (unless n (lent s work) l)) (state (unless n (lent s' work') l'))
alike_unless p zero s s' work work' l l' a b = a
alike_unless p (suc n) s s' work work' l l' a b = b

module _ (p : Setup) (frame frame' map picture : List ℕ) (work : List ℤ) (long : length frame ≡ length frame') (h : SeenAlike (shape p) p.mask frame frame') where
  abbrev one : Lent
  one = lent_of frame map picture work

  abbrev other : Lent
  other = lent_of frame' map picture work

  pub unseen_clears : (r r' : Result ℕ Refusal) (m m' : Lent) → Clears p one r m → Clears p other r' m' → (r ≡ r') × SameShown p (state m) (state m')
  unseen_clears r r' m m' q q' =
      let n : no_clear p one ≡ no_clear p other = rw long in
      let w = wiped (shape p) work in (
        q.answer ∙ ap (λ (i : ℕ). or i (clear_comparisons p)) n ∙ sym q'.answer,
        rw (q.after, q'.after, n)
            (alike_unless p (no_clear p other) (clear p frame) (clear p frame') w w one other (unseen_clear p frame frame' h) (record { map = refl; picture = λ y x hy hx s. refl })),
      )

-- ---- any two runs

pub unseen_ran : (p : Setup) (m m' : Lent) → Ran p m → Ran p m' → SeenAlike (shape p) p.mask m.frame m'.frame → SameShown p (state m) (state m')
unseen_ran p m m' a b h = rw (ran_fresh p m a, ran_fresh p m' b) (unseen_clear p m.frame m'.frame h)
