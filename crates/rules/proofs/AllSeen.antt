-- An all-seen mask gives the results of document 01 with no mask: the light, and what Clear and Replace leave (`all_light`, `all_clear`, `all_replace`).
-- So any two such masks give the same. The calls' own promises are in AllSeenCalls. Assumes nothing.
use mathlib.Core.Path.{◌≡◌, ap, ◌∙◌}
use mathlib.Core.List.{List}
use Prim.Native.Nat.{ℕ, ◌+◌, ◌*◌, ◌≤◌, ◌<◌}
use lib.ListN.{length, get_or}
use Rattle.rules.specs.Shape.{Shape}
use Rattle.rules.specs.declared.Settings.{Settings}
use Rattle.rules.specs.declared.Rgb.{Rgb}
use Rattle.rules.specs.declared.Rect.{Rect}
use Rattle.rules.specs.Window.{Plane, Shown, plain}
use Rattle.rules.specs.Light.{places, light}
use Rattle.rules.specs.Transmission.{map_entry}
use Rattle.rules.specs.Picture.{cleared}
use Rattle.rules.specs.Setup.{Setup, shape}
use Rattle.rules.specs.Buffers.{pixels, masked, bytes, values, entries, State, near, map_with, frame_with, pasted, reach, clear, replace}
use Rattle.rules.proofs.Buffers.{place_lt, seen_byte, patch_cong, entries_cong, bytes_cong}
use Rattle.rules.proofs.Unseen.{SameIn, places_same, light_same, entry_same, cleared_same}
use Rattle.rules.proofs.Plain.{light_all, refined_all, cleared_all, plain_number, plain_light, plain_entry, plain_cleared}

-- none of the first W·H bytes is 0
abbrev pub AllSeen : Shape → List ℕ → Type 0
AllSeen z mask = (p : ℕ) → p < z.w * z.h → get_or mask p 0 ≡ 0 → ⊥

-- ---- the rules

module _ (z : Shape) (mask : List ℕ) (all : AllSeen z mask) (frame : List ℕ) where
  pub all_shown : (y x : ℕ) → y < z.h → x < z.w → masked z mask frame y x ≡ plain (pixels z frame) y x
  unfolding masked
  all_shown y x hy hx =
      let s = seen_byte z mask y x (all (y * z.w + x) (place_lt z y x hy hx)) in
      λ i. record { seen = s i; value = pixels z frame y x }

  same : SameIn z (masked z mask frame) (plain (pixels z frame))
  same y x hy hx =
      let e = all_shown y x hy hx in
      record { seen = ap (λ (i : Shown Rgb). i.seen) e; value = λ s. ap (λ (i : Shown Rgb). i.value) e }

  pub all_light : (k : Settings) → 0 < z.w * z.h → k.share ≤ 1000 → light z k (masked z mask frame) ≡ light_all z k (pixels z frame)
  all_light k some l =
      let f = masked z mask frame in
      let g : Plane (Shown Rgb) = plain (pixels z frame) in
      let n : length (places z f) ≡ z.w * z.h = ap length (places_same z f g same) ∙ plain_number z (pixels z frame) in
      light_same z k f g same (rw n some) l ∙ plain_light z k (pixels z frame)

  module _ (k : Settings) (a : Rgb) (y x : ℕ) (hy : y < z.h) (hx : x < z.w) where
    all_entry : map_entry z k a (masked z mask frame) y x ≡ refined_all z k a (pixels z frame) y x
    all_entry = entry_same z k a (masked z mask frame) (plain (pixels z frame)) same y x hy hx ∙ (λ i. plain_entry z k a (pixels z frame) i y x)

    all_cleared : cleared z k a (masked z mask frame) y x ≡ cleared_all z k a (pixels z frame) y x
    all_cleared =
        cleared_same z k a (masked z mask frame) (plain (pixels z frame)) same y x hy hx (ap (λ (i : Shown Rgb). i.seen) (all_shown y x hy hx))
        ∙ (λ i. plain_cleared z k a (pixels z frame) i y x)

-- what Clear and Replace leave with no mask
abbrev pub clear_all : Shape → Settings → Rgb → List ℕ → State
clear_all z k a frame = record { frame = frame; map = entries z (refined_all z k a (pixels z frame)); picture = bytes z (cleared_all z k a (pixels z frame)) }

abbrev pub replace_all : Shape → Settings → Rgb → Rect → List ℕ → State → State
replace_all z k a c new s =
    let frame = pasted z c new s.frame in
    let t = near (reach k) c in
    record { frame = frame; map = map_with z t (refined_all z k a (pixels z frame)) s.map; picture = frame_with z t (cleared_all z k a (pixels z frame)) s.picture }

module _ (p : Setup) (all : AllSeen (shape p) p.mask) where
  pub all_clear : (frame : List ℕ) → clear p frame ≡ clear_all (shape p) p.settings p.light frame
  unfolding clear
  all_clear frame =
      let z = shape p in
      let k = p.settings in
      let map = entries_cong z _ _ (all_entry z p.mask all frame k p.light) in
      let picture = bytes_cong z _ _ (all_cleared z p.mask all frame k p.light) in
      λ i. record { frame = frame; map = map i; picture = picture i }

  pub all_replace : (c : Rect) (new : List ℕ) (s : State) → replace p c new s ≡ replace_all (shape p) p.settings p.light c new s
  unfolding replace
  all_replace c new s =
      let z = shape p in
      let k = p.settings in
      let frame = pasted z c new s.frame in
      let map = entries_cong z _ _ (λ y x hy hx. patch_cong (near (reach k) c) _ _ (values z s.map) y x (λ t. all_entry z p.mask all frame k p.light y x hy hx)) in
      let picture = bytes_cong z _ _ (λ y x hy hx. patch_cong (near (reach k) c) _ _ (pixels z s.picture) y x (λ t. all_cleared z p.mask all frame k p.light y x hy hx)) in
      λ i. record { frame = frame; map = map i; picture = picture i }
