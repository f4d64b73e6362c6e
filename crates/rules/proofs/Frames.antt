-- Locality as the buffers show it: a map entry and a cleared pixel hang on the frame and the mask within the reach alone (`map_local`, `picture_local`).
-- And that a run keeps the buffers' lengths, so that the fresh clearing of demand 3 is never refused for them. Assumes nothing.
use mathlib.Core.Path.{◌≡◌, sym, ◌∙◌}
use mathlib.Core.Bool.{Bool, true, false, cond}
use mathlib.Core.List.{List, [], ◌∷◌}
use Prim.Native.Nat.{ℕ, ◌*◌, ◌<◌}
use lib.ListN.{length}
use Rattle.rules.specs.Shape.{Shape, described}
use Rattle.rules.specs.declared.Size.{Size}
use Rattle.rules.specs.declared.Settings.{Settings}
use Rattle.rules.specs.declared.Rgb.{Rgb}
use Rattle.rules.specs.declared.Rect.{Rect}
use Rattle.rules.specs.Setup.{Setup, handed, shape}
use Rattle.rules.specs.Buffers.{pixels, masked, values, State, clear, reach, replace}
use Rattle.rules.specs.Run.{Call, accepted, step, run}
use Rattle.rules.proofs.Local.{Agree, entry_local, cleared_local}
use Rattle.rules.proofs.Buffers.{values_entries, pixels_bytes, length_entries, length_bytes}

-- within the reach the frames agree and the masks hide the same pixels
abbrev pub SameNear : Size → Settings → ℕ → ℕ → List ℕ → List ℕ → List ℕ → List ℕ → Type 0
SameNear z k y x mask frame mask' frame' = Agree (described z) (reach k) y x (masked (described z) mask frame) (masked (described z) mask' frame')

module _ (z : Size) (k : Settings) (a : Rgb) (mask mask' frame frame' : List ℕ) (y x : ℕ) (hy : y < z.h) (hx : x < z.w) where
  abbrev one : State
  one = clear (handed z k a mask) frame

  abbrev other : State
  other = clear (handed z k a mask') frame'

  pub map_local : SameNear z k y x mask frame mask' frame' → values (described z) one.map y x ≡ values (described z) other.map y x
  unfolding clear
  map_local h =
      values_entries (described z) _ y x hy hx
      ∙ entry_local (described z) k a (masked (described z) mask frame) (masked (described z) mask' frame') y x hy hx h
      ∙ sym (values_entries (described z) _ y x hy hx)

  pub picture_local : SameNear z k y x mask frame mask' frame' → pixels (described z) one.picture y x ≡ pixels (described z) other.picture y x
  unfolding clear
  picture_local h =
      pixels_bytes (described z) _ y x hy hx
      ∙ cleared_local (described z) k a (masked (described z) mask frame) (masked (described z) mask' frame') y x hy hx h
      ∙ sym (pixels_bytes (described z) _ y x hy hx)

-- the buffers have their lengths
pub record Sized (z : Shape) (s : State) : Type 0 where
  pub frame : length s.frame ≡ 3 * (z.w * z.h)
  pub map : length s.map ≡ z.w * z.h
  pub picture : length s.picture ≡ 3 * (z.w * z.h)

module _ (p : Setup) where
  pub clear_sized : (frame : List ℕ) → length frame ≡ 3 * ((shape p).w * (shape p).h) → Sized (shape p) (clear p frame)
  unfolding clear
  clear_sized frame h = record { frame = h; map = length_entries (shape p) _; picture = length_bytes (shape p) _ }

  replace_sized : (c : Rect) (new : List ℕ) (s : State) → Sized (shape p) (replace p c new s)
  unfolding replace
  replace_sized c new s = record { frame = length_bytes (shape p) _; map = length_entries (shape p) _; picture = length_bytes (shape p) _ }

  step_sized : (s : State) (c : Call) → Sized (shape p) s → Sized (shape p) (step p s c)
  unfolding step
  step_sized s c h = go (accepted p s c)
    where
      go : (b : Bool) → Sized (shape p) (cond b (replace p c.rect c.new s) s)
      go true = replace_sized c.rect c.new s
      go false = h

  pub run_sized : (s : State) (cs : List Call) → Sized (shape p) s → Sized (shape p) (run p s cs)
  unfolding run
  run_sized s [] h = h
  run_sized s (c ∷ cs) h = run_sized (step p s c) cs (step_sized s c h)
