-- What each operation promises, for every input: the answer, and what stands in each lent buffer afterwards. Assumes nothing.
use Rattle.std.specs.Prelude.{◌≡◌, ℕ, zero, suc, cond, ◌||◌, List, ◌++◌, Result, ltb, length, drop, replicate, ℤ, pos}
use Rattle.rules.specs.Shape.{Shape, described, room}
use Rattle.rules.specs.declared.Size.{Size}
use Rattle.rules.specs.declared.Settings.{Settings}
use Rattle.rules.specs.declared.Rgb.{Rgb}
use Rattle.rules.specs.declared.Rect.{Rect}
use Rattle.rules.specs.declared.Finding.{Finding}
use Rattle.rules.specs.declared.Figure.{Figure}
use Rattle.rules.specs.declared.Refusal.{Refusal}
use Rattle.rules.specs.declared.Band.{Band}
use Rattle.rules.specs.declared.Band.TheVariants as band
use Rattle.rules.specs.Answers.{number, numbered, or}
use Rattle.rules.specs.Light.{light}
use Rattle.rules.specs.Picture.{figure}
use Rattle.rules.specs.Setup.{Setup, shape}
use Rattle.rules.specs.Count.{frame_comparisons, clear_comparisons, replace_comparisons}
use Rattle.rules.specs.Buffers.{masked, hazed, State, clear, replace}
use Rattle.rules.specs.Refusals.{bad_size, bad_seen, refuse_light, refuse_clear, refuse_replace, refuse_haze, refuse_band}

-- ---- the answer of Band figure, whose cases have names of their own: the figure for 0, for another number the refusal that has it

abbrev pub figure_or : ℕ → Figure → Band
figure_or zero f = band.Figure f
figure_or (suc n) f = band.Refused (numbered (suc n))

-- and the number that each case says
abbrev pub band_said : Band → ℕ
band_said (band.Figure f) = 0
band_said (band.Refused e) = number e

-- ---- the buffers

-- the new value of a call that is not refused, the old one of a call that is
abbrev pub unless : {A : Type 0} → ℕ → A → A → A
unless zero new old = new
unless (suc n) new old = old

-- the work area after an accepted call
unfoldable pub wiped : Shape → List ℤ → List ℤ
wiped z work = replicate (room z) (pos 0) ++ drop (room z) work

-- all that Clear and Replace are lent and may write
pub record Lent : Type 0 where
  pub frame : List ℕ
  pub map : List ℕ
  pub picture : List ℕ
  pub work : List ℤ

abbrev pub lent_of : List ℕ → List ℕ → List ℕ → List ℤ → Lent
lent_of frame map picture work = record { frame = frame; map = map; picture = picture; work = work }

abbrev pub state : Lent → State
state l = record { frame = l.frame; map = l.map; picture = l.picture }

abbrev pub lent : State → List ℤ → Lent
lent s work = lent_of s.frame s.map s.picture work

-- the refusal number of a call on these buffers
abbrev pub no_clear : Setup → Lent → ℕ
no_clear p l =
    refuse_clear p.size p.settings p.light (length p.mask) (length l.frame) (length l.map) (length l.picture) (length l.work)

abbrev pub no_replace : Setup → Rect → List ℕ → Lent → ℕ
no_replace p c new l =
    refuse_replace
    p.size
    p.settings
    p.light
    c
    (length new)
    (length p.mask)
    (length l.frame)
    (length l.map)
    (length l.picture)
    (length l.work)

abbrev pub no_light : Size → Settings → List ℕ → List ℕ → List ℤ → ℕ
no_light z k mask frame work = refuse_light z k (length mask) (bad_seen mask) (length frame) (length work)

-- what an accepted call of Light finds: the light, and the comparisons that the dark channel took
abbrev pub finding_of : Rgb → ℕ → Finding
finding_of a count = record { light = a; comparisons = count }

abbrev pub finding : Size → Settings → List ℕ → List ℕ → Finding
finding z k mask frame = finding_of (light (described z) k (masked (described z) mask frame)) (frame_comparisons (described z) k.s)

-- what an accepted call leaves in them
abbrev pub after_clear : Setup → Lent → Lent
after_clear p l = lent (clear p l.frame) (wiped (shape p) l.work)

abbrev pub after_replace : Setup → Rect → List ℕ → Lent → Lent
after_replace p c new l = lent (replace p c new (state l)) (wiped (shape p) l.work)

-- ---- the promises

-- Light: work is the work area before, work' afterwards
pub record Lights (z : Size) (k : Settings) (mask frame : List ℕ) (work : List ℤ) (r : Result Finding Refusal) (work' : List ℤ) : Type 0 where
  pub answer : r ≡ or (no_light z k mask frame work) (finding z k mask frame)
  pub after : work' ≡ unless (no_light z k mask frame work) (wiped (described z) work) work

-- Clear: l is what stood in the buffers, m what stands there afterwards
pub record Clears (p : Setup) (l : Lent) (r : Result ℕ Refusal) (m : Lent) : Type 0 where
  pub answer : r ≡ or (no_clear p l) (clear_comparisons p)
  pub after : m ≡ unless (no_clear p l) (after_clear p l) l

-- Replace: c is the rectangle, new its pixels
pub record Replaces (p : Setup) (c : Rect) (new : List ℕ) (l : Lent) (r : Result ℕ Refusal) (m : Lent) : Type 0 where
  pub answer : r ≡ or (no_replace p c new l) (replace_comparisons p c)
  pub after : m ≡ unless (no_replace p c new l) (after_replace p c new l) l

-- Haze: out is the lent frame before, out' afterwards
pub record Hazes (z : Size) (a : Rgb) (clean map out : List ℕ) (r : Result (Unit {0}) Refusal) (out' : List ℕ) : Type 0 where
  pub answer : r ≡ or (refuse_haze z a (length clean) map (length out)) tt
  pub after : out' ≡ unless (refuse_haze z a (length clean) map (length out)) (hazed (described z) a clean map) out

-- Band figure: nothing is written
pub record Bands (z : Size) (map : List ℕ) (start end : ℕ) (r : Band) : Type 0 where
  pub answer : r ≡ figure_or (refuse_band z map start end) (figure (described z) map start end)

-- Budget: the comparisons for a frame of this size at radius s, before any frame is there; 0 for a size or radius that is refused
pub record Budgets (z : Size) (s : ℕ) (r : ℕ) : Type 0 where
  pub answer : r ≡ cond (bad_size z || ltb 30 s) 0 (frame_comparisons (described z) s)
