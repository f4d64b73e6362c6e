-- A run of Replace calls on one frame, map and cleared frame, under one setup. Assumes nothing.
use Rattle.std.specs.Prelude.{◌≡◌, ℕ, List, [], ◌∷◌, Bool, cond, length, eqb, ℤ, Result}
use Rattle.rules.specs.declared.Rect.{Rect}
use Rattle.rules.specs.declared.Refusal.{Refusal}
use Rattle.rules.specs.Setup.{Setup}
use Rattle.rules.specs.Buffers.{State, clear, replace}
use Rattle.rules.specs.Refusals.{refuse_replace}
use Rattle.rules.specs.Answers.{said}
use Rattle.rules.specs.Promise.{Lent, state, lent, Clears, Replaces}

-- a call: the rectangle, the new pixels, and the length of the work area that it is lent
pub record Call : Type 0 where
  pub rect : Rect
  pub new : List ℕ
  pub work : ℕ

unfoldable pub accepted : Setup → State → Call → Bool
accepted p s c =
    eqb
    (refuse_replace
    p.size
    p.settings
    p.light
    c.rect
    (length c.new)
    (length p.mask)
    (length s.frame)
    (length s.map)
    (length s.picture)
    c.work)
    0

-- a refused call leaves all as it was
unfoldable pub step : Setup → State → Call → State
step p s c = cond (accepted p s c) (replace p c.rect c.new s) s

unfoldable pub run : Setup → State → List Call → State
run p s [] = s
run p s (c ∷ cs) = run p (step p s c) cs

-- map and picture are those of a fresh clearing of the frame
abbrev pub Fresh : Setup → State → Type 0
Fresh p s = s ≡ clear p s.frame

-- The same said of the calls themselves: the buffers that an accepted Clear and then any Replace calls, accepted and refused, can leave, when each
-- keeps its promise. Between two calls the caller may lend another work area.
pub data Ran (p : Setup) : Lent → Type 0 where
  cleared : (l m : Lent) (r : Result ℕ Refusal) → Clears p l r m → said r ≡ 0 → Ran p m
  replaced : (l m : Lent) (work : List ℤ) (c : Rect) (new : List ℕ) (r : Result ℕ Refusal) → Ran p l → Replaces p c new (lent (state l) work) r m → Ran p m
