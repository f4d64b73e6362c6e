-- What T is in a clearing: the larger of map entry and t0. It is at least both and one of them (`Larger`), there is such a number (`larger_some`) and
-- one alone (`larger_one`), and each cleared pixel is the recovery at it: of the rule (`cleared_at`), of the buffers that Clear leaves (`clear_at`),
-- and of a call that keeps its promise (`clears_at`). Assumes nothing.
use mathlib.Core.Path.{◌≡◌, ap, ◌∙◌}
use mathlib.Core.Logic.{◌⊎◌, inl, inr, ⊎_elim}
use mathlib.Core.List.{List}
use Prim.Native.Nat.{ℕ, ◌≤◌, ◌<◌, max}
use native.Mathlib.Omega.{arith}
use native.Mathlib.Decide.{dec_le}
use Rattle.rules.specs.Shape.{Shape}
use Rattle.rules.specs.declared.Settings.{Settings}
use Rattle.rules.specs.declared.Rgb.{Rgb}
use Rattle.std.specs.Prelude.{Result}
use Rattle.rules.specs.declared.Refusal.{Refusal}
use Rattle.rules.specs.Window.{Plane, Shown}
use Rattle.rules.specs.Transmission.{map_entry}
use Rattle.rules.specs.Picture.{recover3, cleared}
use Rattle.rules.specs.Setup.{Setup, shape}
use Rattle.rules.specs.Buffers.{pixels, values, shown_by, clear}
use Rattle.rules.specs.Answers.{said}
use Rattle.rules.specs.Promise.{Lent, no_clear, after_clear, Clears}
use Rattle.rules.proofs.Answers.{or_free}
use Rattle.rules.proofs.Buffers.{values_entries, pixels_bytes, masked_value}

-- t is the larger of m and n
pub record Larger (m n t : ℕ) : Type 0 where
  pub first : m ≤ t
  pub second : n ≤ t
  pub one : (t ≡ m) ⊎ (t ≡ n)

pub larger_one : (m n t t' : ℕ) → Larger m n t → Larger m n t' → t ≡ t'
larger_one m n t t' a b = ⊎_elim (λ e. ⊎_elim (λ f. omega arith) (λ f. omega arith) b.one) (λ e. ⊎_elim (λ f. omega arith) (λ f. omega arith) b.one) a.one

pub larger_some : (m n : ℕ) → (t : ℕ) × Larger m n t
larger_some m n = (max m n, record { first = omega arith; second = omega arith; one = go (dec_le m n) })
  where
    go : Dec (m ≤ n) → (max m n ≡ m) ⊎ (max m n ≡ n)
    go (yes h) = inr (omega arith)
    go (no h) = inl (omega arith)

-- the cleared pixel of the rule
pub cleared_at : (z : Shape) (k : Settings) (a : Rgb) (f : Plane (Shown Rgb)) (y x t : ℕ) → Larger (map_entry z k a f y x) k.t0 t → cleared z k a f y x ≡ recover3 a (f y x).value t
unfolding cleared
cleared_at z k a f y x t l = ap (recover3 a (f y x).value) (⊎_elim (λ e. omega arith) (λ e. omega arith) l.one)

-- and of the picture that Clear leaves, by the map's own entry and the frame's own pixel
pub clear_at :
    (p : Setup) (frame : List ℕ) (y x t : ℕ)
    → y < p.size.h
    → x < p.size.w
    → Larger (values (shape p) (clear p frame).map y x) p.settings.t0 t
    → pixels (shape p) (clear p frame).picture y x ≡ recover3 p.light (pixels (shape p) frame y x) t
unfolding clear
clear_at p frame y x t hy hx l =
    let z = shape p in
    pixels_bytes z _ y x hy hx
    ∙ cleared_at z p.settings p.light (shown_by p frame) y x t (rw (values_entries z _ y x hy hx) at l)
    ∙ ap (λ (i : Rgb). recover3 p.light i t) (masked_value z p.mask frame y x)

-- and that a call leaves which keeps its promise and is not refused
pub clears_at :
    (p : Setup) (l m : Lent) (r : Result ℕ Refusal) (y x t : ℕ)
    → Clears p l r m
    → said r ≡ 0
    → y < p.size.h
    → x < p.size.w
    → Larger (values (shape p) m.map y x) p.settings.t0 t
    → pixels (shape p) m.picture y x ≡ recover3 p.light (pixels (shape p) l.frame y x) t
clears_at p l m r y x t q e hy hx h =
    let free : no_clear p l ≡ 0 = or_free _ _ _ q.answer e in
    let left : m ≡ after_clear p l = rw free at q.after in
    rw left (clear_at p l.frame y x t hy hx (rw left at h))
