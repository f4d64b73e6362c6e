-- What Replace does, pixel by pixel. The frame has the new pixels in the rectangle (`pasted_inside`) and the old ones outside (`pasted_outside`), seen and
-- hidden as before (`shown_inside`, `shown_outside`). Map entries and cleared pixels at most s + 2·r rows and s + 2·r columns from the rectangle are
-- those of a clearing of the new frame: of the rules (`replace_anew`), and of a call that keeps its promise (`replaces_anew`). All others stay
-- (`Run.replace_alone`, `Run.replaces_alone`). To be so near the rectangle is to have a pixel of it so near (`near_some`, `some_near`). Assumes nothing.
use mathlib.Core.Path.{◌≡◌, sym, ap₂, ◌∙◌}
use mathlib.Core.Logic.{⊎_elim}
use mathlib.Core.Bool.{Bool, true}
use mathlib.Core.List.{List}
use Prim.Native.Nat.{ℕ, ◌+◌, ◌-◌, ◌*◌, ◌≤◌, ◌<◌, min, max}
use native.Mathlib.Omega.{arith}
use Rattle.rules.specs.Shape.{Shape}
use Rattle.rules.specs.declared.Rect.{Rect}
use Rattle.std.specs.Prelude.{Result}
use Rattle.rules.specs.declared.Refusal.{Refusal}
use Rattle.rules.specs.Window.{Plane}
use Rattle.rules.specs.Setup.{Setup, shape}
use Rattle.rules.specs.Good.{GoodRect}
use Rattle.rules.specs.Buffers.{pixels, seen_in, masked, values, State, clear, near, patch, placed, pasted, reach, replace}
use Rattle.rules.specs.Answers.{said}
use Rattle.rules.specs.Promise.{Lent, state, no_replace, after_replace, Replaces}
use Rattle.rules.proofs.Near.{Near, near_yes, far_no, near_or_far}
use Rattle.rules.proofs.Buffers.{values_entries, pixels_bytes}
use Rattle.rules.proofs.Good.{rect_good}
use Rattle.rules.proofs.Exactly.{replace_exact}
use Rattle.rules.proofs.Answers.{or_free}
use Rattle.rules.proofs.Run.{patch_no}

-- (y, x) is a pixel of the rectangle
pub record Inside (c : Rect) (y x : ℕ) : Type 0 where
  pub top : c.y ≤ y
  pub bottom : y < c.y + c.h
  pub left : c.x ≤ x
  pub right : x < c.x + c.w

-- (v, u) is at most q rows and q columns from (y, x)
pub record Close (q y x v u : ℕ) : Type 0 where
  pub above : y ≤ v + q
  pub below : v ≤ y + q
  pub left : x ≤ u + q
  pub right : u ≤ x + q

pub near_some : (q : ℕ) (c : Rect) (y x : ℕ) → 0 < c.w → 0 < c.h → Near q c y x → (v : ℕ) × (u : ℕ) × Inside c v u × Close q y x v u
near_some q c y x hw hh n = (
  max c.y (min y (c.y + c.h - 1)),
  max c.x (min x (c.x + c.w - 1)),
  record { top = omega arith; bottom = omega arith; left = omega arith; right = omega arith },
  record { above = omega arith; below = omega arith; left = omega arith; right = omega arith },
)

pub some_near : (q : ℕ) (c : Rect) (y x v u : ℕ) → Inside c v u → Close q y x v u → Near q c y x
some_near q c y x v u i d =
    record { top = omega arith; bottom = omega arith; left = omega arith; right = omega arith }

-- ---- the frame

patch_yes : {A : Type 0} (t : ℕ → ℕ → Bool) (new old : Plane A) (y x : ℕ) → t y x ≡ true → patch t new old y x ≡ new y x
unfolding patch
patch_yes t new old y x e = rw e

-- the rectangle as a frame of its own
abbrev pub sides : Rect → Shape
sides c = record { w = c.w; h = c.h }

module _ (z : Shape) (c : Rect) (new frame : List ℕ) where
  pub pasted_inside : GoodRect z c → (v u : ℕ) → v < c.h → u < c.w → pixels z (pasted z c new frame) (c.y + v) (c.x + u) ≡ pixels (sides c) new v u
  unfolding placed
  pasted_inside g v u hv hu =
      let n : Near 0 c (c.y + v) (c.x + u) = record { top = omega arith; bottom = omega arith; left = omega arith; right = omega arith } in
      pixels_bytes z _ (c.y + v) (c.x + u) (omega arith) (omega arith)
      ∙ patch_yes (near 0 c) (placed c new) _ (c.y + v) (c.x + u) (near_yes 0 c (c.y + v) (c.x + u) n)
      ∙ ap₂ (pixels (sides c) new) (omega arith) (omega arith)

  pub pasted_outside : (y x : ℕ) → y < z.h → x < z.w → (Inside c y x → ⊥) → pixels z (pasted z c new frame) y x ≡ pixels z frame y x
  pasted_outside y x hy hx o =
      pixels_bytes z _ y x hy hx
      ∙ patch_no (near 0 c) (placed c new) _ y x
      (⊎_elim
      (λ (n : Near 0 c y x). absurd (o (record { top = omega arith; bottom = omega arith; left = omega arith; right = omega arith })))
      (far_no 0 c y x)
      (near_or_far 0 c y x))

  -- the mask stays: a pixel is seen or hidden as before, and new pixels enter under hidden places too
  pub shown_inside :
      GoodRect z c
      → (mask : List ℕ) (v u : ℕ)
      → v < c.h
      → u < c.w
      → masked z mask (pasted z c new frame) (c.y + v) (c.x + u) ≡ record { seen = seen_in z mask (c.y + v) (c.x + u); value = pixels (sides c) new v u }
  unfolding masked
  shown_inside g mask v u hv hu = cc (pasted_inside g v u hv hu)

  pub shown_outside : (mask : List ℕ) (y x : ℕ) → y < z.h → x < z.w → (Inside c y x → ⊥) → masked z mask (pasted z c new frame) y x ≡ masked z mask frame y x
  unfolding masked
  shown_outside mask y x hy hx o = cc (pasted_outside y x hy hx o)

-- ---- map and picture

pub record Anew (p : Setup) (c : Rect) (new : List ℕ) (m : State) : Type 0 where
  pub frame : (v u : ℕ) → v < c.h → u < c.w → pixels (shape p) m.frame (c.y + v) (c.x + u) ≡ pixels (sides c) new v u
  pub map : (y x : ℕ) → y < p.size.h → x < p.size.w → Near (p.settings.s + 2 * p.settings.r) c y x → values (shape p) m.map y x ≡ values (shape p) (clear p m.frame).map y x
  pub picture : (y x : ℕ) → y < p.size.h → x < p.size.w → Near (p.settings.s + 2 * p.settings.r) c y x → pixels (shape p) m.picture y x ≡ pixels (shape p) (clear p m.frame).picture y x

module _ (p : Setup) (c : Rect) (new : List ℕ) where
  pub replace_anew : (s : State) → GoodRect (shape p) c → Anew p c new (replace p c new s)
  unfolding replace clear
  replace_anew s g =
      let z = shape p in
      let k = p.settings in
      let e : k.s + 2 * k.r ≡ reach k = omega arith in
      let close : (y x : ℕ) → Near (k.s + 2 * k.r) c y x → near (reach k) c y x ≡ true = λ y x n. near_yes (reach k) c y x (rw e at n) in
      record {
        frame = pasted_inside z c new s.frame g;
        map = λ y x hy hx n. values_entries z _ y x hy hx ∙ patch_yes (near (reach k) c) _ _ y x (close y x n) ∙ sym (values_entries z _ y x hy hx);
        picture = λ y x hy hx n. pixels_bytes z _ y x hy hx ∙ patch_yes (near (reach k) c) _ _ y x (close y x n) ∙ sym (pixels_bytes z _ y x hy hx);
      }

  pub replaces_anew : (l m : Lent) (r : Result ℕ Refusal) → Replaces p c new l r m → said r ≡ 0 → Anew p c new (state m)
  replaces_anew l m r q e =
      let free : no_replace p c new l ≡ 0 = or_free _ _ _ q.answer e in
      let left : m ≡ after_replace p c new l = rw free at q.after in
      rw left (replace_anew (state l) (rect_good p.size c ((replace_exact p c new l).free free).1.1.1.1.1.0))
