-- What the count of comparisons depends on, so that a caller can plan by the size alone. A call that is done says a number that the size and s determine
-- (`took_count`): two calls with the same size and s say the same, whatever their frames, masks, lights, other settings and buffers (`took_same`), and the
-- budget is that number (`took_budget`). It is at most 6 a pixel (`took_most`, `replaced_most`), and 0 where s is 0 (`took_none`). What is refused has the budget 0. Assumes nothing.
use mathlib.Core.Path.{◌≡◌, refl, sym, ap, ◌∙◌}
use mathlib.Core.Bool.{Bool, true, false, cond, ◌||◌}
use mathlib.Core.List.{List}
use Prim.Native.Nat.{ℕ, zero, suc, ◌*◌, ◌≤◌, ◌<◌}
use native.Mathlib.Nat.{mul-le-mul, mul-le-mul_left, mul_comm}
use native.Mathlib.Omega.{arith}
use borrow.Author.Tests.{lt-ltb, le-ltb}
use lib.Dec.{ltb}
use lib.ListN.{length}
use lib.IntN.{ℤ}
use Rattle.rules.specs.Shape.{Shape, described}
use Rattle.rules.specs.declared.Size.{Size}
use Rattle.rules.specs.declared.Settings.{Settings}
use Rattle.rules.specs.declared.Rect.{Rect}
use Rattle.rules.specs.declared.Finding.{Finding}
use Rattle.std.specs.Prelude.{Ok}
use Rattle.rules.specs.Setup.{Setup, shape}
use Rattle.rules.specs.Good.{GoodSize, GoodRect}
use Rattle.rules.specs.Refusals.{bad_size, bad_settings, bad_seen}
use Rattle.rules.specs.Count.{comparisons, samples, frame_comparisons, part_shape}
use Rattle.rules.specs.Promise.{Lent, Lights, Clears, Replaces, Budgets}
use Rattle.rules.proofs.Good.{size_good, settings_good, rect_good}
use Rattle.rules.proofs.Answers.{or_is}
use Rattle.rules.proofs.Exactly.{light_exact, clear_exact, replace_exact}
use Rattle.rules.proofs.Count.{samples_at_most, zero_count}
use Rattle.rules.proofs.Grown.{grown_good}

-- ---- the frame

-- at most 3 a pixel for the rows, and 3 for the columns
lines_most : (s n m : ℕ) → m * comparisons s (samples n) ≤ 3 * (n * m)
lines_most s n m =
    let e : m * (3 * n) ≡ 3 * (n * m) = omega arith in
    rw e at (mul-le-mul_left m (samples_at_most s n))

pub frame_most : (z : Shape) (s : ℕ) → frame_comparisons z s ≤ 6 * (z.w * z.h)
unfolding frame_comparisons
frame_most z s = omega (arith, lines_most s z.w z.h, lines_most s z.h z.w, mul_comm z.w z.h)

pub frame_none : (z : Shape) → frame_comparisons z 0 ≡ 0
unfolding frame_comparisons
frame_none z = rw (sym (zero_count z.w), sym (zero_count z.h)) (omega arith)

-- ---- the part about a rectangle, which Replace works out

-- its size
abbrev pub part : Setup → Rect → Size
part p c = let b = part_shape (shape p) p.settings c in record { w = b.w; h = b.h }

module _ (p : Setup) (c : Rect) where
  part_wide : (part p c).w ≤ p.size.w
  part_wide = omega arith

  part_tall : (part p c).h ≤ p.size.h
  part_tall = omega arith

  part_area : (part p c).w * (part p c).h ≤ p.size.w * p.size.h
  part_area = mul-le-mul part_wide part_tall

  part_good : GoodSize (shape p) → GoodRect (shape p) c → GoodSize (described (part p c))
  part_good g i =
      let r = grown_good (shape p) _ c i in
      record {
        across = r.some_w;
        down = r.some_h;
        wide = omega (arith, part_wide, g.wide);
        tall = omega (arith, part_tall, g.tall);
        area = omega (arith, part_area, g.area);
      }

size_free : (z : Size) → GoodSize (described z) → bad_size z ≡ false
unfolding bad_size
size_free z g =
    rw (
      le-ltb z.w 1 g.across,
      le-ltb 1024 z.w g.wide,
      le-ltb z.h 1 g.down,
      le-ltb 1024 z.h g.tall,
      le-ltb 262144 (z.w * z.h) g.area,
    )

-- ---- a call that is done

-- it says n comparisons at radius s, Light and Clear for a frame of size z, Replace for a part of that size
pub data Took : Size → ℕ → ℕ → Type 0 where
  lit : {z : Size} {k : Settings} {mask frame : List ℕ} {work work' : List ℤ} {f : Finding} → Lights z k mask frame work (Ok f) work' → Took z k.s f.comparisons
  cleared : {p : Setup} {l m : Lent} {n : ℕ} → Clears p l (Ok n) m → Took p.size p.settings.s n
  replaced : {p : Setup} {c : Rect} {new : List ℕ} {l m : Lent} {n : ℕ} → Replaces p c new l (Ok n) m → Took (part p c) p.settings.s n

-- size and radius are in range, and they determine the number
pub record Determined (z : Size) (s n : ℕ) : Type 0 where
  pub size : GoodSize (described z)
  pub radius : s ≤ 30
  pub count : n ≡ frame_comparisons (described z) s

pub took_count : (z : Size) (s n : ℕ) → Took z s n → Determined z s n
took_count z s n (lit {k = k} {mask = mask} {frame = frame} {work = work} q) =
    let a = or_is _ _ _ q.answer in
    let free = (light_exact z k (length mask) (bad_seen mask) (length frame) (length work)).free a.0 in
    record { size = size_good z free.0; radius = (settings_good k free.1.0).s_most; count = ap (λ (f : Finding). f.comparisons) a.1 }
took_count z s n (cleared {p = p} {l = l} q) =
    let a = or_is _ _ _ q.answer in
    let free = (clear_exact p l).free a.0 in
    record { size = size_good p.size free.0; radius = (settings_good p.settings free.1.0).s_most; count = a.1 }
took_count z s n (replaced {p = p} {c = c} {new = new} {l = l} q) =
    let a = or_is _ _ _ q.answer in
    let free = (replace_exact p c new l).free a.0 in
    record {
      size = part_good p c (size_good p.size free.0) (rect_good p.size c free.1.1.1.1.1.0);
      radius = (settings_good p.settings free.1.0).s_most;
      count = a.1;
    }

pub took_same : (z : Size) (s n m : ℕ) → Took z s n → Took z s m → n ≡ m
took_same z s n m t u = (took_count z s n t).count ∙ sym (took_count z s m u).count

pub took_budget : (z : Size) (s n r : ℕ) → Took z s n → Budgets z s r → r ≡ n
took_budget z s n r t b =
    let d = took_count z s n t in
    let e : r ≡ frame_comparisons (described z) s = rw (size_free z d.size, le-ltb 30 s d.radius) at b.answer in
    e ∙ sym d.count

pub took_most : (z : Size) (s n : ℕ) → Took z s n → n ≤ 6 * (z.w * z.h)
took_most z s n t = omega (arith, (took_count z s n t).count, frame_most (described z) s)

pub took_none : (z : Size) (n : ℕ) → Took z 0 n → n ≡ 0
took_none z n t = (took_count z 0 n t).count ∙ frame_none (described z)

-- Replace takes at most 6 for each pixel of the whole frame, too
pub replaced_most : (p : Setup) (c : Rect) (new : List ℕ) (l m : Lent) (n : ℕ) → Replaces p c new l (Ok n) m → n ≤ 6 * (p.size.w * p.size.h)
replaced_most p c new l m n q =
    omega (arith, took_most (part p c) p.settings.s n (replaced q), part_area p c)

-- ---- what is refused: a size that every call refuses, and a radius that all settings are refused for, have the budget 0

either_none : (a b : Bool) (n : ℕ) → b ≡ true → cond (a || b) 0 n ≡ 0
either_none true b n e = refl
either_none false b n e = rw e

pub budget_no_size : (z : Size) (s r : ℕ) → Budgets z s r → bad_size z ≡ true → r ≡ 0
budget_no_size z s r b e = rw e at b.answer

pub budget_no_radius : (z : Size) (k : Settings) (r : ℕ) → Budgets z k.s r → 30 < k.s → (r ≡ 0) × (bad_settings k ≡ true)
unfolding bad_settings
budget_no_radius z k r b h =
    let e : ltb 30 k.s ≡ true = lt-ltb 30 k.s h in
    (b.answer ∙ either_none (bad_size z) (ltb 30 k.s) _ e, rw e)
