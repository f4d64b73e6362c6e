-- THE BRIDGE: rows and then columns of spans are the least value over the rules' square. Assumes nothing.
use mathlib.Core.Path.{◌≡◌, refl, sym, ◌∙◌}
use Prim.Native.Nat.{ℕ, zero, suc, ◌+◌, ◌-◌, ◌≤◌, ◌<◌, min}
use native.Mathlib.Omega.{arith}
use Rattle.rules.specs.Window.{Plane, least, square}
use Rattle.rules.specs.Fold.{Σ}
use Rattle.rules.proofs.Fold.{least_square}
use Rattle.rules.specs.Count.{lo, hi}
use Rattle.windows.specs.Span.{run, span, windowed}
use Rattle.windows.proofs.Spans.{span_cong}

run_front : (f : ℕ → ℕ) (a d : ℕ) → run min f a (suc d) ≡ min (f a) (run min f (suc a) d)
unfolding run
run_front f a zero = let e : a + 1 ≡ suc a = omega arith in rw e
run_front f a (suc d) =
    let e : a + suc (suc d) ≡ suc a + suc d = omega arith in
    rw (e, run_front f a d) (omega arith)

-- the fold that starts at top
run_fold : (top : ℕ) (f : ℕ → ℕ) (a d : ℕ) → Σ min top a (suc d) f ≡ min (run min f a d) top
unfolding run
run_fold top f a zero = refl
run_fold top f a (suc d) = rw (run_fold top f (suc a) d, run_front f a d) (omega arith)

run_le : (top : ℕ) (f : ℕ → ℕ) (a d : ℕ) → f a ≤ top → run min f a d ≤ top
unfolding run
run_le top f a zero h = h
run_le top f a (suc d) h = omega (arith, run_le top f a d h)

fold_le : (top : ℕ) (f : ℕ → ℕ) (a n : ℕ) → Σ min top a n f ≤ top
fold_le top f a zero = omega arith
fold_le top f a (suc n) = omega (arith, fold_le top f (suc a) n)

-- a window on a line, as a span and as a fold
line_bridge : (top end s p : ℕ) (f : ℕ → ℕ) → p < end → f (p - s) ≤ top
    → windowed min f s end p ≡ Σ min top (p - s) (min end (p + s + 1) - (p - s)) f
unfolding span
line_bridge top end s p f l h =
    let d : ℕ = hi s end p - lo s p in
    let z : min end (p + s + 1) - (p - s) ≡ suc d = omega arith in
    rw (z, run_fold top f (p - s) d) (omega (arith, run_le top f (p - s) d h))

-- two lines that agree have the same windows
pub windowed_cong : (s n p : ℕ) (f g : ℕ → ℕ) → p < n → ((i : ℕ) → i < n → f i ≡ g i) → windowed min f s n p ≡ windowed min g s n p
windowed_cong s n p f g l e = span_cong min f g (lo s p) (hi s n p) (omega arith) (λ i a b. e i (omega arith))

pub bridge : (top w h s : ℕ) (f : Plane ℕ) → ((y x : ℕ) → y < h → x < w → f y x ≤ top)
    → (y x : ℕ) → y < h → x < w → windowed min (λ v. windowed min (f v) s w x) s h y ≡ least top (square w h s f y x)
bridge top w h s f le y x hy hx =
    windowed_cong s h y (λ v. windowed min (f v) s w x) (λ v. Σ min top (x - s) (min w (x + s + 1) - (x - s)) (f v)) hy
    (λ v hv. line_bridge top w s x (f v) hx (le v (x - s) hv (omega arith)))
    ∙ line_bridge top h s y (λ v. Σ min top (x - s) (min w (x + s + 1) - (x - s)) (f v)) hy (fold_le top (f (y - s)) (x - s) (min w (x + s + 1) - (x - s)))
    ∙ sym (least_square top w h s f y x)
