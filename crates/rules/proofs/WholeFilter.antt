-- The filter's gain, in exact arithmetic: two coarse maps that are at most h apart at each pixel have refined values at most (2r + 2)·h apart at each
-- seen pixel, before they are held (`filter_gain`). The maps may be in any unit. Assumes nothing.
use mathlib.Core.Path.{◌≡◌, refl, sym, ap, ◌∙◌}
use mathlib.Core.Bool.{Bool, true, false, cond}
use mathlib.Core.List.{List, [], ◌∷◌, ◌++◌, map}
use Prim.Native.Nat.{ℕ, zero, suc, ◌+◌, ◌*◌, ◌≤◌, ◌<◌}
use native.Mathlib.Nat.{mul-pos}
use native.Mathlib.Decide.{dec_le}
use native.Mathlib.Omega.{arith}
use lib.ListN.{length, length-map}
use Rattle.rules.specs.Shape.{Shape}
use Rattle.rules.specs.declared.Rgb.{Rgb}
use Rattle.rules.specs.Window.{Plane, Shown, alike, seen_of, from, flat, low, many, around, square, window}
use Rattle.rules.specs.Light.{guide}
use Rattle.rules.specs.Transmission.{Sample, Sg, Sgg, Q}
use Rattle.rules.specs.Fraction.{Fraction, whole, ◌+ᶠ◌, ◌*ᶠ◌, ◌/ᶠ◌, sum, Upto}
use Rattle.rules.specs.Exact.{slopeᶠ, offsetᶠ, lineᶠ, refineᶠ}
use Rattle.rules.proofs.Local.{Within}
use Rattle.rules.proofs.Spread.{Q_pos}
use Rattle.rules.proofs.Windowed.{All, none, more, all_window, map_window}
use Rattle.rules.proofs.Seen.{window_some, window_few, seen_append}
use Rattle.rules.proofs.WholeEntry.{refineᶠ_is}
use Rattle.rules.proofs.WholeLean.{Apart, none as none', more as more', Has, here, later}
use Rattle.rules.proofs.WholeSteps.{Good, steps, product_pos, step_mean}
use Rattle.rules.proofs.WholeGain.{window_gain}

-- ---- two coarse values at each pixel

record Pair : Type 0 where
  g : ℕ
  t : ℕ
  u : ℕ

abbrev left : Pair → Sample
left i = record { g = i.g; t = i.t }

abbrev right : Pair → Sample
right i = record { g = i.g; t = i.u }

apart_map : (h : ℕ) (l : List Pair) → All (λ (i : Pair). (i.t ≤ i.u + h) × (i.u ≤ i.t + h)) l → Apart h (map left l) (map right l)
apart_map h [] none = none'
apart_map h (i ∷ l) (more p k) = more' refl p.0 p.1 (apart_map h l k)

-- a seen pixel lies in each window about a pixel of its own window
has_first : {g : ℕ} {l : List Sample} (m : List Sample) → Has g l → Has g (l ++ m)
has_first m (here e) = here e
has_first m (later h) = later (has_first m h)

has_then : {g : ℕ} (l : List Sample) {m : List Sample} → Has g m → Has g (l ++ m)
has_then [] h = h
has_then (i ∷ l) h = later (has_then l h)

has_more : {g : ℕ} (i : Shown Sample) (l : List (Shown Sample)) → Has g (seen_of l) → Has g (seen_of (i ∷ l))
has_more {g} i l h = go i.seen
  where
    go : (b : Bool) → Has g (cond b (i.value ∷ seen_of l) (seen_of l))
    go true = later h
    go false = h

has_from : (a n : ℕ) (f : ℕ → Shown Sample) (i : ℕ) → a ≤ i → i < a + n → (f i).seen ≡ true → Has (f i).value.g (seen_of (from a n f))
has_from a zero f i h k s = absurd (omega arith)
has_from a (suc n) f i h k s = go (dec_le i a) (λ p q. has_from (suc a) n f i p q s)
  where
    go : Dec (i ≤ a) → (suc a ≤ i → i < suc a + n → Has (f i).value.g (seen_of (from (suc a) n f))) → Has (f i).value.g (seen_of (from a (suc n) f))
    go (yes l) r =
        let e : a ≡ i = omega arith in
        let t : (f a).seen ≡ true = ap (λ (j : ℕ). (f j).seen) e ∙ s in
        rw t (here (ap (λ (j : ℕ). (f j).value.g) e))
    go (no l) r = has_more (f a) (from (suc a) n f) (r (omega arith) (omega arith))

has_flat : {g : ℕ} (a n : ℕ) (f : ℕ → List (Shown Sample)) (i : ℕ) → a ≤ i → i < a + n → Has g (seen_of (f i)) → Has g (seen_of (flat (from a n f)))
has_flat a zero f i h k p = absurd (omega arith)
has_flat {g} a (suc n) f i h k p = rw (seen_append (f a) (flat (from (suc a) n f))) (go (dec_le i a) (λ q s. has_flat (suc a) n f i q s p))
  where
    go : Dec (i ≤ a) → (suc a ≤ i → i < suc a + n → Has g (seen_of (flat (from (suc a) n f)))) → Has g (seen_of (f a) ++ seen_of (flat (from (suc a) n f)))
    go (yes l) r = let e : a ≡ i = omega arith in has_first {l = seen_of (f a)} _ (rw e p)
    go (no l) r = has_then (seen_of (f a)) (r (omega arith) (omega arith))

has_window : (z : Shape) (q : ℕ) (s : Plane (Shown Sample)) (y x v u : ℕ) → y < z.h → x < z.w → (s y x).seen ≡ true → Within z q y x v u
    → Has (s y x).value.g (window z q s v u)
unfolding window square
has_window z q s y x v u hy hx e w =
    has_flat (low q v) (many z.h q v) (λ a. around z.w q u (λ b. s a b)) y (omega arith) (omega arith)
    (has_from (low q u) (many z.w q u) (λ b. s y b) x (omega arith) (omega arith) e)

-- ---- the filter over a whole coarse map t, in whatever unit

abbrev pub samples : Plane (Shown Rgb) → Plane ℕ → Plane (Shown Sample)
samples f t y x = alike (λ i. record { g = guide i; t = t y x }) (f y x)

abbrev pub filteredᶠ : Shape → ℕ → ℕ → Plane (Shown Rgb) → Plane ℕ → Plane Fraction
filteredᶠ z r e f t y x = refineᶠ (guide (f y x).value) (window z r (λ v u. alike (λ _. lineᶠ e (window z r (samples f t) v u)) (f v u)) y x)

abbrev pairs : Plane (Shown Rgb) → Plane ℕ → Plane ℕ → Plane (Shown Pair)
pairs f t u y x = alike (λ i. record { g = guide i; t = t y x; u = u y x }) (f y x)

module _ (z : Shape) (r e : ℕ) (f : Plane (Shown Rgb)) (t u : Plane ℕ) where
  -- the windows of the seen pixels
  abbrev windows : Plane (Shown (List Pair))
  windows v w = alike (λ _. window z r (pairs f t u) v w) (f v w)

  -- either side, by one list of windows
  mapped : (s : Pair → Sample) (y x : ℕ)
      → refineᶠ (guide (f y x).value) (window z r (λ v w. alike (λ _. lineᶠ e (window z r (λ b a. alike s (pairs f t u b a)) v w)) (f v w)) y x)
      ≡ refineᶠ (guide (f y x).value) (map (λ (l : List Pair). lineᶠ e (map s l)) (window z r windows y x))
  mapped s y x =
      (λ i. refineᶠ (guide (f y x).value) (window z r (λ v w. alike (λ _. lineᶠ e (sym (map_window s z r (pairs f t u) v w) i)) (f v w)) y x))
      ∙ ap (refineᶠ (guide (f y x).value)) (sym (map_window (λ (l : List Pair). lineᶠ e (map s l)) z r windows y x))

  means : (s : Pair → Sample) (y x : ℕ)
      → refineᶠ (guide (f y x).value) (window z r (λ v w. alike (λ _. lineᶠ e (window z r (λ b a. alike s (pairs f t u b a)) v w)) (f v w)) y x)
      ≡ sum (λ l. slopeᶠ e (map s l)) (window z r windows y x) /ᶠ whole (length (window z r windows y x)) *ᶠ whole (guide (f y x).value)
      +ᶠ sum (λ l. offsetᶠ e (map s l)) (window z r windows y x) /ᶠ whole (length (window z r windows y x))
  unfolding lineᶠ
  means s y x = mapped s y x ∙ refineᶠ_is (λ (l : List Pair). slopeᶠ e (map s l)) (λ l. offsetᶠ e (map s l)) (guide (f y x).value) (window z r windows y x)

  module _ (h : ℕ) (above : 0 < e) (p : (v w : ℕ) → t v w ≤ u v w + h) (q : (v w : ℕ) → u v w ≤ t v w + h) (y x : ℕ) (hy : y < z.h) (hx : x < z.w) (shown : (f y x).seen ≡ true) where
    good :
        (v w : ℕ)
        → Within z r y x v w
        → (f v w).seen ≡ true
        → Good
        ((2 * r + 2) * h)
        (guide (f y x).value)
        (λ l. slopeᶠ e (map left l))
        (λ l. offsetᶠ e (map left l))
        (λ l. slopeᶠ e (map right l))
        (λ l. offsetᶠ e (map right l))
        (λ l. length (map left l) * Q (length (map left l)) (Sg (map left l)) (Sgg (map left l)) e)
        (window z r (pairs f t u) v w)
    good v w i s =
        let l : List Pair = window z r (pairs f t u) v w in
        let some : 0 < length (map left l) = rw (length-map l left) (window_some z r (pairs f t u) v w i.row i.column s) in
        let few : length (map left l) ≤ (2 * r + 1) * (2 * r + 1) = rw (length-map l left) (window_few z r (pairs f t u) v w) in
        let has : Has (guide (f y x).value) (map left l) = rw (map_window left z r (pairs f t u) v w) (has_window z r (samples f t) y x v w hy hx shown i) in
        let a = apart_map h l (all_window (λ (i : Pair). (i.t ≤ i.u + h) × (i.u ≤ i.t + h)) z r (pairs f t u) v w (λ b a _ _. (p b a, q b a))) in
        let one : 2 * r + 1 + 1 ≡ 2 * r + 2 = omega arith in
        record { some = mul-pos some (Q_pos e (map left l) some above); step = rw one at (window_gain e (2 * r + 1) h (guide (f y x).value) above few has a) }

    pub filter_gain : Upto (whole ((2 * r + 2) * h)) (filteredᶠ z r e f t y x) (filteredᶠ z r e f u y x)
    filter_gain =
        let ls : List (List Pair) = window z r windows y x in
        let k = all_window _ z r windows y x good in
        rw (means left y x, means right y x) (step_mean (window_some z r windows y x hy hx shown) (product_pos _ _ _ _ _ _ _ ls k) (steps _ _ _ _ _ _ _ ls k))
