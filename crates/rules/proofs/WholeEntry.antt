-- The map entry of a seen pixel against the guided filter in exact arithmetic on the same coarse values, held alike: less than 1 + 766/1024
-- ten-thousandths too low and less than 765/1024 too high (`entry_off`), and so within 7/4 and 3/4 (`entry_quarters`). Assumes nothing.
use mathlib.Core.Path.{◌≡◌, ap}
use mathlib.Core.Bool.{true}
use mathlib.Core.List.{List, [], ◌∷◌, map}
use Prim.Native.Nat.{ℕ, ◌+◌, ◌*◌, ◌≤◌, ◌<◌}
use native.Mathlib.Nat.{mul-pos, mul-le-mul_left, mul-le-mul_right}
use native.Mathlib.Omega.{arith}
use lib.ListN.{length, length-map}
use lib.IntN.{ℤ, pos, ◌+ℤ◌, ◌*ℤ◌}
use lib.Signed.{shr_z}
use Rattle.rules.specs.Shape.{Shape}
use Rattle.rules.specs.declared.Settings.{Settings}
use Rattle.rules.specs.declared.Rgb.{Rgb}
use Rattle.rules.specs.Window.{Plane, Shown, alike, window, total_z}
use Rattle.rules.specs.Light.{guide}
use Rattle.rules.specs.Transmission.{Sample, sample, Sg, slope, offset, Line, line, fit, refine_of, refine, refined, map_entry}
use Rattle.rules.specs.Fraction.{Fraction, whole, ◌+ᶠ◌, ◌*ᶠ◌, ◌/ᶠ◌, heldᶠ, sum, Off}
use Rattle.rules.specs.Exact.{slopeᶠ, offsetᶠ, Lineᶠ, lineᶠ, fitᶠ, refineᶠ, refinedᶠ, entry_under, entry_over}
use Rattle.rules.proofs.Fold.{fold_map}
use Rattle.rules.proofs.Signs.{up, down, plus_is, times_is, shr_is}
use Rattle.rules.proofs.Worth.{Worth, worth_as, worth_scale, worth_over, worth_part, worth_add, worth_line}
use Rattle.rules.proofs.WorthOrder.{lt_worth}
use Rattle.rules.proofs.WorthHeld.{Held, worth_hold}
use Rattle.rules.proofs.Windowed.{All, none, more, all_window, map_window}
use Rattle.rules.proofs.Seen.{window_some, entry_seen}
use Rattle.rules.proofs.WholeLine.{Near}
use Rattle.rules.proofs.WholeSums.{Full, bottoms, bottoms_pos, windows_near}

-- ---- the refined value, before and after it is held

-- with a name for each product: the last floor is 1024·D·N more below
module _ (X Y p q N n_d zu zd dvu dvd : ℕ) (h : zu + p ≡ q + zd) where
  last_low : X + p + N ≤ Y + q + 766 * n_d → zu + dvd + 1 ≤ zd + dvu + 1024 * n_d → X + dvd + 1 ≤ Y + dvu + 1790 * n_d
  last_low a b = omega arith

  last_high : 0 < N → Y + q + N ≤ X + p + 765 * n_d → dvu + zd ≤ zu + dvd → dvu + Y + 1 ≤ X + dvd + 765 * n_d
  last_high c a b = omega arith

module _ (g N D : ℕ) (h_n : 0 < N) (h_d : 0 < D) where
  balanced : (u d w e zu zd : ℕ) → zu + (d * g + e) ≡ u * g + w + zd → D * zu + (D * (d * g) + D * e) ≡ D * (u * g) + D * w + D * zd
  balanced u d w e zu zd h = omega (arith, ap (λ (n : ℕ). D * n) h)

  least_of : (zu zd vu vd : ℕ) → zu + 1024 * N * vd < zd + 1024 * N * vu + 1024 * N → D * zu + D * N * 1024 * vd + 1 ≤ D * zd + D * N * 1024 * vu + 1024 * (D * N)
  least_of zu zd vu vd h = omega (arith, mul-le-mul_left D h, h_d)

  most_of : (zu zd vu vd : ℕ) → 1024 * N * vu + zd ≤ zu + 1024 * N * vd → D * N * 1024 * vu + D * zd ≤ D * zu + D * N * 1024 * vd
  most_of zu zd vu vd h = omega (arith, mul-le-mul_left D h)

  under_is : (c x p q x' : ℕ) → 1024 * x + p + N ≤ 1024 * x' + q + c * (N * D) → x * 1024 + p + N ≤ x' * 1024 + q + c * (D * N)
  under_is c x p q x' h = omega (arith, h)

  module _ (A B : Fraction) (a b : ℤ) (m : Near g N A B a b D) where
    balance : up (a *ℤ pos g +ℤ b) + (down a * g + down b) ≡ up a * g + up b + down (a *ℤ pos g +ℤ b)
    balance = omega (arith, times_is a (pos g), plus_is (a *ℤ pos g) b)

    entry_held : Held (heldᶠ 10000 (A /ᶠ whole N *ᶠ whole g +ᶠ B /ᶠ whole N)) (refine_of N a b g) (D * N) 1024 1790 765 1
    entry_held =
        let f = shr_is (a *ℤ pos g +ℤ b) (1024 * N) (omega arith) in
        let c = mul-pos h_d h_n in
        let v : ℤ = shr_z (a *ℤ pos g +ℤ b) (1024 * N) in
        let h = balanced (up a) (down a) (up b) (down b) _ _ balance in
        worth_hold 10000 (D * N) 1024 1790 765 1 v (omega arith) c (omega (arith, c)) (omega (arith, c)) (worth_line g N h_n m.slopes m.offsets)
        (last_low _ _ _ _ N (D * N) _ _ _ _ h (under_is 766 _ _ _ _ m.low) (least_of _ _ (up v) (down v) f.least))
        (last_high _ _ _ _ N (D * N) _ _ _ _ h h_n (under_is 765 _ _ _ _ m.high) (most_of _ _ (up v) (down v) f.most))

-- ---- from sums to windows

pub refineᶠ_is : {W : Type 0} (a b : W → Fraction) (g : ℕ) (ls : List W)
    → refineᶠ g (map (λ (w : W). record { a = a w; b = b w }) ls) ≡ sum a ls /ᶠ whole (length ls) *ᶠ whole g +ᶠ sum b ls /ᶠ whole (length ls)
unfolding refineᶠ
refineᶠ_is {W} a b g ls =
    let f : W → Lineᶠ = λ w. record { a = a w; b = b w } in
    rw (← fold_map (λ (i : Lineᶠ) s. i.a +ᶠ s) (whole 0) f ls, ← fold_map (λ (i : Lineᶠ) s. i.b +ᶠ s) (whole 0) f ls, length-map ls f)

refine_is : (e g : ℕ) (ls : List (List Sample)) → refine g (map (line e) ls) ≡ refine_of (length ls) (total_z (slope e) ls) (total_z (offset e) ls) g
unfolding refine line
refine_is e g ls =
    rw (← fold_map (λ (i : Line) s. i.a +ℤ s) (pos 0) (line e) ls, ← fold_map (λ (i : Line) s. i.b +ℤ s) (pos 0) (line e) ls, length-map ls (line e))

guides : (l : List Sample) → All (λ (i : Sample). i.g ≤ 765) l → Sg l ≤ 765 * length l
guides [] none = omega arith
guides (i ∷ l) (more h k) = let r = guides l k in omega arith

window_full :
    (z : Shape) (k : Settings) (a : Rgb) (f : Plane (Shown Rgb))
    → ((v u : ℕ) → guide (f v u).value ≤ 765)
    → (v u : ℕ)
    → v < z.h
    → u < z.w
    → (f v u).seen ≡ true
    → Full (window z k.r (sample z k a f) v u)
unfolding sample
window_full z k a f bytes v u hv hu s =
    record {
      some = window_some z k.r (sample z k a f) v u hv hu s;
      most = guides _ (all_window (λ (i : Sample). i.g ≤ 765) z k.r (sample z k a f) v u (λ v' u' _ _. bytes v' u'));
    }

-- ---- within any bounds that are at least 1790 and 765 of 1024

module _ {under over : Fraction} (m n : ℕ) (wm : Worth under m 0 1024) (wn : Worth over n 0 1024) (hm : 1790 ≤ m) (hn : 765 ≤ n) where
  off : (t D : ℕ) (p : Fraction) → 0 < D → Held p t D 1024 1790 765 1 → Off under over t p
  off t D p h_d h =
      let lo = h.low in
      let hi = h.high in
      let a = mul-le-mul_right D hm in
      let b = mul-le-mul_right D hn in
      let w = worth_scale 1024 h.worth in
      let u = worth_as (m * D) 0 (D * 1024) (worth_scale D wm) (omega arith) (omega arith) in
      let v = worth_as (n * D) 0 (D * 1024) (worth_scale D wn) (omega arith) (omega arith) in
      record {
        number = h.worth.some;
        low = lt_worth (omega arith) w (worth_add (worth_over t (D * 1024)) u) (omega arith);
        high = lt_worth (omega arith) (worth_over t (D * 1024)) (worth_add w v) (omega arith);
      }

  -- the filter over any windows that have pixels
  filter_within : (e g : ℕ) → 0 < e → g ≤ 765 → (ls : List (List Sample)) → 0 < length ls → All Full ls
      → Off under over (refine g (map (line e) ls)) (heldᶠ 10000 (refineᶠ g (map (lineᶠ e) ls)))
  unfolding lineᶠ
  filter_within e g he hg ls h_n f =
      let h_d = bottoms_pos e he ls f in
      let w = windows_near e g he hg ls f in
      rw (refineᶠ_is (slopeᶠ e) (offsetᶠ e) g ls, refine_is e g ls) (off _ (bottoms e ls * length ls) _ (mul-pos h_d h_n) (entry_held g (length ls) (bottoms e ls) h_n h_d _ _ _ _ w))

  entry_within : (z : Shape) (k : Settings) (a : Rgb) (f : Plane (Shown Rgb)) (y x : ℕ) → 0 < k.e → ((v u : ℕ) → guide (f v u).value ≤ 765) → y < z.h → x < z.w
      → (f y x).seen ≡ true
      → Off under over (map_entry z k a f y x) (heldᶠ 10000 (refinedᶠ z k a f y x))
  unfolding refined refinedᶠ fit fitᶠ
  entry_within z k a f y x he bytes hy hx s =
      let W : Plane (Shown (List Sample)) = λ v u. alike (λ _. window z k.r (sample z k a f) v u) (f v u) in
      rw (entry_seen z k a f y x s)
      (rw (map_window (line k.e) z k.r W y x, map_window (lineᶠ k.e) z k.r W y x) at
      (filter_within k.e (guide (f y x).value) he (bytes y x) (window z k.r W y x) (window_some z k.r W y x hy hx s)
      (all_window Full z k.r W y x (λ v u w. window_full z k a f bytes v u w.row w.column))))

module _ (z : Shape) (k : Settings) (a : Rgb) (f : Plane (Shown Rgb)) (y x : ℕ) (he : 0 < k.e) (bytes : (v u : ℕ) → guide (f v u).value ≤ 765) (hy : y < z.h) (hx : x < z.w) (s : (f y x).seen ≡ true) where
  pub entry_off : Off entry_under entry_over (map_entry z k a f y x) (heldᶠ 10000 (refinedᶠ z k a f y x))
  entry_off =
      entry_within _ _ (worth_add (worth_over 1 1024) (worth_part _ 1024 1 (omega arith))) (worth_part _ 1024 1 (omega arith)) (omega arith) (omega arith) z k a f y x he bytes hy hx s

  pub entry_quarters : Off (whole 7 /ᶠ whole 4) (whole 3 /ᶠ whole 4) (map_entry z k a f y x) (heldᶠ 10000 (refinedᶠ z k a f y x))
  entry_quarters = entry_within _ _ (worth_part 7 4 256 (omega arith)) (worth_part 3 4 256 (omega arith)) (omega arith) (omega arith) z k a f y x he bytes hy hx s
