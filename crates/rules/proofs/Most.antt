-- No refusal number is above 15: of any list of numbered tests whose numbers are not, and so of each operation's. Assumes nothing.
use mathlib.Core.Path.{◌≡◌, refl, sym}
use mathlib.Core.Bool.{Bool, true, false, cond, true≢false}
use mathlib.Core.List.{List, [], ◌∷◌}
use lib.Dec.{leb}
use lib.ListN.{length}
use lib.IntN.{ℤ}
use Prim.Native.Nat.{ℕ, ◌≤◌}
use native.Mathlib.Omega.{arith}
use Rattle.std.proofs.lemmas.Bool.{leb-true}
use Rattle.rules.specs.declared.Size.{Size}
use Rattle.rules.specs.declared.Settings.{Settings}
use Rattle.rules.specs.declared.Rgb.{Rgb}
use Rattle.rules.specs.declared.Rect.{Rect}
use Rattle.rules.specs.Setup.{Setup}
use Rattle.rules.specs.Refusals.{Tests, first, bad_seen, tests_light, tests_clear, tests_replace, tests_haze, tests_band, refuse_light, refuse_clear, refuse_replace, refuse_haze, refuse_band}
use Rattle.rules.specs.Promise.{Lent, no_light, no_clear, no_replace}

-- each number is at most 15
abbrev pub low : Tests → Bool
low [] = true
low (c ∷ l) = cond (leb c.0 15) (low l) false

pub first_most : (l : Tests) → low l ≡ true → first l ≤ 15
first_most [] h = omega arith
first_most (c ∷ l) h = go c.1 (leb c.0 15) refl h (first_most l)
  where
    go : (b k : Bool) → leb c.0 15 ≡ k → cond k (low l) false ≡ true → (low l ≡ true → first l ≤ 15) → cond b c.0 (first l) ≤ 15
    go b false e h rest = absurd (true≢false (sym h))
    go true true e h rest = leb-true c.0 15 e
    go false true e h rest = rest h

-- ---- each operation

pub light_most : (z : Size) (k : Settings) (mask frame : List ℕ) (work : List ℤ) → no_light z k mask frame work ≤ 15
unfolding refuse_light
light_most z k mask frame work = first_most (tests_light z k (length mask) (bad_seen mask) (length frame) (length work)) refl

pub clear_most : (p : Setup) (l : Lent) → no_clear p l ≤ 15
unfolding refuse_clear
clear_most p l =
    first_most
    (tests_clear p.size p.settings p.light (length p.mask) (length l.frame) (length l.map) (length l.picture) (length l.work))
    refl

pub replace_most : (p : Setup) (c : Rect) (new : List ℕ) (l : Lent) → no_replace p c new l ≤ 15
unfolding refuse_replace
replace_most p c new l =
    first_most
    (tests_replace p.size p.settings p.light c (length new) (length p.mask) (length l.frame) (length l.map) (length l.picture) (length l.work))
    refl

pub haze_most : (z : Size) (a : Rgb) (clean : ℕ) (map : List ℕ) (hazed : ℕ) → refuse_haze z a clean map hazed ≤ 15
unfolding refuse_haze
haze_most z a clean map hazed = first_most (tests_haze z a clean map hazed) refl

pub band_most : (z : Size) (map : List ℕ) (start end : ℕ) → refuse_band z map start end ≤ 15
unfolding refuse_band
band_most z map start end = first_most (tests_band z map start end) refl
