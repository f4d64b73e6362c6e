-- From the promise of a public call to that of its exported function. The values that the call was handed are those that C handed over. Assumes nothing.
use mathlib.Core.Path.{◌≡◌}
use Prim.Native.Nat.{ℕ}
use mathlib.Core.List.{List}
use lib.ListN.{length}
use lib.IntN.{ℤ}
use Rattle.std.specs.Prelude.{Result}
use Rattle.rules.specs.declared.Size.{Size}
use Rattle.rules.specs.declared.Settings.{Settings}
use Rattle.rules.specs.declared.Rgb.{Rgb}
use Rattle.rules.specs.declared.Rect.{Rect}
use Rattle.rules.specs.declared.Figure.{Figure}
use Rattle.rules.specs.declared.Finding.{Finding}
use Rattle.rules.specs.declared.Band.{Band}
use Rattle.rules.specs.declared.Refusal.{Refusal}
use Rattle.rules.specs.Setup.{handed}
use Rattle.rules.specs.Shape.{described}
use Rattle.rules.specs.Count.{clear_comparisons, replace_comparisons}
use Rattle.rules.specs.Answers.{said, left}
use Rattle.rules.specs.Promise.{band_said, wiped, finding, no_light, no_clear, no_replace, after_clear, after_replace, Lent, Lights, Clears, Replaces, Hazes, Bands, Budgets}
use Rattle.boundary.specs.Handed.{figure_after}
use Rattle.rules.proofs.Most.{light_most, clear_most, replace_most, haze_most, band_most}
use Rattle.boundary.proofs.Told.{answered_returns, valued_returns, figured_returns, both_return}
use Rattle.haze_c.specs.Calls.{light_places, frame_places, LightReturns, ClearReturns, ReplaceReturns, AddReturns, BandReturns}

-- ---- an answer with no value

pub add_returns :
    {z z' : Size} {a a' : Rgb} {clean map out out' : List ℕ} {r : Result (Unit {0}) Refusal} {n : ℕ}
    → z ≡ z'
    → a ≡ a'
    → Hazes z a clean map out r out'
    → n ≡ said r
    → AddReturns z' a' clean map out n out'
add_returns {z} {a} {clean} {map} {out} sized lit p told =
    rw (← sized, ← lit) (answered_returns _ _ _ _ (haze_most z a (length clean) map (length out)) p.answer p.after told)

-- ---- an answer with a value

pub clear_returns :
    {z z' : Size} {k k' : Settings} {a a' : Rgb} {mask : List ℕ} {l m : Lent} {c c' n : ℕ} {r : Result ℕ Refusal}
    → z ≡ z'
    → k ≡ k'
    → a ≡ a'
    → Clears (handed z k a mask) l r m
    → (n ≡ said r) × (c' ≡ left r c)
    → ClearReturns (handed z' k' a' mask) (frame_places l c) n (frame_places m c')
clear_returns {z} {k} {a} {mask} {l} {c} sized set lit q told =
    let p = handed z k a mask in
    let no = no_clear p l in
    let count = clear_comparisons p in
    rw (← sized, ← set, ← lit) (both_return frame_places no (after_clear p l) l count c q.after (valued_returns no count c (clear_most p l) q.answer told))

pub replace_returns :
    {z z' : Size} {k k' : Settings} {a a' : Rgb} {c c' : Rect} {mask new : List ℕ} {l m : Lent} {count count' n : ℕ} {r : Result ℕ Refusal}
    → z ≡ z'
    → k ≡ k'
    → a ≡ a'
    → c ≡ c'
    → Replaces (handed z k a mask) c new l r m
    → (n ≡ said r) × (count' ≡ left r count)
    → ReplaceReturns (handed z' k' a' mask) c' new (frame_places l count) n (frame_places m count')
replace_returns {z} {k} {a} {c} {mask} {new} {l} {count} sized set lit placed q told =
    let p = handed z k a mask in
    let no = no_replace p c new l in
    let taken = replace_comparisons p c in
    rw (← sized, ← set, ← lit, ← placed)
    (both_return frame_places no (after_replace p c new l) l taken count q.after (valued_returns no taken count (replace_most p c new l) q.answer told))

pub light_returns :
    {z z' : Size} {k k' : Settings} {mask frame : List ℕ} {w v : List ℤ} {p f : Finding} {r : Result Finding Refusal} {n : ℕ}
    → z ≡ z'
    → k ≡ k'
    → Lights z k mask frame w r v
    → (n ≡ said r) × (f ≡ left r p)
    → LightReturns z' k' mask frame (light_places w p) n (light_places v f)
light_returns {z} {k} {mask} {frame} {w} {p} sized set q told =
    let no = no_light z k mask frame w in
    let new = finding z k mask frame in
    rw (← sized, ← set)
    (both_return light_places no (wiped (described z) w) w new p q.after (valued_returns no new p (light_most z k mask frame w) q.answer told))

pub band_returns :
    {z z' : Size} {map : List ℕ} {start end : ℕ} {p f : Figure} {r : Band} {n : ℕ}
    → z ≡ z'
    → Bands z map start end r
    → (n ≡ band_said r) × (f ≡ figure_after r p)
    → BandReturns z' map start end p n f
band_returns {z} {map} {start} {end} sized q told = rw (← sized) (figured_returns _ _ _ (band_most z map start end) q.answer told)

-- ---- no answer: a number

pub budget_is : {z z' : Size} {s n : ℕ} → z ≡ z' → Budgets z s n → Budgets z' s n
budget_is sized q = rw (← sized) q
