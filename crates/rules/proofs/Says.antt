-- A call says its refusal number, whatever it is handed: what its answer says is the number of the first test that holds, and 0 where none does. Assumes nothing.
use mathlib.Core.Path.{◌≡◌, ap, ◌∙◌}
use mathlib.Core.List.{List}
use lib.ListN.{length}
use lib.IntN.{ℤ}
use Prim.Native.Nat.{ℕ}
use Rattle.std.specs.Prelude.{Result}
use Rattle.rules.specs.declared.Size.{Size}
use Rattle.rules.specs.declared.Settings.{Settings}
use Rattle.rules.specs.declared.Rgb.{Rgb}
use Rattle.rules.specs.declared.Rect.{Rect}
use Rattle.rules.specs.declared.Finding.{Finding}
use Rattle.rules.specs.declared.Refusal.{Refusal}
use Rattle.rules.specs.declared.Band.{Band}
use Rattle.rules.specs.Setup.{Setup}
use Rattle.rules.specs.Refusals.{refuse_haze, refuse_band}
use Rattle.rules.specs.Answers.{said}
use Rattle.rules.specs.Promise.{band_said, no_light, no_clear, no_replace, Lent, Lights, Clears, Replaces, Hazes, Bands}
use Rattle.rules.proofs.Answers.{said_or, said_band}
use Rattle.rules.proofs.Most.{light_most, clear_most, replace_most, haze_most, band_most}

pub light_says :
    {z : Size} {k : Settings} {mask frame : List ℕ} {work work' : List ℤ} {r : Result Finding Refusal}
    → Lights z k mask frame work r work'
    → said r ≡ no_light z k mask frame work
light_says {z} {k} {mask} {frame} {work} p = ap said p.answer ∙ said_or _ _ (light_most z k mask frame work)

pub clear_says : {p : Setup} {l m : Lent} {r : Result ℕ Refusal} → Clears p l r m → said r ≡ no_clear p l
clear_says {p} {l} c = ap said c.answer ∙ said_or _ _ (clear_most p l)

pub replace_says : {p : Setup} {c : Rect} {new : List ℕ} {l m : Lent} {r : Result ℕ Refusal} → Replaces p c new l r m → said r ≡ no_replace p c new l
replace_says {p} {c} {new} {l} q = ap said q.answer ∙ said_or _ _ (replace_most p c new l)

pub haze_says :
    {z : Size} {a : Rgb} {clean map out out' : List ℕ} {r : Result (Unit {0}) Refusal}
    → Hazes z a clean map out r out'
    → said r ≡ refuse_haze z a (length clean) map (length out)
haze_says {z} {a} {clean} {map} {out} p = ap said p.answer ∙ said_or _ _ (haze_most z a (length clean) map (length out))

pub band_says : {z : Size} {map : List ℕ} {start end : ℕ} {r : Band} → Bands z map start end r → band_said r ≡ refuse_band z map start end
band_says {z} {map} {start} {end} p = ap band_said p.answer ∙ said_band _ _ (band_most z map start end)
