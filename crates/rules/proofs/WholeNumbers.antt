-- What the whole numbers cost, from the calls' promises alone. After an accepted Clear each map entry of a seen pixel is less than 1 + 766/1024
-- ten-thousandths too low and less than 765/1024 too high against the guided filter in exact arithmetic (`clear_entry`; `clear_quarters`: 7/4 and 3/4),
-- the coarse values that it goes by are never too low and less than 1 + ω too high (`clear_coarse`), and each byte of the picture is at most half a level
-- off (`clear_byte`). The same holds after any run of replacements (`ran_entry`, `ran_byte`). A hazed byte is at most half a level off (`haze_byte`).
-- The entry of a hidden pixel is 10,000, exactly (proofs/HiddenPixels). Assumes nothing.
use mathlib.Core.Path.{◌≡◌, refl, sym, ap, ◌∙◌}
use mathlib.Core.Bool.{true}
use mathlib.Core.List.{List}
use Prim.Native.Nat.{ℕ, zero, suc, ◌+◌, ◌*◌, max, ◌≤◌, ◌<◌}
use native.Mathlib.Omega.{arith}
use lib.ListN.{length, get_or}
use Rattle.rules.specs.Shape.{Shape, described}
use Rattle.rules.specs.declared.Size.{Size}
use Rattle.rules.specs.declared.Rgb.{Rgb}
use Rattle.std.specs.Prelude.{Result, Ok}
use Rattle.rules.specs.declared.Refusal.{Refusal}
use Rattle.rules.specs.Light.{guide}
use Rattle.rules.specs.Transmission.{coarse, map_entry}
use Rattle.rules.specs.Picture.{recover, recover3, cleared, haze, haze3}
use Rattle.rules.specs.Setup.{Setup, shape}
use Rattle.rules.specs.Buffers.{pixels, seen_in, masked, channel, values, hazed, State, shown_by, clear}
use Rattle.rules.specs.Good.{GoodSettings, GoodLight}
use Rattle.rules.specs.Refusals.{refuse_haze}
use Rattle.rules.specs.Answers.{said}
use Rattle.rules.specs.Promise.{Lent, state, lent, wiped, no_clear, Clears, Hazes}
use Rattle.rules.specs.Run.{Ran, cleared as after_clear, replaced as after_replace}
use Rattle.rules.specs.Fraction.{whole, ◌/ᶠ◌, Off, Over, Beside}
use Rattle.rules.specs.Exact.{coarseᶠ, mapᶠ, pictureᶠ, hazedᶠ, entry_under, entry_over, coarse_over, half}
use Rattle.rules.proofs.Buffers.{masked_seen, masked_value, values_entries, pixels_bytes}
use Rattle.rules.proofs.Good.{settings_good, light_good, entries_good}
use Rattle.rules.proofs.Exactly.{clear_exact, haze_exact}
use Rattle.rules.proofs.Answers.{or_is, or_free}
use Rattle.rules.proofs.Run.{ran_fresh}
use Rattle.rules.proofs.WholeEntry.{entry_off, entry_quarters}
use Rattle.rules.proofs.WholeCoarse.{coarse_off}
use Rattle.rules.proofs.WholeBytes.{recover_off, haze_off}

-- what a lent frame holds
abbrev pub Bytes : List ℕ → Type 0
Bytes l = (i : ℕ) → get_or l i 0 ≤ 255

guides : (z : Shape) (mask l : List ℕ) → Bytes l → (y x : ℕ) → guide (masked z mask l y x).value ≤ 765
unfolding pixels masked
guides z mask l b y x =
    let p : ℕ = y * z.w + x in
    let r = b (3 * p) in
    let g = b (3 * p + 1) in
    let u = b (3 * p + 2) in
    omega arith

-- ---- map and picture of a frame

record Ready (p : Setup) (frame : List ℕ) (s : State) : Type 0 where
  fresh : s ≡ clear p frame
  settings : GoodSettings p.settings
  light : GoodLight p.light

recovered : (a i : Rgb) (t c : ℕ) → channel c (recover3 a i t) ≡ recover (channel c a) (channel c i) t
unfolding recover3
recovered a i t zero = refl
recovered a i t (suc zero) = refl
recovered a i t (suc (suc c)) = refl

module _ (p : Setup) (frame : List ℕ) (s : State) (h : Ready p frame s) (y x : ℕ) (hy : y < (shape p).h) (hx : x < (shape p).w) where
  entry_is : values (shape p) s.map y x ≡ map_entry (shape p) p.settings p.light (shown_by p frame) y x
  unfolding clear
  entry_is = ap (λ (s : State). values (shape p) s.map y x) h.fresh ∙ values_entries (shape p) _ y x hy hx

  byte_is :
      (c : ℕ)
      → channel c (pixels (shape p) s.picture y x)
      ≡ recover (channel c p.light) (channel c (pixels (shape p) frame y x)) (max (values (shape p) s.map y x) p.settings.t0)
  unfolding clear cleared
  byte_is c =
      ap (λ (s : State). channel c (pixels (shape p) s.picture y x)) h.fresh
      ∙ ap (channel c) (pixels_bytes (shape p) _ y x hy hx)
      ∙ recovered p.light (shown_by p frame y x).value _ c
      ∙ ap (λ (i : Rgb). recover (channel c p.light) (channel c i) (max (map_entry (shape p) p.settings p.light (shown_by p frame) y x) p.settings.t0)) (masked_value (shape p) p.mask frame y x)
      ∙ ap (λ (t : ℕ). recover (channel c p.light) (channel c (pixels (shape p) frame y x)) (max t p.settings.t0)) (sym entry_is)

  module _ (e : seen_in (shape p) p.mask y x ≡ true) (b : Bytes frame) where
    shown : (shown_by p frame y x).seen ≡ true
    shown = masked_seen (shape p) p.mask frame y x ∙ e

    entry : Off entry_under entry_over (values (shape p) s.map y x) (mapᶠ p frame y x)
    entry = rw entry_is (entry_off (shape p) p.settings p.light (shown_by p frame) y x h.settings.e_some (guides (shape p) p.mask frame b) hy hx shown)

    quarters : Off (whole 7 /ᶠ whole 4) (whole 3 /ᶠ whole 4) (values (shape p) s.map y x) (mapᶠ p frame y x)
    quarters = rw entry_is (entry_quarters (shape p) p.settings p.light (shown_by p frame) y x h.settings.e_some (guides (shape p) p.mask frame b) hy hx shown)

  byte : (c : ℕ) → Beside half (channel c (pixels (shape p) s.picture y x)) (pictureᶠ p frame s.map c y x)
  byte c =
      let f = h.settings.floor_some in
      rw (byte_is c) (recover_off (channel c p.light) (channel c (pixels (shape p) frame y x)) (max (values (shape p) s.map y x) p.settings.t0) (omega arith))

-- ---- Clear

clear_ready : (p : Setup) (l : Lent) (r : Result ℕ Refusal) (m : Lent) → Clears p l r m → said r ≡ 0 → Ready p l.frame (state m)
clear_ready p l r m q d =
    let none : no_clear p l ≡ 0 = or_free _ _ _ q.answer d in
    let free = (clear_exact p l).free none in
    let left : m ≡ lent (clear p l.frame) (wiped (shape p) l.work) = rw none at q.after in
    record { fresh = ap state left; settings = settings_good p.settings free.1.0; light = light_good p.light free.1.1.1.1.0 }

module _ (p : Setup) (l : Lent) (r : Result ℕ Refusal) (m : Lent) (q : Clears p l r m) (d : said r ≡ 0) (y x : ℕ) (hy : y < (shape p).h) (hx : x < (shape p).w) where
  pub clear_entry : seen_in (shape p) p.mask y x ≡ true → Bytes l.frame → Off entry_under entry_over (values (shape p) m.map y x) (mapᶠ p l.frame y x)
  clear_entry = entry p l.frame (state m) (clear_ready p l r m q d) y x hy hx

  pub clear_quarters : seen_in (shape p) p.mask y x ≡ true → Bytes l.frame → Off (whole 7 /ᶠ whole 4) (whole 3 /ᶠ whole 4) (values (shape p) m.map y x) (mapᶠ p l.frame y x)
  clear_quarters = quarters p l.frame (state m) (clear_ready p l r m q d) y x hy hx

  pub clear_coarse :
      Over
      (coarse_over p.settings.omega)
      (coarse (shape p) p.settings p.light (shown_by p l.frame) y x)
      (coarseᶠ (shape p) p.settings p.light (shown_by p l.frame) y x)
  clear_coarse =
      let h = clear_ready p l r m q d in
      coarse_off (shape p) p.settings p.light (shown_by p l.frame) y x h.light h.settings.omega_most

  pub clear_byte : (c : ℕ) → Beside half (channel c (pixels (shape p) m.picture y x)) (pictureᶠ p l.frame m.map c y x)
  clear_byte = byte p l.frame (state m) (clear_ready p l r m q d) y x hy hx

-- ---- any run of replacements after it

pub ran_settings : (p : Setup) (m : Lent) → Ran p m → GoodSettings p.settings
ran_settings p _ (after_clear l m r q d) = (clear_ready p l r m q d).settings
ran_settings p _ (after_replace l m work c new r ran q) = ran_settings p l ran

ran_light : (p : Setup) (m : Lent) → Ran p m → GoodLight p.light
ran_light p _ (after_clear l m r q d) = (clear_ready p l r m q d).light
ran_light p _ (after_replace l m work c new r ran q) = ran_light p l ran

ran_ready : (p : Setup) (m : Lent) → Ran p m → Ready p m.frame (state m)
ran_ready p m h = record { fresh = ran_fresh p m h; settings = ran_settings p m h; light = ran_light p m h }

module _ (p : Setup) (m : Lent) (h : Ran p m) (y x : ℕ) (hy : y < (shape p).h) (hx : x < (shape p).w) where
  pub ran_entry : seen_in (shape p) p.mask y x ≡ true → Bytes m.frame → Off entry_under entry_over (values (shape p) m.map y x) (mapᶠ p m.frame y x)
  ran_entry = entry p m.frame (state m) (ran_ready p m h) y x hy hx

  pub ran_byte : (c : ℕ) → Beside half (channel c (pixels (shape p) m.picture y x)) (pictureᶠ p m.frame m.map c y x)
  ran_byte = byte p m.frame (state m) (ran_ready p m h) y x hy hx

-- ---- Haze

layered : (a j : Rgb) (t c : ℕ) → channel c (haze3 a j t) ≡ haze (channel c a) (channel c j) t
unfolding haze3
layered a j t zero = refl
layered a j t (suc zero) = refl
layered a j t (suc (suc c)) = refl

pub haze_byte :
    (z : Size) (a : Rgb) (clean map out : List ℕ) (r : Result (Unit {0}) Refusal) (out' : List ℕ)
    → Hazes z a clean map out r out'
    → r ≡ Ok tt
    → (y x : ℕ)
    → y < z.h
    → x < z.w
    → (c : ℕ)
    → Beside half (channel c (pixels (described z) out' y x)) (hazedᶠ (described z) a clean map c y x)
unfolding hazed values
haze_byte z a clean map out r out' q d y x hy hx c =
    let none : refuse_haze z a (length clean) map (length out) ≡ 0 = (or_is _ tt tt (sym d ∙ q.answer)).0 in
    let free = (haze_exact z a (length clean) map (length out)).free none in
    let left : out' ≡ hazed (described z) a clean map = rw none at q.after in
    let is = ap (λ (o : List ℕ). channel c (pixels (described z) o y x)) left ∙ ap (channel c) (pixels_bytes (described z) _ y x hy hx) in
    rw (is ∙ layered a (pixels (described z) clean y x) _ c) (haze_off (channel c a) (channel c (pixels (described z) clean y x)) _ (entries_good map free.1.1.1.1.0 (y * z.w + x)))
