-- What stands at a hidden pixel. Its map entry is 10,000 and its colour is the pixel itself: of the rules (`cleared_hidden`), of Clear (`clear_hidden`) and
-- after any run of replacements (`ran_hidden`). New pixels enter the frame at hidden places too (`replaces_hidden`). And no divisor is 0, since a hidden
-- pixel has none and the windows of a seen one have a pixel (`divisors`). Assumes nothing.
use mathlib.Core.Path.{◌≡◌, ◌∙◌}
use mathlib.Core.Bool.{true, false}
use mathlib.Core.List.{List}
use Prim.Native.Nat.{ℕ, ◌+◌, ◌*◌, max, ◌≤◌, ◌<◌}
use native.Mathlib.Omega.{arith}
use lib.ListN.{length}
use Rattle.rules.specs.Shape.{Shape}
use Rattle.rules.specs.declared.Settings.{Settings}
use Rattle.rules.specs.declared.Rgb.{Rgb}
use Rattle.rules.specs.declared.Rect.{Rect}
use Rattle.std.specs.Prelude.{Result}
use Rattle.rules.specs.declared.Refusal.{Refusal}
use Rattle.rules.specs.Window.{Plane, Shown, window}
use Rattle.rules.specs.Transmission.{sample, fit, Sg, Sgg, Q}
use Rattle.rules.specs.Picture.{recover3, cleared}
use Rattle.rules.specs.Setup.{Setup, shape}
use Rattle.rules.specs.Buffers.{pixels, seen_in, values, State, shown_by, clear}
use Rattle.rules.specs.Answers.{said}
use Rattle.rules.specs.Promise.{Lent, state, no_replace, Replaces}
use Rattle.rules.specs.Run.{Ran}
use Rattle.rules.proofs.Buffers.{values_entries, pixels_bytes, masked_seen, masked_value}
use Rattle.rules.proofs.Recover.{recover_whole}
use Rattle.rules.proofs.Seen.{window_some, entry_hidden}
use Rattle.rules.proofs.Spread.{Q_pos}
use Rattle.rules.proofs.Near.{Near}
use Rattle.rules.proofs.Good.{settings_good, rect_good}
use Rattle.rules.proofs.Exactly.{replace_exact}
use Rattle.rules.proofs.Answers.{or_free}
use Rattle.rules.proofs.Run.{ran_fresh}
use Rattle.rules.proofs.Pasted.{sides, replaces_anew}
use Rattle.rules.proofs.WholeNumbers.{Bytes, ran_settings}

-- ---- the colour

-- no channel is above 255
pub record Levels (i : Rgb) : Type 0 where
  pub red : i.r ≤ 255
  pub green : i.g ≤ 255
  pub blue : i.b ≤ 255

levels_of : (z : Shape) (l : List ℕ) → Bytes l → (y x : ℕ) → Levels (pixels z l y x)
unfolding pixels
levels_of z l b y x = record { red = b (3 * (y * z.w + x)); green = b (3 * (y * z.w + x) + 1); blue = b (3 * (y * z.w + x) + 2) }

recover_same : (a i : Rgb) → Levels i → recover3 a i 10000 ≡ i
unfolding recover3
recover_same a i h =
    let r = recover_whole a.r i.r h.red in
    let g = recover_whole a.g i.g h.green in
    let b = recover_whole a.b i.b h.blue in
    λ j. record { r = r j; g = g j; b = b j }

pub cleared_hidden : (z : Shape) (k : Settings) (a : Rgb) (f : Plane (Shown Rgb)) (y x : ℕ) → k.t0 ≤ 10000 → Levels (f y x).value → (f y x).seen ≡ false
    → cleared z k a f y x ≡ (f y x).value
unfolding cleared
cleared_hidden z k a f y x l h s =
    let t : max 10000 k.t0 ≡ 10000 = omega arith in
    rw (entry_hidden z k a f y x s, t) (recover_same a (f y x).value h)

-- ---- the buffers

-- at (y, x) the map has 10,000 and the picture the pixel i
pub record Copied (z : Shape) (s : State) (y x : ℕ) (i : Rgb) : Type 0 where
  pub entry : values z s.map y x ≡ 10000
  pub colour : pixels z s.picture y x ≡ i

module _ (p : Setup) (y x : ℕ) (hy : y < (shape p).h) (hx : x < (shape p).w) (hidden : seen_in (shape p) p.mask y x ≡ false) (floor : p.settings.t0 ≤ 10000) where
  pub clear_hidden : (frame : List ℕ) → Levels (pixels (shape p) frame y x) → Copied (shape p) (clear p frame) y x (pixels (shape p) frame y x)
  unfolding clear
  clear_hidden frame b =
      let z = shape p in
      let s : (shown_by p frame y x).seen ≡ false = masked_seen z p.mask frame y x ∙ hidden in
      let v : (shown_by p frame y x).value ≡ pixels z frame y x = masked_value z p.mask frame y x in
      record {
        entry = values_entries z _ y x hy hx ∙ entry_hidden z p.settings p.light (shown_by p frame) y x s;
        colour = pixels_bytes z _ y x hy hx ∙ cleared_hidden z p.settings p.light (shown_by p frame) y x floor (rw v b) s ∙ v;
      }

pub ran_hidden : (p : Setup) (m : Lent) → Ran p m → Bytes m.frame → (y x : ℕ) → y < (shape p).h → x < (shape p).w → seen_in (shape p) p.mask y x ≡ false
    → Copied (shape p) (state m) y x (pixels (shape p) m.frame y x)
ran_hidden p m h b y x hy hx s =
    rw (ran_fresh p m h) (clear_hidden p y x hy hx s (ran_settings p m h).floor_most m.frame (levels_of (shape p) m.frame b y x))

-- an accepted Replace whose rectangle covers a hidden place: the frame has the new pixel there, and the picture too
pub record Entered (z : Shape) (m : State) (y x : ℕ) (i : Rgb) : Type 0 where
  pub frame : pixels z m.frame y x ≡ i
  pub copied : Copied z m y x i

pub replaces_hidden :
    (p : Setup) (c : Rect) (new : List ℕ) (l m : Lent) (r : Result ℕ Refusal)
    → Replaces p c new l r m
    → said r ≡ 0
    → Bytes new
    → (v u : ℕ)
    → v < c.h
    → u < c.w
    → seen_in (shape p) p.mask (c.y + v) (c.x + u) ≡ false
    → Entered (shape p) (state m) (c.y + v) (c.x + u) (pixels (sides c) new v u)
replaces_hidden p c new l m r q d b v u hv hu s =
    let none : no_replace p c new l ≡ 0 = or_free _ _ _ q.answer d in
    let free = (replace_exact p c new l).free none in
    let k = settings_good p.settings free.1.0 in
    let g = rect_good p.size c free.1.1.1.1.1.0 in
    let a = replaces_anew p c new l m r q d in
    let hy : c.y + v < p.size.h = omega (arith, g.down) in
    let hx : c.x + u < p.size.w = omega (arith, g.across) in
    let n : Near (p.settings.s + 2 * p.settings.r) c (c.y + v) (c.x + u) = record { top = omega arith; bottom = omega arith; left = omega arith; right = omega arith } in
    let e = a.frame v u hv hu in
    let i : Levels (pixels (shape p) m.frame (c.y + v) (c.x + u)) = rw e (levels_of (sides c) new b v u) in
    let fresh = clear_hidden p (c.y + v) (c.x + u) hy hx s k.floor_most m.frame i in
    record {
      frame = e;
      copied = record { entry = a.map (c.y + v) (c.x + u) hy hx n ∙ fresh.entry; colour = a.picture (c.y + v) (c.x + u) hy hx n ∙ fresh.colour ∙ e };
    }

-- ---- no divisor is 0: n and Q of a seen pixel's line, and 1024·n of its refined value

pub record Divisors (z : Shape) (k : Settings) (a : Rgb) (f : Plane (Shown Rgb)) (y x : ℕ) : Type 0 where
  pub offsets : 0 < length (window z k.r (sample z k a f) y x)
  pub slopes :
      0
      < Q
      (length (window z k.r (sample z k a f) y x))
      (Sg (window z k.r (sample z k a f) y x))
      (Sgg (window z k.r (sample z k a f) y x))
      k.e
  pub lines : 0 < 1024 * length (window z k.r (fit z k a f) y x)

pub divisors : (z : Shape) (k : Settings) (a : Rgb) (f : Plane (Shown Rgb)) (y x : ℕ) → 0 < k.e → y < z.h → x < z.w → (f y x).seen ≡ true → Divisors z k a f y x
unfolding sample fit
divisors z k a f y x e hy hx s =
    let n = window_some z k.r (sample z k a f) y x hy hx s in
    record { offsets = n; slopes = Q_pos k.e (window z k.r (sample z k a f) y x) n e; lines = omega (arith, window_some z k.r (fit z k a f) y x hy hx s) }
