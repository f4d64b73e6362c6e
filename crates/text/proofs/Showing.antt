-- An accepted frame is neither refused by Light nor by Clear, and what the two leave is what is written. Assumes nothing.
use mathlib.Core.Path.{◌≡◌, sym, ap, ap₂, subst, ◌∙◌}
use mathlib.Core.Bool.{false, not}
use mathlib.Core.List.{List, ◌++◌}
use Prim.Native.Nat.{ℕ, ◌+◌, ◌*◌, max, ◌≤◌}
use native.Mathlib.Nat.{mul-le-mul}
use native.Mathlib.Omega.{arith}
use lib.Dec.{eqb}
use lib.IntN.{ℤ}
use lib.ListN.{length, take, replicate}
use lib.Seq.{length-take-le}
use borrow.Author.Tests.{eq-eqb, ne_eqb, le-ltb}
use Rattle.std.specs.Prelude.{Result, Ok, IsOk, is_ok}
use Rattle.rules.specs.Answers.{or}
use Rattle.rules.specs.Shape.{Shape, described, room}
use Rattle.rules.specs.declared.Size.{Size}
use Rattle.rules.specs.declared.Settings.{Settings}
use Rattle.rules.specs.declared.Rgb.{Rgb}
use Rattle.rules.specs.declared.Finding.{Finding}
use Rattle.rules.specs.declared.Refusal.{Refusal}
use Rattle.rules.specs.Window.{Plane, Shown}
use Rattle.rules.specs.Light.{light}
use Rattle.rules.specs.Setup.{handed}
use Rattle.rules.specs.Buffers.{masked, clear}
use Rattle.rules.specs.Refusals.{bad_frame, bad_map, bad_mask, bad_work, bad_light, bad_seen, refuse_light, refuse_clear}
use Rattle.rules.specs.Promise.{finding, Lent, lent_of, no_light, no_clear, after_clear, Lights, Clears}
use Rattle.rules.proofs.Answers.{or_is, or_done, made}
use Rattle.fields.specs.Written.{Wrote}
use Rattle.fields.proofs.Written.{then}
use Rattle.records.specs.Judging.{cells}
use Rattle.text.specs.Text.{outs, light_line, ones, shown}
use Rattle.text.specs.Ready.{Ready, Accepted}
use Rattle.records.proofs.Frames.{sides, few}
use Rattle.text.proofs.Ones.{ones_begin, ones_length, ones_seen}

lit : (n : ℕ) → eqb (max 1 n) 0 ≡ false
lit n = ne_eqb (max 1 n) 0 (λ e. let z : ⊥ = omega arith in z)

pub light_good : (z : Shape) (k : Settings) (f : Plane (Shown Rgb)) → bad_light (light z k f) ≡ false
unfolding bad_light light
light_good z k f = rw (lit, lit, lit)

module _ (z : Size) (k : Settings) (mask : List ℕ) (frame entries picture work out : ℕ) (r : Ready z k mask frame entries picture work out) where
  mask_good : bad_mask z (length mask) ≡ false
  unfolding bad_mask
  mask_good = ap not (eq-eqb (length mask) (z.w * z.h) (ones_length z mask r.mask_is))

  frame_good : bad_frame z frame ≡ false
  unfolding bad_frame
  frame_good = ap not (eq-eqb frame (3 * (z.w * z.h)) r.frame_is)

  picture_good : bad_frame z picture ≡ false
  unfolding bad_frame
  picture_good = ap not (eq-eqb picture (3 * (z.w * z.h)) r.picture_is)

  entries_good : bad_map z entries ≡ false
  unfolding bad_map
  entries_good = ap not (eq-eqb entries (z.w * z.h) r.entries_is)

  work_good : bad_work z work ≡ false
  unfolding bad_work
  work_good = le-ltb work (room (described z)) r.work_room

  pub accept_light : refuse_light z k (length mask) (bad_seen mask) frame work ≡ 0
  unfolding refuse_light
  accept_light = rw (r.size_good, r.settings_good, frame_good, mask_good, work_good, ones_seen z mask r.size_good r.mask_is)

  pub accept_clear : (a : Rgb) → bad_light a ≡ false → refuse_clear z k a (length mask) frame entries picture work ≡ 0
  unfolding refuse_clear
  accept_clear a h = rw (r.size_good, r.settings_good, frame_good, mask_good, picture_good, entries_good, work_good, h)

-- ---- what the promises come to for a frame that is ready

-- an answer of a call that is not refused has the value
pub value_is : {A : Type 0} (n : ℕ) (v a : A) (r : Result A Refusal) → r ≡ or n v → n ≡ 0 → r ≡ Ok a → a ≡ v
value_is n v a r e z q = (or_is n v a (sym q ∙ e)).1

pub not_refused : {A : Type 0} (n : ℕ) (v : A) (r : Result A Refusal) → r ≡ or n v → n ≡ 0 → IsOk r
not_refused n v r e z = ap is_ok (e ∙ sym (or_done n v z))

pub all_shown : (z : Size) (k : Settings) (mask frame : List ℕ) (a : Rgb) (entries picture : List ℕ) (n : ℕ) (out mid out' : List ℕ) (at end : ℕ)
    → mask ≡ ones z → a ≡ light (described z) k (masked (described z) mask frame) → n ≡ cells z
    → entries ≡ (clear (handed z k a mask) frame).map → picture ≡ (clear (handed z k a mask) frame).picture
    → Wrote (light_line a) out 0 mid at → Wrote (outs n entries picture) mid at out' end → Wrote (shown z k frame) out 0 out' end
unfolding shown
all_shown z k mask frame a entries picture n out mid out' at end em ea en ee ep w v =
    let light_by : List ℕ → Rgb = λ q. light (described z) k (masked (described z) q frame) in
    let all : List ℕ → Rgb → ℕ → List ℕ = λ q x m. let s = clear (handed z k x q) frame in light_line x ++ outs m s.map s.picture in
    let e : light_line a ++ outs n entries picture ≡ all (ones z) (light_by (ones z)) (cells z) =
    ap₂ (λ (x y : List ℕ). light_line a ++ outs n x y) ee ep ∙ ap₂ (all mask) ea en ∙ ap (λ (q : List ℕ). all q (light_by q) (cells z)) em in
    subst (λ (l : List ℕ). Wrote l out 0 out' end) e (then w v)

module _ (z : Size) (k : Settings) (mask : List ℕ) (l : Lent) (out : ℕ)
    (ready : Ready z k mask (length l.frame) (length l.map) (length l.picture) (length l.work) out)
    (r : Result Finding Refusal) (work' : List ℤ) (found : Lights z k mask l.frame l.work r work') where
  pub light_done : IsOk r
  light_done = not_refused (no_light z k mask l.frame l.work) _ r found.answer (accept_light z k mask _ _ _ _ out ready)

  module _ (f : Finding) (q : r ≡ Ok f) (kept : length work' ≡ length l.work) where
    light_is : f ≡ finding z k mask l.frame
    light_is = value_is (no_light z k mask l.frame l.work) _ f r found.answer (accept_light z k mask _ _ _ _ out ready) q

    light_by : f.light ≡ light (described z) k (masked (described z) mask l.frame)
    light_by = ap (λ (x : Finding). x.light) light_is

    -- the buffers as Clear is lent them, and that it does not refuse them
    abbrev lent : Lent
    lent = lent_of l.frame l.map l.picture work'

    accepted : no_clear (handed z k f.light mask) lent ≡ 0
    accepted =
        let good : bad_light f.light ≡ false = ap bad_light light_by ∙ light_good (described z) k (masked (described z) mask l.frame) in
        let ready' : Ready z k mask (length l.frame) (length l.map) (length l.picture) (length work') out =
        subst (λ (n : ℕ). Ready z k mask (length l.frame) (length l.map) (length l.picture) n out) (sym kept) ready in
        accept_clear z k mask _ _ _ _ out ready' f.light good

    pub cleared_done : (b : Result ℕ Refusal) (m : Lent) → Clears (handed z k f.light mask) lent b m → IsOk b
    cleared_done b m c = not_refused (no_clear (handed z k f.light mask) lent) _ b c.answer accepted

    pub finished : (b : Result ℕ Refusal) (m : Lent) (before mid after : List ℕ) (at end : ℕ)
        → Clears (handed z k f.light mask) lent b m → length m.map ≡ length l.map
        → Wrote (light_line f.light) before 0 mid at → Wrote (outs (length m.map) m.map m.picture) mid at after end
        → Wrote (shown z k l.frame) before 0 after end
    finished b m before mid after at end cleared same w v =
        let p = handed z k f.light mask in
        let state : m ≡ after_clear p lent = cleared.after ∙ sym (made (no_clear p lent) (after_clear p lent) lent accepted) in
        all_shown z k mask l.frame f.light m.map m.picture (length m.map) before mid after at end ready.mask_is light_by (same ∙ ready.entries_is)
        (ap (λ (x : Lent). x.map) state) (ap (λ (x : Lent). x.picture) state) w v

-- ---- an accepted frame, with memory for the largest, is ready

pub prepared : (z : Size) (k : Settings) (frame entries picture : List ℕ) (work out : ℕ) → Accepted z k (length frame) out
    → 576 ≤ length entries → 1728 ≤ length picture → 5000 ≤ work
    → Ready z k (take (cells z) (replicate 576 1)) (length (take (3 * cells z) frame)) (length (take (cells z) entries)) (length (take (3 * cells z) picture)) work out
prepared z k frame entries picture work out a he hp hw =
    let n : cells z ≤ 576 = few z a.size_small in
    let s = sides z a.size_small in
    let m : (z.w + 1) * (z.h + 1) ≤ 625 = mul-le-mul (let x : z.w + 1 ≤ 25 = omega arith in x) (let y : z.h + 1 ≤ 25 = omega arith in y) in
    record {
      size_good = a.size_good;
      settings_good = a.settings_good;
      mask_is = ones_begin z 576 n;
      frame_is = length-take-le (3 * cells z) frame (omega (arith, a.frame_room));
      entries_is = length-take-le (cells z) entries (omega arith);
      picture_is = length-take-le (3 * cells z) picture (omega arith);
      work_room = omega arith;
      out_room = omega (arith, a.out_room);
    }
