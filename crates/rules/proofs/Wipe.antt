-- The work area after an accepted call: 0 in its first 8·(W+1)·(H+1) entries, the rest untouched, its length kept. Of the rules (`wiped_is`), and of
-- each call that is lent one and keeps its promise (`lights_wiped`, `clears_wiped`, `replaces_wiped`). Assumes nothing.
use mathlib.Core.Path.{◌≡◌, sym, ap, ◌∙◌}
use mathlib.Core.Bool.{Bool, false, ◌||◌}
use mathlib.Core.List.{List, ◌++◌}
use Prim.Native.Nat.{ℕ, ◌+◌, ◌-◌, ◌*◌, ◌≤◌, ◌<◌}
use native.Mathlib.Omega.{arith}
use lib.ListN.{length, get_or, drop, replicate, length-append, length-drop, length-replicate, get_or-replicate, get_or-append}
use lib.Seq.{get_or-append-add, get_or-drop}
use lib.IntN.{ℤ, pos}
use Rattle.rules.specs.Shape.{Shape, described, room}
use Rattle.rules.specs.declared.Size.{Size}
use Rattle.rules.specs.declared.Settings.{Settings}
use Rattle.rules.specs.declared.Rect.{Rect}
use Rattle.std.specs.Prelude.{Result}
use Rattle.rules.specs.declared.Refusal.{Refusal}
use Rattle.rules.specs.declared.Finding.{Finding}
use Rattle.rules.specs.Setup.{Setup, shape}
use Rattle.rules.specs.Refusals.{bad_mask, bad_frame, bad_map, bad_work, bad_seen}
use Rattle.rules.specs.Answers.{said}
use Rattle.rules.specs.Promise.{wiped, Lent, no_light, no_clear, no_replace, after_clear, after_replace, Lights, Clears, Replaces}
use Rattle.rules.proofs.Good.{neither, work_good}
use Rattle.rules.proofs.Exactly.{light_exact, clear_exact, replace_exact}
use Rattle.rules.proofs.Answers.{or_free}

-- work is the area before, work' afterwards; d stands for what is read past the end
pub record Wiped (w h : ℕ) (work work' : List ℤ) : Type 0 where
  pub front : (i : ℕ) (d : ℤ) → i < 8 * ((w + 1) * (h + 1)) → get_or work' i d ≡ pos 0
  pub rest : (i : ℕ) (d : ℤ) → 8 * ((w + 1) * (h + 1)) ≤ i → get_or work' i d ≡ get_or work i d
  pub same : length work' ≡ length work

-- n zeros, then the list from n on
module _ (n : ℕ) (l : List ℤ) where
  abbrev zeros : List ℤ
  zeros = replicate n (pos 0) ++ drop n l

  zeros_front : (i : ℕ) (d : ℤ) → i < n → get_or zeros i d ≡ pos 0
  zeros_front i d h =
      let j : i < length (replicate n (pos 0)) = rw (length-replicate n (pos 0)) h in
      get_or-append (replicate n (pos 0)) (drop n l) d i j ∙ get_or-replicate n i (pos 0) d h

  zeros_rest : (i : ℕ) (d : ℤ) → n ≤ i → get_or zeros i d ≡ get_or l i d
  zeros_rest i d h =
      let e : i ≡ length (replicate n (pos 0)) + (i - n) = omega (arith, length-replicate n (pos 0)) in
      let s : n + (i - n) ≡ i = omega arith in
      ap (λ (j : ℕ). get_or zeros j d) e
      ∙ get_or-append-add (replicate n (pos 0)) (drop n l) (i - n) d
      ∙ get_or-drop n l (i - n) d
      ∙ ap (λ (j : ℕ). get_or l j d) s

  zeros_length : n ≤ length l → length zeros ≡ length l
  zeros_length h = length-append (replicate n (pos 0)) (drop n l) ∙ omega (arith, length-replicate n (pos 0), length-drop n l)

pub wiped_is : (z : Shape) (work : List ℤ) → 8 * ((z.w + 1) * (z.h + 1)) ≤ length work → Wiped z.w z.h work (wiped z work)
unfolding wiped
wiped_is z work h =
    let n = room z in
    let e : 8 * ((z.w + 1) * (z.h + 1)) ≡ n = omega arith in
    record {
      front = λ i d j. zeros_front n work i d (omega arith);
      rest = λ i d j. zeros_rest n work i d (omega arith);
      same = zeros_length n work (omega arith);
    }

-- ---- of the calls

-- test 4 has the work area last
roomy : (z : Size) (others : Bool) (n : ℕ) → (others || bad_work z n) ≡ false → 8 * ((z.w + 1) * (z.h + 1)) ≤ n
roomy z others n e = omega (arith, work_good z n (neither others (bad_work z n) e).1)

pub lights_wiped :
    (z : Size) (k : Settings) (mask frame : List ℕ) (work work' : List ℤ) (r : Result Finding Refusal)
    → Lights z k mask frame work r work'
    → said r ≡ 0
    → Wiped z.w z.h work work'
lights_wiped z k mask frame work work' r q e =
    let n = no_light z k mask frame work in
    let free : n ≡ 0 = or_free n _ r q.answer e in
    let left : work' ≡ wiped (described z) work = rw free at q.after in
    let four = ((light_exact z k (length mask) (bad_seen mask) (length frame) (length work)).free free).1.1.1.0 in
    rw left (wiped_is (described z) work (roomy z (bad_mask z (length mask)) (length work) four))

module _ (p : Setup) where
  -- the others of test 4, for Clear and for Replace
  abbrev others : Lent → Bool
  others l = bad_mask p.size (length p.mask) || bad_frame p.size (length l.picture) || bad_map p.size (length l.map)

  pub clears_wiped : (l m : Lent) (r : Result ℕ Refusal) → Clears p l r m → said r ≡ 0 → Wiped p.size.w p.size.h l.work m.work
  clears_wiped l m r q e =
      let free : no_clear p l ≡ 0 = or_free _ _ _ q.answer e in
      let left : m ≡ after_clear p l = rw free at q.after in
      rw left (wiped_is (shape p) l.work (roomy p.size (others l) (length l.work) ((clear_exact p l).free free).1.1.1.0))

  pub replaces_wiped : (c : Rect) (new : List ℕ) (l m : Lent) (r : Result ℕ Refusal) → Replaces p c new l r m → said r ≡ 0 → Wiped p.size.w p.size.h l.work m.work
  replaces_wiped c new l m r q e =
      let free : no_replace p c new l ≡ 0 = or_free _ _ _ q.answer e in
      let left : m ≡ after_replace p c new l = rw free at q.after in
      rw left (wiped_is (shape p) l.work (roomy p.size (others l) (length l.work) ((replace_exact p c new l).free free).1.1.1.0))
