-- `clearing::paste` meets its contract: after j turns the first j rows of the new pixels are in the frame. Assumes nothing.
use mathlib.Core.Path.{◌≡◌, ◌∙◌, refl, sym}
use mathlib.Core.List.{List}
use Prim.Native.Nat.{ℕ, ◌+◌, ◌-◌, ◌*◌, ◌≤◌, ◌<◌}
use native.Mathlib.Nat.{mul-le-mul_right}
use native.Mathlib.Omega.{arith}
use lib.ListN.{length, get_or, take, drop, length-drop, get_or-eq_default}
use lib.Seq.{get_or-take, get_or-drop, length-take-le}
use Rattle.rules.specs.Shape.{described}
use Rattle.writer.specs.Run.{Run}
use Rattle.writer.proofs.Runs.{run_as}
use Rattle.writer.proofs.Rows.{bytes_none, bytes_more, upto_bytes}
use Rattle.writer.proofs.Placed.{Row, row_of, placed_at}
use Rattle.clearing.proofs.paste.Goals as goal
use Rattle.clearing.proofs.paste.Goals.{In-loop-j}

-- n entries of src, from a place on, in the place of a part of n entries
run_copied : (src part : List ℕ) (from n k : ℕ) → k ≡ n → length part ≡ n → from + n ≤ length src → Run (λ i. get_or src i 0) from n part (take k (drop from src))
run_copied src part from n k e long room = record {
  same = copied ∙ e ∙ sym long;
  in_run = λ i h. get_or-take k (drop from src) i 0 (omega arith) ∙ get_or-drop from src i 0;
  past = λ i h. get_or-eq_default (take k (drop from src)) 0 (omega (arith, copied)) ∙ sym (get_or-eq_default part 0 (omega arith));
}
  where
    copied : length (take k (drop from src)) ≡ k
    copied = length-take-le k (drop from src) (simp length-drop (omega arith))

wide : (t : In-loop-j) → 0 < t.args.z.w
wide t = omega (arith, t.requires.0.some_w, t.requires.0.across)

-- the row of this turn lies in the frame, its pixels among the new ones
turn : (t : In-loop-j) →
    let d = t.args in
    let j = t.loop-j.j in
    Row d.z.w d.z.h (d.c.y + j)
    × (d.c.x + d.c.w ≤ d.z.w)
    × (length t.loop-j.frame ≡ 3 * (d.z.w * d.z.h))
    × (3 * (j * d.c.w) + 3 * d.c.w ≤ length d.new.now)
turn t =
    let d = t.args in
    let j = t.loop-j.j in
    let l : j < d.c.h = t.loop-j-test.true in
    let e : (j + 1) * d.c.w ≤ d.c.h * d.c.w = mul-le-mul_right d.c.w (omega arith) in
    let g = t.requires.0 in
    (row_of d.z.w d.z.h (d.c.y + j) (wide t) (omega (arith, g.down)), g.across, t.loop-j.auto.frame ∙ t.requires.1, omega (arith, t.requires.2))

pub loop-j-init : goal.loop-j-init
loop-j-init c = bytes_none c.args.z.w c.args.c _ _

pub slice_bounds-copy-end : goal.slice_bounds-copy-end
slice_bounds-copy-end c = omega (arith, turn (goal.at.slice_bounds-copy-end c).In-loop-j)

pub loop-j-preserved : goal.loop-j-preserved
loop-j-preserved c =
    let d = c.args in
    let l = c.loop-j in
    let j = l.j in
    let t = (goal.at.loop-j-preserved c).In-loop-j in
    let r = turn t in
    let to = 3 * ((d.c.y + j) * d.z.w + d.c.x) in
    let from = 3 * (j * d.c.w) in
    let n = 3 * d.c.w in
    let part = take (to + n - to) (drop to l.frame) in
    let long : length part ≡ n = length-take-le (to + n - to) (drop to l.frame) (simp length-drop (omega (arith, r))) ∙ (let e : to + n - to ≡ n = omega arith in e) in
    let run : Run (λ i. get_or d.new.now i 0) from n part c.copy.new.out =
    rw c.copy.ensures.after (run_copied d.new.now part from n _ (omega arith) long r.3) in
    bytes_more d.z.w d.c (wide t) r.1 j _ d.frame.now l.frame c.copy.new.out to (to + n - to) l.invariant refl
    (run_as (λ i. get_or d.new.now i 0) _ from to n _ _ (λ i h. placed_at (described d.z) d.c d.new.now j i r.1 h) run)
    (omega (arith, r)) (omega (arith, r))

pub returns : goal.returns
returns c =
    let d = c.args in
    let l = c.loop-j in
    let e : l.j ≡ d.c.h = omega arith in
    upto_bytes (described d.z) d.c _ d.frame.now l.frame c.requires.1 (rw e at l.invariant)
