-- The two planes of samples, before any line is written and after: what the sums are given of them, and what they leave. Assumes nothing.
use mathlib.Core.Path.{◌≡◌, sym, ◌∙◌}
use mathlib.Core.Bool.{Bool, true, false, cond}
use mathlib.Core.List.{List}
use Prim.Native.Nat.{ℕ, ◌+◌, ◌*◌, ◌≤◌, ◌<◌}
use native.Mathlib.Nat.{mul-le-mul}
use native.Mathlib.Omega.{arith}
use lib.ListN.{length, get_or}
use lib.IntN.{ℤ, pos}
use Rattle.rules.specs.Window.{Plane, Shown}
use Rattle.rules.specs.Transmission.{Sample}
use Rattle.rules.proofs.Buffers.{place_lt}
use Rattle.planes.specs.declared.View.{View}
use Rattle.planes.specs.View.{InPlane}
use Rattle.planes.specs.Cells.{cells}
use Rattle.planes.specs.Stage.{product_word, square_word, word_of, Sampled}
use Rattle.planes.proofs.Tails.{rest, rest_cells}
use Rattle.sums.specs.Sum.{value_most, Summable}
use Rattle.sums.specs.declared.SquareSums.{SquareSums}
use Rattle.sums.specs.Before.{SumsBefore}
use Rattle.sums.proofs.Lent.{summable_rest, columns_as}

-- ---- what the sums are given

-- a word that is 0 where it is hidden is no larger
word_most : (word : Sample → ℕ) (i : Shown Sample) → word i.value ≤ value_most → word_of word i ≤ value_most
word_most word i le = go i.seen
  where
    go : (b : Bool) → cond b (word i.value) 0 ≤ value_most
    go true = le
    go false = omega arith

module _ {l : List ℤ} (v : View) (r : ℕ) {M : Plane Bool} {S : Plane (Shown Sample)} (i : InPlane v) (hr : r ≤ 60) (s : Sampled l v.w v.h M S) where
  pub first_summable : Summable l v r
  first_summable = record {
    in_plane = i;
    r_most = hr;
    room = omega (arith, s.room);
    small = λ y x hy hx.
        rw (s.products y x hy hx)
        (word_most product_word (S y x) (omega (arith, mul-le-mul (s.g_le y x hy hx) (s.t_le y x hy hx), s.g_le y x hy hx)));
  }

  pub second_summable : Summable (rest l (v.w * v.h)) v r
  second_summable =
      summable_rest l (v.w * v.h) v r i hr (omega (arith, s.room))
      (λ y x hy hx.
      rw (s.squares y x hy hx)
      (word_most square_word (S y x) (omega (arith, mul-le-mul (s.g_le y x hy hx) (s.g_le y x hy hx), s.t_le y x hy hx))))

-- ---- what a pass that writes behind the samples leaves

-- m has l's entries before n
pub record SameBefore (l m : List ℤ) (n : ℕ) : Type 0 where
  pub same : (k : ℕ) → k < n → get_or m k (pos 0) ≡ get_or l k (pos 0)

module _ {l m : List ℤ} {w h : ℕ} (k : SameBefore l m (2 * (w * h))) where
  -- both planes' cells
  first_same : (y x : ℕ) → y < h → x < w → cells m 0 w y x ≡ cells l 0 w y x
  first_same y x hy hx = k.same (0 + (y * w + x)) (omega (arith, place_lt (record { w = w; h = h }) y x hy hx))

  second_same : (y x : ℕ) → y < h → x < w → cells m (w * h) w y x ≡ cells l (w * h) w y x
  second_same y x hy hx = k.same (w * h + (y * w + x)) (omega (arith, place_lt (record { w = w; h = h }) y x hy hx))

  -- the samples
  pub sampled_still : {M : Plane Bool} {S : Plane (Shown Sample)} → length m ≡ length l → Sampled l w h M S → Sampled m w h M S
  sampled_still long s = record {
    room = omega (arith, s.room);
    seen = s.seen;
    g_le = s.g_le;
    t_le = s.t_le;
    products = λ y x hy hx. first_same y x hy hx ∙ s.products y x hy hx;
    squares = λ y x hy hx. second_same y x hy hx ∙ s.squares y x hy hx;
  }

-- the columns of both planes
pub sums_still : {l m : List ℤ} {v : View} {r y : ℕ} {s : SquareSums} → SameBefore l m (2 * (v.w * v.h)) → SumsBefore v r l (rest l (v.w * v.h)) y s
    → SumsBefore v r m (rest m (v.w * v.h)) y s
sums_still {l} {m} {v} k s =
    let plane = v.w * v.h in
    record {
      first = columns_as (cells l 0 v.w) (cells m 0 v.w) (first_same k) s.first;
      second = columns_as
          (cells (rest l plane) 0 v.w) (cells (rest m plane) 0 v.w)
          (λ u x hu hx. rest_cells m plane v.w u x ∙ second_same k u x hu hx ∙ sym (rest_cells l plane v.w u x)) s.second;
    }
