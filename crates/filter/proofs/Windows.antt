-- The windows of a plane of samples: sums of words over the square, 0 at hidden pixels, are those over the window, and what they give at a seen pixel
-- is its line. Assumes nothing.
use mathlib.Core.Path.{◌≡◌, refl, sym, ◌∙◌}
use mathlib.Core.Bool.{Bool, true, false, cond}
use mathlib.Core.List.{List}
use Prim.Native.Nat.{ℕ, ◌≤◌, ◌<◌, max}
use native.Mathlib.Omega.{arith}
use lib.ListN.{length}
use lib.IntN.{ℤ, pos}
use Rattle.rules.specs.Shape.{Shape}
use Rattle.rules.specs.Window.{Plane, Shown, square, window, total, total_z}
use Rattle.rules.specs.Transmission.{Sample, Sg, St, Sgg, Sgt, line}
use Rattle.rules.proofs.Fold.{window_total, total_pos}
use Rattle.rules.proofs.Seen.{window_some, window_cap}
use Rattle.rules.proofs.Windowed.{All, all_window}
use Rattle.planes.specs.Stage.{product_word, square_word, word_of, Sampled}
use Rattle.pixel.specs.Moments.{Moments}
use Rattle.pixel.proofs.Sampled.{Small, moments}
use Rattle.sums.proofs.Windows.{total_read}
use Rattle.sizes.specs.Sizes.{size_at}
use Rattle.sizes.proofs.Sized.{size_window}
use Rattle.filter.specs.Row.{WordMoments, word_line}
use Rattle.filter.proofs.Words.{guides_is, products_is, coarses_is, squares_is}

-- a word that is 0 where it is hidden, as an integer
word_shown : (word : Sample → ℕ) (i : Shown Sample) → pos (word_of word i) ≡ cond i.seen (pos (word i.value)) (pos 0)
word_shown word i = go i.seen
  where
    go : (b : Bool) → pos (cond b (word i.value) 0) ≡ cond b (pos (word i.value)) (pos 0)
    go true = refl
    go false = refl

module _ {l : List ℤ} {w h : ℕ} {M : Plane Bool} {S : Plane (Shown Sample)} (s : Sampled l w h M S) (r y x : ℕ) (hy : y < h) (hx : x < w) where
  abbrev z : Shape
  z = record { w = w; h = h }

  abbrev near : List Sample
  near = window z r S y x

  -- c has a word of each sample
  pub word_total : (word : Sample → ℕ) (c : Plane ℤ) → ((v u : ℕ) → v < h → u < w → c v u ≡ pos (word_of word (S v u))) → total_z (λ i. i) (square w h r c y x) ≡ pos (total word near)
  word_total word c is =
      total_read w h r S y x hy hx (λ i. cond i.seen (pos (word i.value)) (pos 0)) c (λ v u hv hu. is v u hv hu ∙ word_shown word (S v u))
      ∙ sym (window_total (λ i. pos (word i)) z r S y x)
      ∙ total_pos word near

  module _ (hr : r ≤ 60) (seen : (S y x).seen ≡ true) where
    -- it has at least the pixel itself
    some : 0 < length near
    some = window_some z r S y x hy hx seen

    -- so n is as it is counted
    size_is : size_at w h r M y x ≡ length near
    size_is = size_window w h r M S s.seen y x hy hx ∙ (let e : max 1 (length near) ≡ length near = omega (arith, some) in e)

    -- what is known of it as a list
    all : All Small near
    all = all_window Small z r S y x (λ v u p t. record { guide = s.g_le v u p.row p.column; coarse = s.t_le v u p.row p.column })

    -- the sums of its terms, and of its words
    known : Moments (length near) (Sg near) (St near) (Sgg near) (Sgt near)
    known = moments near some (window_cap z r S y x hr) all

    pub window_moments : WordMoments (size_at w h r M y x) (total product_word near) (total square_word near)
    window_moments = rw (size_is, guides_is near known, coarses_is near known, squares_is near known, products_is near known) known

    -- its line
    pub window_line : (e : ℕ) → word_line (size_at w h r M y x) (total product_word near) (total square_word near) e ≡ line e near
    unfolding line
    window_line e = rw (size_is, guides_is near known, coarses_is near known, squares_is near known, products_is near known)
