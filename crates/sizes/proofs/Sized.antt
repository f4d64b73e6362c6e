-- The size of a window: it is at least 1 and at most 121 by 121, and the number of a window's values, where there is one. Assumes nothing.
use mathlib.Core.Path.{◌≡◌, sym, ap, ◌∙◌}
use mathlib.Core.Bool.{Bool, true, false, cond}
use mathlib.Core.List.{List, [], ◌∷◌}
use Prim.Native.Nat.{ℕ, ◌+◌, ◌≤◌, ◌<◌, max}
use native.Mathlib.Nat.{mul-le-mul}
use native.Mathlib.Omega.{arith}
use lib.ListN.{length}
use Rattle.rules.specs.Window.{Plane, Shown, many, square, window, total}
use Rattle.rules.proofs.Fold.{map_square, fold_map, square_length, window_length}
use Rattle.sums.proofs.Windows.{square_same}
use Rattle.sizes.specs.Sizes.{size_at}

-- a list has no more values that are seen than values
total_most : (l : List Bool) → total (λ b. cond b 1 0) l ≤ length l
total_most [] = omega arith
total_most (b ∷ l) = go b (total_most l)
  where
    go : (b : Bool) → total (λ b. cond b 1 0) l ≤ length l → cond b 1 0 + total (λ b. cond b 1 0) l ≤ length (b ∷ l)
    go true h = omega arith
    go false h = omega arith

module _ (w h r : ℕ) where
  pub size_some : (M : Plane Bool) (y x : ℕ) → 0 < size_at w h r M y x
  size_some M y x = omega arith

  pub size_few : (M : Plane Bool) (y x : ℕ) → r ≤ 60 → size_at w h r M y x ≤ 14641
  size_few M y x le =
      let rows : many h r y ≤ 121 = omega arith in
      let columns : many w r x ≤ 121 = omega arith in
      omega (arith, total_most (square w h r M y x), square_length w h r M y x, mul-le-mul rows columns)

  -- where M says which of the values S are seen
  pub size_window : {A : Type 0} (M : Plane Bool) (S : Plane (Shown A)) → ((v u : ℕ) → v < h → u < w → (S v u).seen ≡ M v u) → (y x : ℕ) → y < h → x < w
      → size_at w h r M y x ≡ max 1 (length (window (record { w = w; h = h }) r S y x))
  size_window {A} M S same y x hy hx =
      ap (max 1)
      (sym
      (window_length (record { w = w; h = h }) r S y x
      ∙ fold_map (λ b n. cond b 1 0 + n) 0 (λ (i : Shown A). i.seen) (square w h r S y x)
      ∙ ap (λ (l : List Bool). total (λ b. cond b 1 0) l) (map_square (λ (i : Shown A). i.seen) w h r S y x ∙ square_same w h r (λ v u. (S v u).seen) M y x same)))
