-- What a window is. The window of radius q about (y, x) has each seen pixel of the frame at most q rows and q columns away once (`pixel_once`), no
-- hidden one (`pixel_hidden`) and no other (`pixel_none`), and its values are those of its pixels, in the same order (`window_values`). So its size is
-- the number of its pixels. A row or a column of its square is the numbers of the frame at most q from y or x (`span_has`, `span_only`). Assumes nothing.
use mathlib.Core.Path.{◌≡◌, refl, sym, ap, ◌∙◌}
use mathlib.Core.Bool.{Bool, true, false, cond, ◌&&◌, true≢false}
use mathlib.Core.List.{List, map, foldr}
use Prim.Native.Nat.{ℕ, zero, suc, ◌+◌, ◌≤◌, ◌<◌}
use native.Mathlib.Omega.{arith}
use native.Mathlib.Decide.{dec_le}
use lib.Dec.{eqb}
use borrow.Author.Tests.{eqb-true, eq-eqb, ne_eqb}
use Rattle.rules.specs.Shape.{Shape}
use Rattle.rules.specs.Window.{Plane, Shown, alike, low, many, square, window}
use Rattle.rules.specs.Light.{count}
use Rattle.rules.specs.Fold.{Σ}
use Rattle.rules.proofs.Local.{Within}
use Rattle.rules.proofs.Near.{apart}
use Rattle.rules.proofs.Fold.{fold_seen, map_square, square_fold}
use Rattle.rules.proofs.Windowed.{map_window}

-- the plane that has the row and the column at each row and column, seen where f is
abbrev pub spot : {A : Type 0} → Plane (Shown A) → Plane (Shown (ℕ × ℕ))
spot f v u = alike (λ i. (v, u)) (f v u)

abbrev pub same : ℕ → ℕ → ℕ × ℕ → Bool
same v u i = eqb v i.0 && eqb u i.1

-- how often (v, u) stands in a list
abbrev pub times : ℕ → ℕ → List (ℕ × ℕ) → ℕ
times v u l = count (same v u) l

-- ---- one line: the n numbers from low on are those below the end and at most q from p

pub span_has : (end q p i : ℕ) → i < end → p ≤ i + q → i ≤ p + q → (low q p ≤ i) × (i < low q p + many end q p)
span_has end q p i a b c = (omega arith, omega arith)

pub span_only : (end q p i : ℕ) → low q p ≤ i → i < low q p + many end q p → (i < end) × (p ≤ i + q) × (i ≤ p + q)
span_only end q p i a b = (omega arith, omega arith, omega arith)

-- rows and columns together
pub span_within : (z : Shape) (q y x v u : ℕ) → low q y ≤ v → v < low q y + many z.h q y → low q x ≤ u → u < low q x + many z.w q x → Within z q y x v u
span_within z q y x v u a b c d =
    let rows = span_only z.h q y v a b in
    let columns = span_only z.w q x u c d in
    record { row = rows.0; column = columns.0; above = rows.1; below = rows.2; left = columns.1; right = columns.2 }

-- ---- sums of values that are 0, and that are 0 but at v

sum_none : (a n : ℕ) (f : ℕ → ℕ) → ((i : ℕ) → a ≤ i → i < a + n → f i ≡ 0) → Σ ◌+◌ 0 a n f ≡ 0
sum_none a zero f h = refl
sum_none a (suc n) f h =
    omega (arith, h a (omega arith) (omega arith), sum_none (suc a) n f (λ i l m. h i (omega arith) (omega arith)))

sum_one : (a n : ℕ) (f : ℕ → ℕ) (v : ℕ) → a ≤ v → v < a + n → ((i : ℕ) → (i ≡ v → ⊥) → f i ≡ 0) → Σ ◌+◌ 0 a n f ≡ f v
sum_one a zero f v l m h = absurd (let z : 1 ≤ 0 = omega arith in omega arith)
sum_one a (suc n) f v l m h = go (dec_le v a) (sum_one (suc a) n f v)
  where
    go : Dec (v ≤ a) → (suc a ≤ v → v < suc a + n → ((i : ℕ) → (i ≡ v → ⊥) → f i ≡ 0) → Σ ◌+◌ 0 (suc a) n f ≡ f v) → f a + Σ ◌+◌ 0 (suc a) n f ≡ f v
    go (yes e) ih =
        let s : a ≡ v = omega arith in
        omega (arith, ap f s, sum_none (suc a) n f (λ i b c. h i (λ t. omega arith)))
    go (no e) ih = omega (arith, h a (λ t. omega arith), ih (omega arith) (omega arith) h)

-- ---- the pixels of a window

module _ {A : Type 0} (z : Shape) (q : ℕ) (f : Plane (Shown A)) (y x v u : ℕ) where
  one : ℕ → ℕ → ℕ
  one i j = cond (f i j).seen (cond (same v u (i, j)) 1 0) 0

  by_rows : times v u (window z q (spot f) y x) ≡ Σ ◌+◌ 0 (low q y) (many z.h q y) (λ i. Σ ◌+◌ 0 (low q x) (many z.w q x) (λ j. one i j))
  unfolding one window
  by_rows =
      let g : Shown (ℕ × ℕ) → ℕ = λ i. cond i.seen (cond (same v u i.value) 1 0) 0 in
      fold_seen ◌+◌ 0 (λ a b c. omega arith) (λ a b. omega arith) refl (λ i. cond (same v u i) 1 0) (square z.w z.h q (spot f) y x)
      ∙ ap (foldr ◌+◌ 0) (map_square g z.w z.h q (spot f) y x)
      ∙ square_fold ◌+◌ 0 (λ a b c. omega arith) (λ a b. omega arith) refl z.w z.h q (λ i j. g (spot f i j)) y x

  -- another pixel than (v, u) is not counted
  one_other : (i j : ℕ) → same v u (i, j) ≡ false → one i j ≡ 0
  unfolding one
  one_other i j e = go (f i j).seen (same v u (i, j)) e
    where
      go : (b t : Bool) → t ≡ false → ◌≡◌ {A = ℕ} (cond b (cond t 1 0) 0) 0
      go false t e = refl
      go true false e = refl
      go true true e = absurd (true≢false e)

  -- all pixels of the square count nothing
  none : ((i j : ℕ) → Within z q y x i j → one i j ≡ 0) → times v u (window z q (spot f) y x) ≡ 0
  none h =
      by_rows
      ∙ sum_none (low q y) (many z.h q y) _
      (λ i a b. sum_none (low q x) (many z.w q x) (λ j. one i j) (λ j c d. h i j (span_within z q y x i j a b c d)))

  pub pixel_once : Within z q y x v u → (f v u).seen ≡ true → times v u (window z q (spot f) y x) ≡ 1
  unfolding one
  pixel_once w s =
      let rows = span_has z.h q y v w.row w.above w.below in
      let columns = span_has z.w q x u w.column w.left w.right in
      by_rows
      ∙ sum_one (low q y) (many z.h q y) _ v rows.0 rows.1
      (λ i n. sum_none (low q x) (many z.w q x) (λ j. one i j) (λ j _ _. one_other i j (rw (ne_eqb v i (λ t. n (sym t))))))
      ∙ sum_one (low q x) (many z.w q x) (λ j. one v j) u columns.0 columns.1 (λ j n. one_other v j (rw (eq-eqb v v refl, ne_eqb u j (λ t. n (sym t)))))
      ∙ rw (s, eq-eqb v v refl, eq-eqb u u refl)

  -- a pixel of the square counts nothing if it is another than (v, u), or if (v, u) itself counts nothing
  apart_from : (i j : ℕ) → (same v u (i, j) ≡ true → one v u ≡ 0) → one i j ≡ 0
  apart_from i j h = go (same v u (i, j)) refl
    where
      go : (b : Bool) → same v u (i, j) ≡ b → one i j ≡ 0
      go false e = one_other i j e
      go true e = let t = apart (eqb v i) (eqb u j) e in rw (sym (eqb-true v i t.0), sym (eqb-true u j t.1)) (h e)

  pub pixel_none : (Within z q y x v u → ⊥) → times v u (window z q (spot f) y x) ≡ 0
  pixel_none h =
      none
      (λ i j w. apart_from i j (λ e. let t = apart (eqb v i) (eqb u j) e in absurd (h (rw (eqb-true v i t.0, eqb-true u j t.1) w))))

  pub pixel_hidden : (f v u).seen ≡ false → times v u (window z q (spot f) y x) ≡ 0
  unfolding one
  pixel_hidden s = none (λ i j w. apart_from i j (λ e. rw s))

-- the values of a window are those of its pixels, in the same order
pub window_values : {A : Type 0} (z : Shape) (q : ℕ) (f : Plane (Shown A)) (y x : ℕ) → window z q f y x ≡ map (λ (i : ℕ × ℕ). (f i.0 i.1).value) (window z q (spot f) y x)
window_values z q f y x = sym (map_window (λ (i : ℕ × ℕ). (f i.0 i.1).value) z q (spot f) y x)
