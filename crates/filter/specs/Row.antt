-- The lines of a row of pixels, from the sums of the samples' two words over their windows. Assumes nothing.
use Rattle.std.specs.Prelude.{◌≡◌, true, cond, List, ℕ, ◌+◌, ◌/◌, ◌%◌, ◌≤◌, ◌<◌, get_or, length, ℤ, pos, nat_abs}
use Rattle.rules.specs.Transmission.{Line, slope_of, offset_of}
use Rattle.planes.specs.Stage.{seen_at}
use Rattle.pixel.specs.Moments.{Moments}
use Rattle.pixel.specs.Over.{Over, parts}

-- ---- the sums of the four terms of a sample, out of u and v, the sums of its words

abbrev pub guides : ℕ → ℕ
guides u = u % 16777216

abbrev pub products : ℕ → ℕ
products u = u / 16777216

abbrev pub coarses : ℕ → ℕ
coarses v = v % 268435456

abbrev pub squares : ℕ → ℕ
squares v = v / 268435456

-- what is known of them over a window of n pixels
abbrev pub WordMoments : ℕ → ℕ → ℕ → Type 0
WordMoments n u v = Moments n (guides u) (coarses v) (squares v) (products u)

-- and the line that they give
abbrev pub word_slope : ℕ → ℕ → ℕ → ℕ → ℤ
word_slope n u v e = slope_of n (guides u) (coarses v) (squares v) (products u) e

abbrev pub word_line : ℕ → ℕ → ℕ → ℕ → Line
word_line n u v e = record { a = word_slope n u v e; b = offset_of n (guides u) (coarses v) (word_slope n u v e) }

-- ---- a row of n pixels

-- the sum at place i of a row of sums
abbrev pub word : List ℤ → ℕ → ℕ
word l i = nat_abs (get_or l i (pos 0))

-- the sums of both words, the windows' sizes and the reciprocals of these, the row's part of the mask from `at` on, and room for slopes and, behind
-- them, for offsets. The window of a hidden pixel may have nothing in it, so moments are those of seen pixels
pub record RowIn (l : List ℤ) (slopes offsets n : ℕ) (us vs : List ℤ) (ns inverses mask : List ℕ) (at : ℕ) : Type 0 where
  pub apart : slopes + n ≤ offsets
  pub room : offsets + n ≤ length l
  pub us_long : n ≤ length us
  pub vs_long : n ≤ length vs
  pub ns_long : n ≤ length ns
  pub inverses_long : n ≤ length inverses
  pub mask_long : at + n ≤ length mask
  pub us_whole : (i : ℕ) → i < n → get_or us i (pos 0) ≡ pos (word us i)
  pub vs_whole : (i : ℕ) → i < n → get_or vs i (pos 0) ≡ pos (word vs i)
  pub moments : (i : ℕ) → i < n → seen_at mask (at + i) ≡ true → WordMoments (get_or ns i 0) (word us i) (word vs i)
  pub over : (i : ℕ) → i < n → Over 1 (get_or ns i 0) parts (get_or inverses i 0)

-- no line, of a hidden pixel
abbrev pub flat_line : Line
flat_line = record { a = pos 0; b = pos 0 }

-- the line of pixel i, which is the one at `at` + i of the mask
abbrev pub row_line : List ℤ → List ℤ → List ℕ → ℕ → List ℕ → ℕ → ℕ → Line
row_line us vs ns e mask at i = cond (seen_at mask (at + i)) (word_line (get_or ns i 0) (word us i) (word vs i) e) flat_line

-- m is l, but the slopes of n lines F from `slopes` on and their offsets from `offsets` on. They are small
pub record RowLines (l m : List ℤ) (slopes offsets n : ℕ) (F : ℕ → Line) : Type 0 where
  pub a : (i : ℕ) → i < n → get_or m (slopes + i) (pos 0) ≡ (F i).a
  pub b : (i : ℕ) → i < n → get_or m (offsets + i) (pos 0) ≡ (F i).b
  pub a_le : (i : ℕ) → i < n → nat_abs (F i).a ≤ 2560000
  pub b_le : (i : ℕ) → i < n → nat_abs (F i).b ≤ 2147483648
  pub rest : (k : ℕ) → (slopes ≤ k → k < slopes + n → ⊥) → (offsets ≤ k → k < offsets + n → ⊥) → get_or m k (pos 0) ≡ get_or l k (pos 0)
