-- Rows that go down the columns, one after the other, and the minima over the columns' windows that come out. Assumes nothing.
use Rattle.std.specs.Prelude.{◌≡◌, cond, List, ℕ, ◌+◌, ◌-◌, ◌*◌, ◌≤◌, ◌<◌, min, ltb, eqb, get_or}
use Rattle.rules.specs.Window.{Plane}
use Rattle.rules.specs.Count.{crossing, comparisons, samples}
use Rattle.windows.specs.Span.{span}
use Rattle.windows.specs.Blocks.{start, stop}
use Rattle.windows.specs.Line.{entry}

-- the first n entries are row y of f
abbrev pub RowIs : List ℕ → Plane ℕ → ℕ → ℕ → Type 0
RowIs l f y n = (x : ℕ) → x < n → get_or l x 0 ≡ f y x

-- the least of column x from row a to row b
abbrev pub least_of : Plane ℕ → ℕ → ℕ → ℕ → ℕ
least_of f x a b = span min (λ u. f u x) a b

-- entry x of row i of the store, whose rows have n entries
abbrev pub cell : List ℕ → ℕ → ℕ → ℕ → ℕ
cell store n i x = entry store (i * n + x)

-- store row i is, for each row of the block before that at b, the least from it to its block's end
abbrev pub Before : List ℕ → ℕ → ℕ → Plane ℕ → ℕ → ℕ → Type 0
Before store n k f b i = (x : ℕ) → i < k → 0 < b → x < n → cell store n i x ≡ least_of f x (b + i - k) (b - 1)

-- v rows have come, and more are to come: the least of the block of row v so far, its rows, and what is still needed of the block before
pub record Open (store ahead : List ℕ) (n k : ℕ) (f : Plane ℕ) (v : ℕ) : Type 0 where
  pub fore : (x : ℕ) → start k v < v → x < n → entry ahead x ≡ least_of f x (start k v) (v - 1)
  pub rows : (i x : ℕ) → start k v + i < v → x < n → cell store n i x ≡ f (start k v + i) x
  pub before : (i : ℕ) → v ≤ start k v + i → Before store n k f (start k v) i

-- row v has come, and its block is not folded
pub record Amid (store ahead : List ℕ) (n k : ℕ) (f : Plane ℕ) (v : ℕ) : Type 0 where
  pub fore : (x : ℕ) → x < n → entry ahead x ≡ least_of f x (start k v) v
  pub rows : (i x : ℕ) → start k v + i ≤ v → x < n → cell store n i x ≡ f (start k v + i) x
  pub before : (i : ℕ) → v < start k v + i → Before store n k f (start k v) i

-- all rows have come, row v last, and its block is folded: its least from each row to the last
pub record Shut (store ahead : List ℕ) (n k : ℕ) (f : Plane ℕ) (v : ℕ) : Type 0 where
  pub fore : (x : ℕ) → x < n → entry ahead x ≡ least_of f x (start k v) v
  pub aft : (i x : ℕ) → start k v + i ≤ v → x < n → cell store n i x ≡ least_of f x (start k v + i) v
  pub before : (i : ℕ) → v < start k v + i → Before store n k f (start k v) i

-- v steps are done, of h rows and then s steps without one, where the windows have radius s
pub record Down (store ahead : List ℕ) (n s h : ℕ) (f : Plane ℕ) (v : ℕ) : Type 0 where
  pub going : v < h → Open store ahead n (2 * s + 1) f v
  pub shut : 0 < h → h ≤ v → Shut store ahead n (2 * s + 1) f (h - 1)

-- ---- rows of a store
-- rows i .. last of m are, column by column, the least from that row of l to row `last`; elsewhere m is l
pub record Folded (l m : List ℕ) (n i last : ℕ) : Type 0 where
  pub is : (j x : ℕ) → i ≤ j → j ≤ last → x < n → cell m n j x ≡ span min (λ u. cell l n u x) j last
  pub rest : (j : ℕ) → (i * n ≤ j → j < last * n → ⊥) → entry m j ≡ entry l j

-- out is the least over the k rows up to row v, j-th of its block, from the store and `ahead`, with r comparisons
pub record Given (store ahead out : List ℕ) (v j k n r : ℕ) : Type 0 where
  pub few : v < k → (r ≡ 0) × ((x : ℕ) → x < n → entry out x ≡ entry ahead x)
  pub whole : j + 1 ≡ k → (r ≡ 0) × ((x : ℕ) → x < n → entry out x ≡ entry ahead x)
  pub two : k ≤ v → j + 1 < k → (r ≡ n) × ((x : ℕ) → x < n → entry out x ≡ min (cell store n (j + 1) x) (entry ahead x))

-- m is l, folded up to row j where row v, j-th of its block, is the block's last, with r comparisons
pub record Closed (l m : List ℕ) (v h j k n r : ℕ) : Type 0 where
  pub full : j + 1 ≡ k → (r ≡ n * j) × Folded l m n 0 j
  pub last : v + 1 ≡ h → (r ≡ n * j) × Folded l m n 0 j
  pub on : j + 1 < k → v + 1 < h → (r ≡ 0) × (m ≡ l)

-- ---- what one column takes
-- row v is joined to those of its block before it
abbrev pub joins : ℕ → ℕ → ℕ
joins k v = cond (ltb (start k v) v) 1 0

-- a window that begins at row a and ends at row b is joined from two blocks
abbrev pub meets : ℕ → ℕ → ℕ → ℕ
meets k a b = cond (ltb a (start k b)) 1 0

-- row v is the last of its block, whose rows are joined from the last back
abbrev pub folds : ℕ → ℕ → ℕ → ℕ
folds k h v = cond (eqb v (stop k h v)) (v - start k v) 0

-- what row v takes
unfoldable pub row_count : ℕ → ℕ → ℕ → ℕ
row_count k h v = joins k v + folds k h v

-- what the window about row v - s takes, once there is that row
unfoldable pub window_count : ℕ → ℕ → ℕ → ℕ
window_count s h v = cond (ltb v s) 0 (crossing s h (v - s))

-- the comparisons of one column at step v: what its row takes, while there is one, and what the window that comes out takes
unfoldable pub down_count : ℕ → ℕ → ℕ → ℕ
down_count s h v = cond (ltb v h) (row_count (2 * s + 1) h v) 0 + window_count s h v

-- ---- what rows and columns take
-- the comparisons along row v of w samples, while there is one
unfoldable pub along_count : ℕ → ℕ → ℕ → ℕ → ℕ
along_count s w h v = cond (ltb v h) (comparisons s (samples w)) 0

-- and with those of all columns at step v
unfoldable pub step_count : ℕ → ℕ → ℕ → ℕ → ℕ
step_count s w h v = along_count s w h v + w * down_count s h v

-- ---- one step
-- row v has been taken, with r comparisons: the columns are before the next row, or at their end, and out is the least over the k rows up to v
pub record Taken (row store ahead store' ahead' out : List ℕ) (v h n k r : ℕ) : Type 0 where
  pub going : (f : Plane ℕ) → Open store ahead n k f v → RowIs row f v n → v + 1 < h → Open store' ahead' n k f (v + 1)
  pub shut : (f : Plane ℕ) → Open store ahead n k f v → RowIs row f v n → v + 1 ≡ h → Shut store' ahead' n k f v
  pub mins : (f : Plane ℕ) → Open store ahead n k f v → RowIs row f v n → (x : ℕ) → x < n → entry out x ≡ least_of f x (v + 1 - k) v
  pub count : r ≡ n * (joins k v + meets k (v + 1 - k) v + folds k h v)

-- out is the least over the rows from a to the last of h, with r comparisons
pub record Rested (store ahead out : List ℕ) (a h n k r : ℕ) : Type 0 where
  pub mins : (f : Plane ℕ) → Shut store ahead n k f (h - 1) → (x : ℕ) → x < n → entry out x ≡ least_of f x a (h - 1)
  pub count : r ≡ n * meets k a (h - 1)
