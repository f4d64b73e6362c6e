-- How many comparisons the minimum takes by the block method: for a line of samples, a definition on lists, and for the rows and then the columns of a frame
-- or of a part of it. Assumes nothing.
use Rattle.std.specs.Prelude.{Bool, cond, List, [], ◌∷◌, ℕ, zero, suc, ◌+◌, ◌-◌, ◌*◌, ◌/◌, min, ltb, length, take, drop}
use Rattle.rules.specs.declared.Settings.{Settings}
use Rattle.rules.specs.declared.Rect.{Rect}
use Rattle.rules.specs.Shape.{Shape}
use Rattle.rules.specs.Window.{from, total}
use Rattle.rules.specs.Setup.{Setup, shape}

-- ---- a line

-- a list cut into blocks of k from its first element on, the last perhaps shorter. The first argument bounds the number of blocks
unfoldable pub blocks_in : {A : Type 0} → ℕ → ℕ → List A → List (List A)
blocks_in zero k xs = []
blocks_in (suc m) k [] = []
blocks_in (suc m) k (x ∷ xs) = take k (x ∷ xs) ∷ blocks_in m k (drop k (x ∷ xs))

-- a block of k takes 2 (k - 1)
unfoldable pub in_blocks : {A : Type 0} → ℕ → List A → ℕ
in_blocks k xs = total (λ b. 2 * (length b - 1)) (blocks_in (length xs) k xs)

-- the first and the last sample of the window of radius s about sample i, cut off at the ends of a line of n
abbrev pub lo : ℕ → ℕ → ℕ
lo s i = i - s

abbrev pub hi : ℕ → ℕ → ℕ → ℕ
hi s n i = min (i + s) (n - 1)

-- whether the window about sample i reaches into two blocks
abbrev pub in_two : ℕ → ℕ → ℕ → Bool
in_two s n i = ltb (lo s i / (2 * s + 1)) (hi s n i / (2 * s + 1))

-- then it takes 1 more
unfoldable pub crossing : ℕ → ℕ → ℕ → ℕ
crossing s n i = cond (in_two s n i) 1 0

-- f 0 + .. + f (n - 1)
unfoldable pub tally : (ℕ → ℕ) → ℕ → ℕ
tally f zero = 0
tally f (suc n) = tally f n + f n

-- the comparisons for a line of samples at radius s
unfoldable pub comparisons : {A : Type 0} → ℕ → List A → ℕ
comparisons s xs = in_blocks (2 * s + 1) xs + tally (crossing s (length xs)) (length xs)

-- ---- a frame

-- a line of n samples
unfoldable pub samples : ℕ → List ℕ
samples n = from 0 n (λ i. i)

-- all rows, then all columns
unfoldable pub frame_comparisons : Shape → ℕ → ℕ
frame_comparisons z s = z.h * comparisons s (samples z.w) + z.w * comparisons s (samples z.h)

-- a rectangle grown by q rows and columns and cut at the frame
abbrev pub grown_rect : Shape → ℕ → Rect → Rect
grown_rect z q c =
    record {
      x = c.x - q;
      y = c.y - q;
      w = min z.w (c.x + c.w + q) - (c.x - q);
      h = min z.h (c.y + c.h + q) - (c.y - q);
    }

-- the part of the frame that is at most q rows and columns from a rectangle, as a frame of its own
abbrev pub around : Shape → ℕ → Rect → Shape
around z q c = record { w = (grown_rect z q c).w; h = (grown_rect z q c).h }

-- the part that Replace works on: at most 2s + 4r rows and columns from its rectangle
abbrev pub part_shape : Shape → Settings → Rect → Shape
part_shape z k c = around z (2 * k.s + 4 * k.r) c

abbrev pub part_comparisons : Shape → Settings → Rect → ℕ
part_comparisons z k c = frame_comparisons (part_shape z k c) k.s

-- what Clear takes, and Replace of a rectangle
abbrev pub clear_comparisons : Setup → ℕ
clear_comparisons p = frame_comparisons (shape p) p.settings.s

abbrev pub replace_comparisons : Setup → Rect → ℕ
replace_comparisons p c = part_comparisons (shape p) p.settings c
