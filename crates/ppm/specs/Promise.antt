-- What reader and writer promise, for every input: the answer, and what stands in the lent memory afterwards. Assumes nothing.
use Rattle.std.specs.Prelude.{◌≡◌, ℕ, suc, cond, not, List, [], ◌∷◌, ◌++◌, None, Result, length, drop}
use Rattle.rules.specs.declared.Size.{Size}
use Rattle.rules.specs.declared.Refusal.{Refusal}
use Rattle.rules.specs.Refusals.{Tests, first, off, bad_size, bad_frame}
use Rattle.rules.specs.Answers.{or}
use Rattle.rules.specs.Promise.{unless}
use Rattle.pnm.specs.Header.{number, second, third, last, good, head_said}
use Rattle.ppm.specs.File.{file, long}

-- ---- what a file says

abbrev pub size : List ℕ → Size
size s = record { w = number s 2; h = number s (second s) }

abbrev pub maximum : List ℕ → ℕ
maximum s = number s (third s)

unfoldable pub pixels : List ℕ → List ℕ
pixels s = drop (suc (last s)) s

-- ---- refusals, in their order

-- of a file whose header is good, by its size, its maximum and the number of bytes behind the header
abbrev pub tests_body : Size → ℕ → ℕ → Tests
tests_body z top n = (1, bad_size z) ∷ (12, off top 255) ∷ (13, bad_frame z n) ∷ []

-- and by the length of the lent frame
abbrev pub tests_lent : Size → ℕ → ℕ → ℕ → Tests
tests_lent z top n lent = tests_body z top n ++ (4, bad_frame z lent) ∷ []

-- the three calls; 54 is the digit 6
abbrev pub tests_size : List ℕ → Tests
tests_size s = (head_said None, not (good 54 s)) ∷ tests_body (size s) (maximum s) (length (pixels s))

abbrev pub tests_read : List ℕ → ℕ → Tests
tests_read s lent = (head_said None, not (good 54 s)) ∷ tests_lent (size s) (maximum s) (length (pixels s)) lent

abbrev pub tests_write : Size → ℕ → ℕ → Tests
tests_write z frame out = (1, bad_size z) ∷ (3, bad_frame z frame) ∷ (4, off out (long z)) ∷ []

unfoldable pub refuse_size : List ℕ → ℕ
refuse_size s = first (tests_size s)

unfoldable pub refuse_read : List ℕ → ℕ → ℕ
refuse_read s lent = first (tests_read s lent)

unfoldable pub refuse_write : Size → ℕ → ℕ → ℕ
refuse_write z frame out = first (tests_write z frame out)

-- ---- the length

-- the length of the file of a size, 0 for a size that is refused
abbrev pub length_for : Size → ℕ
length_for z = cond (bad_size z) 0 (long z)

-- ---- the promises

-- size: nothing is written
pub record Sizes (s : List ℕ) (r : Result Size Refusal) : Type 0 where
  pub answer : r ≡ or (refuse_size s) (size s)

-- read: frame stood in the lent frame, frame' stands there afterwards
pub record Reads (s frame : List ℕ) (r : Result Size Refusal) (frame' : List ℕ) : Type 0 where
  pub answer : r ≡ or (refuse_read s (length frame)) (size s)
  pub after : frame' ≡ unless (refuse_read s (length frame)) (pixels s) frame

-- write: out stood in the lent output, out' stands there afterwards
pub record Writes (z : Size) (frame out : List ℕ) (r : Result (Unit {0}) Refusal) (out' : List ℕ) : Type 0 where
  pub answer : r ≡ or (refuse_write z (length frame) (length out)) tt
  pub after : out' ≡ unless (refuse_write z (length frame) (length out)) (file z frame) out
