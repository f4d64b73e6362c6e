-- What the exported functions for files promise, as instances of the one promise. Assumes nothing.
use Rattle.std.specs.Prelude.{ℕ, suc, List, length}
use Rattle.rules.specs.declared.Size.{Size}
use Rattle.pnm.specs.Header.{number, second, third, last, header_of, head_said}
use Rattle.ppm.specs.File.{file}
use Rattle.ppm.specs.Promise.{size, pixels, refuse_size, refuse_read, refuse_write}
use Rattle.boundary.specs.Returns.{Returns}

-- what size may write is the two places of a size
abbrev pub SizeReturns : List ℕ → Size → ℕ → Size → Type 0
SizeReturns s z = Returns (refuse_size s) (size s) z

-- what read may write: the lent frame and the places of its size
pub record ReadPlaces : Type 0 where
  pub frame : List ℕ
  pub size : Size

abbrev pub read_places : List ℕ → Size → ReadPlaces
read_places frame z = record { frame = frame; size = z }

abbrev pub ReadReturns : List ℕ → ReadPlaces → ℕ → ReadPlaces → Type 0
ReadReturns s p = Returns (refuse_read s (length p.frame)) (read_places (pixels s) (size s)) p

abbrev pub WriteReturns : Size → List ℕ → List ℕ → ℕ → List ℕ → Type 0
WriteReturns z frame out = Returns (refuse_write z (length frame) (length out)) (file z frame) out

-- what header may write: the places of its four numbers
pub record Heading : Type 0 where
  pub size : Size
  pub maximum : ℕ
  pub start : ℕ

abbrev pub heading : ℕ → ℕ → ℕ → ℕ → Heading
heading w h top start = record { size = record { w = w; h = h }; maximum = top; start = start }

abbrev pub HeaderReturns : ℕ → List ℕ → Heading → ℕ → Heading → Type 0
HeaderReturns kind s p = Returns (head_said (header_of kind s)) (heading (number s 2) (number s (second s)) (number s (third s)) (suc (last s))) p
