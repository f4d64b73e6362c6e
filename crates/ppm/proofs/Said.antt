-- What is answered hangs on a header's three numbers and on what stands behind it: not on its gaps and comments, nor on leading zeros, nor on which white byte
-- ends it. Assumes nothing.
use mathlib.Core.Path.{◌≡◌, ap₂}
use mathlib.Core.List.{List, ◌++◌}
use Prim.Native.Nat.{ℕ}
use lib.ListN.{length}
use Rattle.std.specs.Prelude.{Result}
use Rattle.rules.specs.declared.Size.{Size}
use Rattle.rules.specs.declared.Refusal.{Refusal}
use Rattle.rules.specs.Refusals.{first}
use Rattle.fields.specs.Decimal.{value_from}
use Rattle.pnm.specs.Gap.{Parts, GoodParts, header, Alike}
use Rattle.ppm.specs.Promise.{size, pixels, tests_body, tests_lent, refuse_size, refuse_read, Sizes, Reads}
use Rattle.pnm.proofs.Headers.{Says, header_says}

module _ {s : List ℕ} {w h top : ℕ} {behind : List ℕ} (f : Says 54 s w h top behind) where
  pub size_said : size s ≡ record { w = w; h = h }
  size_said = ap₂ (λ (a b : ℕ). record { w = a; h = b }) f.wide f.tall

  pub pixels_said : pixels s ≡ behind
  unfolding pixels
  pixels_said = f.rest

  pub size_refused : refuse_size s ≡ first (tests_body (record { w = w; h = h }) top (length behind))
  unfolding refuse_size
  size_refused = rw (f.good, f.wide, f.tall, f.maximum, pixels_said)

  pub read_refused : (lent : ℕ) → refuse_read s lent ≡ first (tests_lent (record { w = w; h = h }) top (length behind) lent)
  unfolding refuse_read
  read_refused lent = rw (f.good, f.wide, f.tall, f.maximum, pixels_said)

-- ---- two headers that say the same

module _ (p q : Parts) (good : GoodParts p) (fine : GoodParts q) (same : Alike p q) (rest : List ℕ) where
  left : Says 54 (header 54 p ++ rest) (value_from 0 q.wide) (value_from 0 q.tall) (value_from 0 q.top) rest
  left = rw (← same.wide, ← same.tall, ← same.top) (header_says 54 p good rest)

  right : Says 54 (header 54 q ++ rest) (value_from 0 q.wide) (value_from 0 q.tall) (value_from 0 q.top) rest
  right = header_says 54 q fine rest

  pub sizes_alike : (r r' : Result Size Refusal) → Sizes (header 54 p ++ rest) r → Sizes (header 54 q ++ rest) r' → r ≡ r'
  sizes_alike r r' a b = cc (size_said left, size_said right, size_refused left, size_refused right)

  pub reads_alike : (frame : List ℕ) (r r' : Result Size Refusal) (m m' : List ℕ) → Reads (header 54 p ++ rest) frame r m → Reads (header 54 q ++ rest) frame r' m' → (r ≡ r') × (m ≡ m')
  reads_alike frame r r' m m' a b = (
    cc (size_said left, size_said right, read_refused left (length frame), read_refused right (length frame)),
    cc (pixels_said left, pixels_said right, read_refused left (length frame), read_refused right (length frame)),
  )
