-- What the writer wrote, the reader reads back. Assumes nothing.
use mathlib.Core.Path.{◌≡◌, refl, ap, ◌∙◌}
use mathlib.Core.Bool.{true, false}
use mathlib.Core.List.{List, [], ◌∷◌, ◌++◌, append_assoc}
use Prim.Native.Nat.{ℕ, ◌*◌}
use native.Mathlib.Omega.{arith}
use lib.ListN.{length}
use borrow.Author.Tests.{eq-eqb}
use Rattle.std.specs.Prelude.{Result, Ok}
use Rattle.rules.specs.declared.Size.{Size}
use Rattle.rules.specs.declared.Refusal.{Refusal}
use Rattle.rules.specs.Answers.{said}
use Rattle.rules.specs.Refusals.{bad_size, bad_frame}
use Rattle.rules.proofs.Good.{size_good, frame_good}
use Rattle.rules.proofs.Answers.{or_free}
use Rattle.fields.specs.Words.{bytes}
use Rattle.fields.specs.Decimal.{figured, decimal}
use Rattle.fields.proofs.Decimal.{value_decimal, figured_decimal}
use Rattle.pnm.specs.Gap.{Gap, Parts, GoodParts, header}
use Rattle.ppm.specs.File.{head, file}
use Rattle.ppm.specs.Promise.{size, pixels, refuse_size, refuse_read, refuse_write, Reads, Writes}
use Rattle.pnm.proofs.Headers.{Says, header_says}
use Rattle.ppm.proofs.Exactly.{write_exact, read_then_size}
use Rattle.ppm.proofs.Said.{size_said, pixels_said, read_refused}

-- ---- the written header by its parts

abbrev pub written : Size → Parts
written z = record { gap1 = 10 ∷ []; wide = decimal z.w; gap2 = 32 ∷ []; tall = decimal z.h; gap3 = 10 ∷ []; top = bytes "255"; close = 10 }

pub file_parts : (z : Size) (frame : List ℕ) → file z frame ≡ header 54 (written z) ++ frame
unfolding head
file_parts z frame = simp append_assoc

line : Gap (10 ∷ [])
line = record { made = (10 ∷ []) ∷ []; is = refl; all = refl; some = omega arith }

blank : Gap (32 ∷ [])
blank = record { made = (32 ∷ []) ∷ []; is = refl; all = refl; some = omega arith }

full : figured (bytes "255") ≡ true
unfolding figured
full = refl

-- a number of a size has 4 digits at most
written_good : (z : Size) → bad_size z ≡ false → GoodParts (written z)
written_good z e =
    let in-range = size_good z e in
    let w = figured_decimal z.w (omega (arith, in-range.wide)) in
    let h = figured_decimal z.h (omega (arith, in-range.tall)) in
    record { gap1 = line; wide = w; gap2 = blank; tall = h; gap3 = line; top = full; close = refl }

-- ---- read back

module _ (z : Size) (frame : List ℕ) (e : bad_size z ≡ false) where
  written_says : Says 54 (file z frame) z.w z.h 255 frame
  written_says = rw (value_decimal z.w, value_decimal z.h, ← file_parts z frame) at (header_says 54 (written z) (written_good z e) frame)

  pub size_back : size (file z frame) ≡ z
  size_back = size_said written_says

  pub pixels_back : pixels (file z frame) ≡ frame
  pixels_back = pixels_said written_says

  pub read_back : length frame ≡ 3 * (z.w * z.h) → refuse_read (file z frame) (length frame) ≡ 0
  unfolding bad_frame
  read_back l = read_refused written_says (length frame) ∙ rw (e, eq-eqb (length frame) (3 * (z.w * z.h)) l)

  pub sized_back : length frame ≡ 3 * (z.w * z.h) → refuse_size (file z frame) ≡ 0
  sized_back l = read_then_size (file z frame) (length frame) (read_back l)

-- ---- and by the promises

pub round_trip :
    (z : Size) (frame out out' lent lent' : List ℕ) (r : Result (Unit {0}) Refusal) (q : Result Size Refusal)
    → Writes z frame out r out'
    → r ≡ Ok tt
    → Reads out' lent q lent'
    → length lent ≡ length frame
    → (q ≡ Ok z) × (lent' ≡ frame)
round_trip z frame out out' lent lent' r q write d read l =
    let zero_write : refuse_write z (length frame) (length out) ≡ 0 = or_free (refuse_write z (length frame) (length out)) tt r write.answer (ap said d) in
    let none = (write_exact z (length frame) (length out)).free zero_write in
    let wrote : out' ≡ file z frame = write.after ∙ rw zero_write in
    let zero_read : refuse_read out' (length lent) ≡ 0 = rw (wrote, l) (read_back z frame none.0 (frame_good z (length frame) none.1.0)) in
    (read.answer ∙ rw (zero_read, wrote) (ap Ok (size_back z frame none.0)), read.after ∙ rw (zero_read, wrote) (pixels_back z frame none.0))
