-- Judging the lines of a text in order, and the frame of a good one. Assumes nothing.
use Rattle.std.specs.Prelude.{List, [], ◌∷◌, map, ℕ, zero, suc, ◌*◌, take, replicate}
use Rattle.rules.specs.declared.Size.{Size}
use Rattle.rules.specs.declared.Rgb.{Rgb}
use Rattle.rules.specs.Window.{flat}
use Rattle.fields.specs.Fields.{field_of}
use Rattle.records.specs.declared.Kind.{Kind}
use Rattle.records.specs.declared.Kind.TheVariants.{Size as kind_size, Set as kind_set, Px as kind_px}
use Rattle.records.specs.Records.{colour_of, fault}

-- ---- judging: the input is good, or the number of its refusal and the number of the line at fault

pub data Verdict : Type 0 where
  good : Verdict
  bad : ℕ → ℕ → Verdict

-- the verdict on a line from its fault, and the verdict on the lines after it
abbrev pub onward : ℕ → ℕ → Verdict → Verdict
onward zero l rest = rest
onward (suc n) l rest = bad (suc n) l

-- the records that are asked for, in order, against the parts between the line ends, from line l on. The last part has no line end: a line that is
-- missing or not ended, and after the last record a byte too many
abbrev pub judge : List Kind → ℕ → List (List ℕ) → Verdict
judge [] l [] = good
judge [] l ([] ∷ []) = good
judge [] l ([] ∷ p ∷ ps) = bad 9 l
judge [] l ((b ∷ p) ∷ ps) = bad 9 l
judge (k ∷ ks) l [] = bad 9 l
judge (k ∷ ks) l (p ∷ []) = bad 9 l
judge (k ∷ ks) l (p ∷ q ∷ ps) = onward (fault k p) l (judge ks (suc l) (q ∷ ps))

-- line n of the input, from 0
abbrev pub line_at : List ℕ → ℕ → List ℕ
line_at input n = field_of 10 input n

abbrev pub cells : Size → ℕ
cells z = z.w * z.h

-- `size`, then `set`, then W·H times `px`
abbrev pub kinds : ℕ → List Kind
kinds n = kind_size ∷ kind_set ∷ replicate n kind_px

-- ---- the frame of a good input

abbrev pub channels : Rgb → List ℕ
channels i = i.r ∷ i.g ∷ i.b ∷ []

-- n lines `px` as the bytes of their pixels
unfoldable pub painted : ℕ → List (List ℕ) → List ℕ
painted n lines = flat (map (λ l. channels (colour_of l)) (take n lines))
