-- The pixels of a frame, line by line, and the frame as a whole. Assumes nothing.
use mathlib.Core.Path.{◌≡◌, refl, sym, ap, ap₂, ◌∙◌}
use mathlib.Core.Bool.{Bool, true, false, cond, not, ◌||◌}
use mathlib.Core.List.{List, [], ◌∷◌, ◌++◌, append_assoc, append-nil}
use Prim.Native.Nat.{ℕ, zero, suc, ◌+◌, ◌-◌, ◌*◌, ◌≤◌, ◌<◌}
use native.Mathlib.Nat.{mul-le-mul, sub-zero}
use native.Mathlib.Omega.{arith}
use lib.Dec.{ltb}
use lib.ListN.{length, get_or, set, take, drop, replicate}
use lib.Seq.{sets, length-sets}
use borrow.Author.Tests.{ltb-false}
use Rattle.std.specs.Prelude.{Result, Ok, Err}
use Rattle.rules.specs.declared.Size.{Size}
use Rattle.rules.specs.declared.Settings.{Settings}
use Rattle.rules.specs.Refusals.{bad_size, bad_settings}
use Rattle.rules.proofs.Good.{neither}
use Rattle.fields.specs.Words.{bytes}
use Rattle.fields.specs.Fields.{split, field_of}
use Rattle.fields.specs.LaidOut.{laid}
use Rattle.fields.specs.Decimal.{numeral}
use Rattle.fields.proofs.Written.{take_sets}
use Rattle.records.specs.declared.Kind.{Kind}
use Rattle.records.specs.declared.Kind.TheVariants.{Size as kind_size, Set as kind_set, Px as kind_px}
use Rattle.records.specs.declared.Reader.{Reader}
use Rattle.records.specs.declared.Fault.{Fault}
use Rattle.records.specs.declared.Frame.{Frame}
use Rattle.records.specs.Records.{number_at, size_of, settings_of, colour_of, large, bright, fault}
use Rattle.records.specs.Judging.{cells, kinds, channels, painted}
use Rattle.records.specs.Reader.{outcome, Stands, passed, Passed, Painted, line_from, Framed}

-- ---- what is known of a line with no fault

past : (m n : ℕ) (b : Bool) → cond b (suc m) n ≡ 0 → (b ≡ false) × (n ≡ 0)
past m n true h = absurd (let z : ⊥ = omega arith in z)
past m n false h = (refl, h)

pub size_facts : (line : List ℕ) → fault kind_size line ≡ 0 → (bad_size (size_of line) ≡ false) × (large (size_of line) ≡ false)
unfolding fault
size_facts line h =
    let ten : ℕ = cond (large (size_of line)) 10 0 in
    let a = past 8 (cond (bad_size (size_of line)) 1 ten) (not (laid numeral (bytes "size") 2 line)) h in
    let b = past 0 ten (bad_size (size_of line)) a.1 in
    (b.0, (past 9 0 (large (size_of line)) b.1).0)

pub set_facts : (line : List ℕ) → fault kind_set line ≡ 0 → bad_settings (settings_of line) ≡ false
unfolding fault
set_facts line h =
    let a = past 8 (cond (bad_settings (settings_of line)) 2 0) (not (laid numeral (bytes "set") 6 line)) h in
    (past 1 0 (bad_settings (settings_of line)) a.1).0

pub record Small (line : List ℕ) : Type 0 where
  pub red : number_at line 1 ≤ 255
  pub green : number_at line 2 ≤ 255
  pub blue : number_at line 3 ≤ 255

pub px_facts : (line : List ℕ) → fault kind_px line ≡ 0 → Small line
unfolding fault bright
px_facts line h =
    let a = neither (not (laid numeral (bytes "px") 3 line)) (bright line) (past 8 0 (not (laid numeral (bytes "px") 3 line) || bright line) h).0 in
    let b = neither (ltb 255 (number_at line 1) || ltb 255 (number_at line 2)) (ltb 255 (number_at line 3)) a.1 in
    let c = neither (ltb 255 (number_at line 1)) (ltb 255 (number_at line 2)) b.0 in
    record { red = ltb-false 255 (number_at line 1) c.0; green = ltb-false 255 (number_at line 2) c.1; blue = ltb-false 255 (number_at line 3) b.1 }

-- at most 24 by 24 pixels
pub sides : (z : Size) → large z ≡ false → (z.w ≤ 24) × (z.h ≤ 24)
unfolding large
sides z h = let a = neither (ltb 24 z.w) (ltb 24 z.h) h in (ltb-false 24 z.w a.0, ltb-false 24 z.h a.1)

pub few : (z : Size) → large z ≡ false → cells z ≤ 576
few z h = mul-le-mul (sides z h).0 (sides z h).1

-- ---- one pixel

pub three : (l : List ℕ) (i a b c : ℕ) → set (set (set l i a) (i + 1) b) (i + 2) c ≡ sets l i (a ∷ b ∷ c ∷ [])
three l i a b c =
    let e : i + 1 ≡ suc i = omega arith in
    let f : i + 2 ≡ suc (suc i) = omega arith in
    rw (e, f)

-- ---- a run of pixels: the frame up to pixel p, and what is left of the input

pub record Reading (input : List ℕ) (n : ℕ) (s : Reader) (size : ℕ) (frame : List ℕ) (t : Reader) (p : ℕ) : Type 0 where
  pub some : p ≤ n
  pub stands : Stands input t
  pub kept : length frame ≡ size
  pub verdict : outcome input (replicate n kind_px) (Ok s) ≡ outcome input (replicate (n - p) kind_px) (Ok t)
  pub pixels : take (3 * p) frame ++ painted (n - p) (split 10 (drop t.at input)) ≡ painted n (split 10 (drop s.at input))

module _ (input : List ℕ) (n : ℕ) (s : Reader) (size : ℕ) where
  pub reading_none : (frame : List ℕ) → Stands input s → length frame ≡ size → Reading input n s size frame s 0
  reading_none frame st e =
      record {
        some = omega arith;
        stands = st;
        kept = e;
        verdict = ap (λ (k : ℕ). outcome input (replicate k kind_px) (Ok s)) (sym (sub-zero n));
        pixels = ap (λ (k : ℕ). painted k (split 10 (drop s.at input))) (sub-zero n);
      }

  module _ (frame : List ℕ) (t : Reader) (p : ℕ) (r : Reading input n s size frame t p) where
    pub reading_stop : (f : Fault) (m : List ℕ) → p < n → Passed input kind_px t (Err f) → Painted input n s (Err f) m
    reading_stop f m h a =
        let e : n - p ≡ suc (n - (p + 1)) = omega arith in
        record {
          verdict = r.verdict ∙ ap (λ (k : ℕ). outcome input (replicate k kind_px) (Ok t)) e ∙ a.verdict (replicate (n - (p + 1)) kind_px);
          placed = a.placed;
          pixels = tt;
        }

    pub reading_on : (u : Reader) → p < n → 3 * n ≤ size → Passed input kind_px t (Ok u)
        → Reading input n s size (sets frame (3 * p) (channels (colour_of (passed input t u)))) u (p + 1)
    unfolding painted
    reading_on u h room a =
        let e : n - p ≡ suc (n - (p + 1)) = omega arith in
        let b = a.accepted in
        let vs : List ℕ = channels (colour_of (passed input t u)) in
        let k : 3 * (p + 1) ≡ 3 * p + 3 = omega arith in
        let m : 3 * p + 3 ≤ length frame = omega (arith, r.kept) in
        let d : painted (n - p) (split 10 (drop t.at input)) ≡ vs ++ painted (n - (p + 1)) (split 10 (drop u.at input)) =
        ap₂ painted e b.line in
        record {
          some = omega arith;
          stands = a.placed;
          kept = length-sets frame (3 * p) vs ∙ r.kept;
          verdict = r.verdict ∙ ap (λ (j : ℕ). outcome input (replicate j kind_px) (Ok t)) e ∙ a.verdict (replicate (n - (p + 1)) kind_px);
          pixels =
              ap (λ (j : ℕ). take j (sets frame (3 * p) vs) ++ painted (n - (p + 1)) (split 10 (drop u.at input))) k
              ∙ ap (λ (l : List ℕ). l ++ painted (n - (p + 1)) (split 10 (drop u.at input))) (take_sets vs frame (3 * p) m)
              ∙ append_assoc (take (3 * p) frame) vs (painted (n - (p + 1)) (split 10 (drop u.at input)))
              ∙ ap (λ (l : List ℕ). take (3 * p) frame ++ l) (sym d)
              ∙ r.pixels;
        }

    pub reading_done : n ≤ p → Painted input n s (Ok t) frame
    unfolding painted
    reading_done h =
        let z : n - p ≡ 0 = omega arith in
        let e : p ≡ n = omega (arith, r.some) in
        record {
          verdict = r.verdict ∙ ap (λ (k : ℕ). outcome input (replicate k kind_px) (Ok t)) z;
          placed = r.stands;
          pixels =
              sym (append-nil (take (3 * n) frame))
              ∙ sym (ap₂ (λ (k j : ℕ). take (3 * k) frame ++ painted j (split 10 (drop t.at input))) e z)
              ∙ r.pixels;
        }

-- ---- the frame as a whole

module _ (input : List ℕ) (s : Reader) (frame : List ℕ) where
  -- a fault in the first line
  pub framed_first : (f : Fault) → Passed input kind_size s (Err f) → Framed input s (Err f) frame
  framed_first f p =
      record { verdict = p.verdict (kind_set ∷ replicate (cells (size_of (line_from input s 0))) kind_px); placed = p.placed; whole = tt }

  module _ (u : Reader) (p : Passed input kind_size s (Ok u)) where
    -- a fault in the second
    pub framed_second : (f : Fault) → Passed input kind_set u (Err f) → Framed input s (Err f) frame
    framed_second f q =
        let n : ℕ = cells (size_of (line_from input s 0)) in
        record { verdict = p.verdict (kind_set ∷ replicate n kind_px) ∙ q.verdict (replicate n kind_px); placed = q.placed; whole = tt }

    module _ (v : Reader) (q : Passed input kind_set u (Ok v)) where
      lines : split 10 (drop s.at input) ≡ passed input s u ∷ passed input u v ∷ split 10 (drop v.at input)
      lines = p.accepted.line ∙ ap (λ (ps : List (List ℕ)). passed input s u ∷ ps) q.accepted.line

      line_size : line_from input s 0 ≡ passed input s u
      unfolding field_of
      line_size = ap (λ (ps : List (List ℕ)). get_or ps 0 []) lines

      line_set : line_from input s 1 ≡ passed input u v
      unfolding field_of
      line_set = ap (λ (ps : List (List ℕ)). get_or ps 1 []) lines

      module _ (z : Size) (k : Settings) (ez : z ≡ size_of (passed input s u)) (ek : k ≡ settings_of (passed input u v)) where
        judged : (r : Result Reader Fault) → Painted input (cells z) v r frame
            → outcome input (kinds (cells (size_of (line_from input s 0)))) (Ok s) ≡ outcome input [] r
        judged r w =
            let m : cells (size_of (line_from input s 0)) ≡ cells z = ap (λ (l : List ℕ). cells (size_of l)) line_size ∙ ap cells (sym ez) in
            ap (λ (n : ℕ). outcome input (kinds n) (Ok s)) m ∙ p.verdict (kind_set ∷ replicate (cells z) kind_px)
            ∙ q.verdict (replicate (cells z) kind_px) ∙ w.verdict

        -- a fault in a pixel
        pub framed_third : (f : Fault) → Painted input (cells z) v (Err f) frame → Framed input s (Err f) frame
        framed_third f w = record { verdict = judged (Err f) w; placed = w.placed; whole = tt }

        pub framed_pixels : (w : Reader) → Painted input (cells z) v (Ok w) frame → Framed input s (Ok (record { z = z; k = k; next = w })) frame
        framed_pixels w r =
            record {
              verdict = judged (Ok w) r;
              placed = r.placed;
              whole = record {
                size = ez ∙ sym (ap size_of line_size);
                settings = ek ∙ sym (ap settings_of line_set);
                size_sound = ap (fault kind_size) line_size ∙ p.accepted.sound;
                settings_sound = ap (fault kind_set) line_set ∙ q.accepted.sound;
                pixels = r.pixels ∙ sym (ap (λ (ps : List (List ℕ)). painted (cells z) (drop 2 ps)) lines);
              };
            }
