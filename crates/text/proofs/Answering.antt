-- The whole: what the reader comes to is the verdict on the input, and so the answer. Assumes nothing.
use mathlib.Core.Path.{◌≡◌, refl, sym, ap, subst, ◌∙◌}
use mathlib.Core.Bool.{Bool, true, false}
use mathlib.Core.List.{List, [], ◌∷◌}
use Prim.Native.Nat.{ℕ, ◌+◌, ◌*◌, ◌≤◌, ◌<◌}
use native.Mathlib.Omega.{arith}
use lib.Dec.{eqb}
use lib.ListN.{length, take, drop, get_or, drop_of_length-le}
use Rattle.std.specs.Prelude.{Result, Ok, Err, IfOk}
use Rattle.rules.specs.Answers.{number}
use Rattle.rules.specs.declared.Size.{Size}
use Rattle.rules.specs.declared.Settings.{Settings}
use Rattle.rules.specs.Refusals.{bad_size, bad_settings}
use Rattle.fields.specs.Fields.{joined, split}
use Rattle.fields.proofs.Steps.{step}
use Rattle.fields.proofs.Lines.{some_part}
use Rattle.records.specs.declared.Reader.{Reader}
use Rattle.records.specs.declared.Fault.{Fault}
use Rattle.records.specs.declared.Frame.{Frame}
use Rattle.records.specs.Records.{large, size_of}
use Rattle.records.specs.Judging.{Verdict, good, bad, judge, line_at, cells, painted}
use Rattle.text.specs.Text.{bad_line, shown, verdict, replied, reply}
use Rattle.records.specs.Reader.{outcome, after, Whole, Framed}
use Rattle.text.specs.Ready.{Accepted}
use Rattle.records.proofs.Frames.{size_facts, set_facts}

abbrev start : Reader
start = record { at = 0; line = 1 }

-- a byte after the last record
too_many : (l x : ℕ) (t : Bool) (ps : List (List ℕ)) → 0 < length ps → judge [] l (joined t x ps) ≡ bad 9 l
too_many l x t [] h = absurd (let z : ⊥ = omega arith in z)
too_many l x true (p ∷ ps) h = refl
too_many l x false (p ∷ ps) h = refl

pub judge_more : (l : ℕ) (xs : List ℕ) (i : ℕ) → i < length xs → judge [] l (split 10 (drop i xs)) ≡ bad 9 l
judge_more l xs i h =
    ap (λ (s : List ℕ). judge [] l (split 10 s)) (step xs i 0 h)
    ∙ too_many l (get_or xs i 0) (eqb (get_or xs i 0) 10) (split 10 (drop (i + 1) xs)) (some_part 10 (drop (i + 1) xs))

module _ (input : List ℕ) (r : Result Frame Fault) (frame : List ℕ) (is : Framed input start r frame) where
  judged : verdict input ≡ outcome input [] (after r)
  unfolding verdict
  judged = is.verdict

  by : (v : Verdict) → verdict input ≡ v → reply input ≡ replied v input
  unfolding reply
  by v e = ap (λ (w : Verdict). replied w input) e

  -- a text with a fault
  pub reply_fault : (f : Fault) → r ≡ Err f → bad_line (number f.refusal) f.line ≡ reply input
  reply_fault f e = sym (by (bad (number f.refusal) f.line) (judged ∙ ap (λ (x : Result Frame Fault). outcome input [] (after x)) e))

  module _ (f : Frame) (e : r ≡ Ok f) where
    clean : verdict input ≡ judge [] f.next.line (split 10 (drop f.next.at input))
    clean = judged ∙ ap (λ (x : Result Frame Fault). outcome input [] (after x)) e

    pub reply_more : f.next.at < length input → bad_line 9 f.next.line ≡ reply input
    reply_more h = sym (by (bad 9 f.next.line) (clean ∙ judge_more f.next.line input f.next.at h))

    whole : Whole input start f frame
    whole = subst (λ (x : Result Frame Fault). IfOk x (λ y. Whole input start y frame)) e is.whole

    pub reply_good : length input ≤ f.next.at → shown f.z f.k (take (3 * cells f.z) frame) ≡ reply input
    reply_good h =
        let v : verdict input ≡ good = clean ∙ ap (λ (s : List ℕ). judge [] f.next.line (split 10 s)) (drop_of_length-le input h) in
        ap (shown f.z f.k) whole.pixels
        ∙ ap (λ (z : Size). shown z f.k (painted (cells z) (drop 2 (split 10 input)))) whole.size
        ∙ ap (λ (k : Settings). shown (size_of (line_at input 0)) k (painted (cells (size_of (line_at input 0))) (drop 2 (split 10 input)))) whole.settings
        ∙ sym (by good v)

    pub accepted : (out : ℕ) → 1728 ≤ length frame → 12690 ≤ out → Accepted f.z f.k (length frame) out
    accepted out hf ho =
        let s = size_facts (line_at input 0) whole.size_sound in
        record {
          size_good = ap bad_size whole.size ∙ s.0;
          size_small = ap large whole.size ∙ s.1;
          settings_good = ap bad_settings whole.settings ∙ set_facts (line_at input 1) whole.settings_sound;
          frame_room = hf;
          out_room = ho;
        }
