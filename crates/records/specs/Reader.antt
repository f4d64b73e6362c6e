-- The reader's state, and what one line and a run of lines do to it. Assumes nothing.
use Rattle.std.specs.Prelude.{◌≡◌, List, [], ◌∷◌, ℕ, ◌+◌, ◌-◌, ◌*◌, ◌≤◌, ◌<◌, length, take, drop, replicate, Result, Ok, Err, IfOk, OnOk}
use Rattle.rules.specs.Answers.{number}
use Rattle.fields.specs.Fields.{split}
use Rattle.records.specs.declared.Kind.{Kind}
use Rattle.records.specs.declared.Kind.TheVariants.{Size as kind_size, Set as kind_set, Px as kind_px}
use Rattle.records.specs.declared.Reader.{Reader}
use Rattle.records.specs.declared.Fault.{Fault}
use Rattle.records.specs.declared.Frame.{Frame}
use Rattle.records.specs.Records.{fault, size_of, settings_of}
use Rattle.records.specs.Judging.{Verdict, bad, judge, line_at, cells, kinds, painted}

-- the verdict that the state comes to, where the records ks are still asked for: the reader goes on from a place, or has met a fault
abbrev pub outcome : List ℕ → List Kind → Result Reader Fault → Verdict
outcome input ks (Ok s) = judge ks s.line (split 10 (drop s.at input))
outcome input ks (Err f) = bad (number f.refusal) f.line

-- the next line begins in the input or at its end, and each line before it has a byte
pub record Stands (input : List ℕ) (s : Reader) : Type 0 where
  pub within : s.at ≤ length input
  pub counted : s.line ≤ s.at + 1

-- and so with the line at fault
abbrev pub Placed : List ℕ → Result Reader Fault → Type 0
Placed input (Ok s) = Stands input s
Placed input (Err f) = f.line ≤ length input + 1

-- the line that the reader has passed between two states
abbrev pub passed : List ℕ → Reader → Reader → List ℕ
passed input s t = take (t.at - 1 - s.at) (drop s.at input)

-- an accepted line is the first part of what was left, and the rest is left
pub record Accepted (input : List ℕ) (k : Kind) (s t : Reader) : Type 0 where
  pub on : s.at < t.at
  pub line : split 10 (drop s.at input) ≡ passed input s t ∷ split 10 (drop t.at input)
  pub sound : fault k (passed input s t) ≡ 0

-- one line on, as a record of the kind k
pub record Passed (input : List ℕ) (k : Kind) (s : Reader) (r : Result Reader Fault) : Type 0 where
  pub verdict : (ks : List Kind) → outcome input (k ∷ ks) (Ok s) ≡ outcome input ks r
  pub placed : Placed input r
  pub accepted : IfOk r (Accepted input k s)

-- n lines `px` on, with their pixels in the frame
pub record Painted (input : List ℕ) (n : ℕ) (s : Reader) (r : Result Reader Fault) (frame : List ℕ) : Type 0 where
  pub verdict : outcome input (replicate n kind_px) (Ok s) ≡ outcome input [] r
  pub placed : Placed input r
  pub pixels : OnOk r (take (3 * n) frame ≡ painted n (split 10 (drop s.at input)))

-- line n from where the reader stands
abbrev pub line_from : List ℕ → Reader → ℕ → List ℕ
line_from input s n = line_at (drop s.at input) n

-- an accepted frame: what its first two lines say, that nothing is wrong with them, and its pixels
pub record Whole (input : List ℕ) (s : Reader) (r : Frame) (frame : List ℕ) : Type 0 where
  pub size : r.z ≡ size_of (line_from input s 0)
  pub settings : r.k ≡ settings_of (line_from input s 1)
  pub size_sound : fault kind_size (line_from input s 0) ≡ 0
  pub settings_sound : fault kind_set (line_from input s 1) ≡ 0
  pub pixels : take (3 * cells r.z) frame ≡ painted (cells r.z) (drop 2 (split 10 (drop s.at input)))

-- where the reader stands after a frame
abbrev pub after : Result Frame Fault → Result Reader Fault
after (Ok r) = Ok r.next
after (Err f) = Err f

-- one frame on
pub record Framed (input : List ℕ) (s : Reader) (r : Result Frame Fault) (frame : List ℕ) : Type 0 where
  pub verdict : outcome input (kinds (cells (size_of (line_from input s 0)))) (Ok s) ≡ outcome input [] (after r)
  pub placed : Placed input (after r)
  pub whole : IfOk r (λ x. Whole input s x frame)
