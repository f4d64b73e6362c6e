-- From the promise of a public call to that of its exported function, for files and depths. Assumes nothing.
use mathlib.Core.Path.{◌≡◌, refl, sym, ap, ◌∙◌}
use Prim.Native.Nat.{ℕ, ◌≤◌}
use mathlib.Core.List.{List}
use lib.ListN.{length}
use Rattle.std.specs.Prelude.{Option, Some, None, Result}
use Rattle.rules.specs.declared.Size.{Size}
use Rattle.rules.specs.declared.Refusal.{Refusal}
use Rattle.rules.specs.Answers.{said, left}
use Rattle.depth.specs.Promise.{Depths, tests_depths, refuse_depths}
use Rattle.pnm.specs.declared.Head.{Head}
use Rattle.pnm.specs.Header.{header_of, head_said}
use Rattle.ppm.specs.Promise.{size, pixels, refuse_size, refuse_read, Sizes, Reads, Writes}
use Rattle.ppm.proofs.Exactly.{size_most, read_most, write_most}
use Rattle.ppm.proofs.Reading.{opened}
use Rattle.depth.proofs.Says.{depths_most}
use Rattle.boundary.proofs.Told.{answered_returns, valued_returns, both_return}
use Rattle.haze_files_c.specs.Depths.{DepthsReturns}
use Rattle.haze_files_c.specs.Netpbm.{SizeReturns, read_places, ReadReturns, WriteReturns, Heading, heading, HeaderReturns}

-- ---- an answer with no value

pub depths_returns :
    {z z' : Size} {entries out out' : List ℕ} {r : Result (Unit {0}) Refusal} {n : ℕ}
    → z ≡ z'
    → Depths z entries out r out'
    → n ≡ said r
    → DepthsReturns z' entries out n out'
depths_returns {z} {entries = entries} {out = out} sized p told =
    rw (← sized) (answered_returns _ _ _ _ (depths_most z entries (length out)) p.answer p.after told)

pub write_returns :
    {z z' : Size} {frame out out' : List ℕ} {r : Result (Unit {0}) Refusal} {n : ℕ}
    → z ≡ z'
    → Writes z frame out r out'
    → n ≡ said r
    → WriteReturns z' frame out n out'
write_returns {z} {frame = frame} {out = out} sized p told =
    rw (← sized) (answered_returns _ _ _ _ (write_most z (length frame) (length out)) p.answer p.after told)

-- ---- a frame that is taken or refused: n is what is told, z stands in the places of its size

module _ {r : Result Size Refusal} {n : ℕ} {z p : Size} (told : (n ≡ said r) × (z ≡ left r p)) where
  pub size_returns : {s : List ℕ} → Sizes s r → SizeReturns s p n z
  size_returns {s} q = valued_returns (refuse_size s) (size s) p (size_most s) q.answer told

  pub read_returns : {s f v : List ℕ} → Reads s f r v → ReadReturns s (read_places f p) n (read_places v z)
  read_returns {s} {f} q =
      let k = refuse_read s (length f) in
      both_return read_places k (pixels s) f (size s) p q.after (valued_returns k (size s) p (read_most s (length f)) q.answer told)

-- ---- a header

module _ (kind : ℕ) (s : List ℕ) {r : Option Head} {old : Heading} (q : r ≡ header_of kind s) where
  pub header_read : {h : Head} → r ≡ Some h → HeaderReturns kind s old 0 (heading h.width h.height h.maximum h.start)
  header_read {h} told =
      let e : header_of kind s ≡ Some h = sym q ∙ told in
      let o = opened kind s h e in
      record { number = sym (ap head_said e); after = rw (e, o.says.wide, o.says.tall, o.says.maximum, o.at) }

  pub header_refused : {n : ℕ} → r ≡ None → n ≡ head_said None → HeaderReturns kind s old n old
  header_refused {n} none told =
      let e : header_of kind s ≡ None = sym q ∙ none in
      record { number = told ∙ sym (ap head_said e); after = rw e }
