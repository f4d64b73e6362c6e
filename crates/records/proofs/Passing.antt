-- One line on. A line with a byte of the class other is laid out as no record, so a broken line is refused with 9; a line that ends is judged, and the
-- verdict on the whole is the verdict on what is left. Assumes nothing.
use mathlib.Core.Path.{◌≡◌, refl, sym, ap, ◌∙◌}
use mathlib.Core.Bool.{false}
use mathlib.Core.List.{List, [], ◌∷◌}
use Prim.Native.Nat.{ℕ, zero, suc, ◌+◌, ◌-◌, ◌≤◌, ◌<◌}
use native.Mathlib.Numerals.{add-one}
use native.Mathlib.Omega.{arith}
use lib.ListN.{length, take, drop}
use Rattle.std.specs.Prelude.{None, Ok, Err}
use Rattle.rules.specs.declared.Refusal.{Refusal}
use Rattle.rules.specs.declared.Refusal.TheVariants.{Layout}
use Rattle.rules.specs.Answers.{number}
use Rattle.rules.proofs.Answers.{number_some}
use Rattle.fields.specs.Words.{bytes}
use Rattle.fields.specs.Bytes.{plain, line_of}
use Rattle.fields.specs.Fields.{split}
use Rattle.fields.specs.Decimal.{numeral}
use Rattle.fields.proofs.LaidOut.{rough_unlaid}
use Rattle.fields.proofs.Lines.{some_part, sound, broken, Ended, plain_numeral}
use Rattle.records.specs.declared.Kind.{Kind}
use Rattle.records.specs.declared.Kind.TheVariants.{Size, Set, Px}
use Rattle.records.specs.declared.Reader.{Reader}
use Rattle.records.specs.Records.{fault}
use Rattle.records.specs.Judging.{Verdict, bad, onward, judge}
use Rattle.records.specs.Reader.{outcome, Stands, Placed, Passed}
use Rattle.records.proofs.Records.{size_unlaid, set_unlaid, px_unlaid}

-- a line with a byte of the class other is no record
rough : (k : Kind) (line : List ℕ) → plain line ≡ false → fault k line ≡ 9
rough Size line h = sym (size_unlaid line (rough_unlaid numeral (bytes "size") line 2 refl plain_numeral h))
rough Set line h = sym (set_unlaid line (rough_unlaid numeral (bytes "set") line 6 refl plain_numeral h))
rough Px line h = sym (px_unlaid line (rough_unlaid numeral (bytes "px") line 3 refl plain_numeral h))

-- ---- the verdict, one line on

pub judge_broken : (k : Kind) (ks : List Kind) (l : ℕ) (ps : List (List ℕ)) → sound ps ≡ false → judge (k ∷ ks) l ps ≡ bad 9 l
judge_broken k ks l [] h = refl
judge_broken k ks l (p ∷ []) h = refl
judge_broken k ks l (p ∷ q ∷ ps) h = ap (λ (n : ℕ). onward n l (judge ks (suc l) (q ∷ ps))) (rough k p h)

pub judge_ended : (k : Kind) (ks : List Kind) (l : ℕ) (p : List ℕ) (ps : List (List ℕ)) → 0 < length ps → judge (k ∷ ks) l (p ∷ ps) ≡ onward (fault k p) l (judge ks (suc l) ps)
judge_ended k ks l p [] h = absurd (let z : ⊥ = omega arith in z)
judge_ended k ks l p (q ∷ ps) h = refl

-- a fault ends the judging
onward_some : (n l : ℕ) (v : Verdict) → (n ≡ 0 → ⊥) → onward n l v ≡ bad n l
onward_some zero l v h = absurd (h refl)
onward_some (suc n) l v h = refl

module _ (input : List ℕ) (k : Kind) (s : Reader) (st : Stands input s) where
  -- the line at fault is the one that the reader stands at
  pub pass_placed : (e : Refusal) → Placed input (Err (record { refusal = e; line = s.line }))
  pass_placed e = omega (arith, st.within, st.counted)

  pub pass_broken : line_of input s.at ≡ None → Passed input k s (Err (record { refusal = Layout; line = s.line }))
  pass_broken q =
      record {
        verdict = λ ks. judge_broken k ks s.line (split 10 (drop s.at input)) (broken input s.at q);
        placed = pass_placed Layout;
        accepted = tt;
      }

  module _ (e n : ℕ) (p : Ended input s.at e n) where
    judged : (ks : List Kind) → outcome input (k ∷ ks) (Ok s)
        ≡ onward (fault k (take (e - s.at) (drop s.at input))) s.line (judge ks (suc s.line) (split 10 (drop (e + 1) input)))
    judged ks =
        ap (judge (k ∷ ks) s.line) p.line
        ∙ judge_ended k ks s.line (take (e - s.at) (drop s.at input)) (split 10 (drop (e + 1) input)) (some_part 10 (drop (e + 1) input))

    pub pass_fault : (f : Refusal) → number f ≡ fault k (take (e - s.at) (drop s.at input)) → Passed input k s (Err (record { refusal = f; line = s.line }))
    pass_fault f q =
        record {
          verdict = λ ks.
              judged ks ∙ ap (λ (m : ℕ). onward m s.line (judge ks (suc s.line) (split 10 (drop (e + 1) input)))) (sym q)
              ∙ onward_some (number f) s.line (judge ks (suc s.line) (split 10 (drop (e + 1) input))) (number_some f);
          placed = pass_placed f;
          accepted = tt;
        }

    pub pass_on : 0 ≡ fault k (take (e - s.at) (drop s.at input)) → Passed input k s (Ok (record { at = e + 1; line = s.line + 1 }))
    pass_on q =
        let d : e - s.at ≡ e + 1 - 1 - s.at = omega arith in
        let t : take (e - s.at) (drop s.at input) ≡ take (e + 1 - 1 - s.at) (drop s.at input) = ap (λ (m : ℕ). take m (drop s.at input)) d in
        record {
          verdict = λ ks.
              judged ks ∙ ap (λ (m : ℕ). onward m s.line (judge ks (suc s.line) (split 10 (drop (e + 1) input)))) (sym q)
              ∙ ap (λ (m : ℕ). judge ks m (split 10 (drop (e + 1) input))) (sym (add-one s.line));
          placed = record { within = omega (arith, p.within); counted = omega (arith, p.from, st.counted) };
          accepted = record {
            on = omega (arith, p.from);
            line = p.line ∙ ap (λ (m : List ℕ). m ∷ split 10 (drop (e + 1) input)) t;
            sound = sym (ap (fault k) t) ∙ sym q;
          };
        }
