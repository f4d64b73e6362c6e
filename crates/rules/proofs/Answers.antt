-- The laws of all answers, over the value and the refusal, and of what stands in a buffer: each is closed by the call's number n, where m is the rules'
-- number. Assumes nothing.
use mathlib.Core.Path.{◌≡◌, refl, sym, ap, ◌∙◌}
use Prim.Native.Nat.{ℕ, zero, suc, ◌≤◌}
use native.Mathlib.Omega.{arith}
use Rattle.std.specs.Prelude.{Result, Ok, Err, IsErr}
use Rattle.std.specs.Result.{IsErrAnd}
use Rattle.rules.specs.declared.Figure.{Figure}
use Rattle.rules.specs.declared.Refusal.{Refusal}
use Rattle.rules.specs.declared.Refusal.TheVariants as refusal
use Rattle.rules.specs.declared.Band.TheVariants as band
use Rattle.rules.specs.Answers.{number, numbered, or, said, left}
use Rattle.rules.specs.Promise.{figure_or, band_said, unless}

-- ---- a refusal and its number

-- no refusal has the number 0
pub number_some : (e : Refusal) → number e ≡ 0 → ⊥
number_some refusal.Size h = omega arith
number_some refusal.Settings h = omega arith
number_some refusal.Frame h = omega arith
number_some refusal.Loan h = omega arith
number_some refusal.Light h = omega arith
number_some refusal.Place h = omega arith
number_some refusal.Pixels h = omega arith
number_some refusal.Entry h = omega arith
number_some refusal.Layout h = omega arith
number_some refusal.Large h = omega arith
number_some refusal.Header h = omega arith
number_some refusal.Maximum h = omega arith
number_some refusal.Bytes h = omega arith
number_some refusal.Unseen h = omega arith
number_some refusal.Name h = omega arith

-- each refusal is the one that has its number
pub numbered_number : (e : Refusal) → numbered (number e) ≡ e
numbered_number refusal.Size = refl
numbered_number refusal.Settings = refl
numbered_number refusal.Frame = refl
numbered_number refusal.Loan = refl
numbered_number refusal.Light = refl
numbered_number refusal.Place = refl
numbered_number refusal.Pixels = refl
numbered_number refusal.Entry = refl
numbered_number refusal.Layout = refl
numbered_number refusal.Large = refl
numbered_number refusal.Header = refl
numbered_number refusal.Maximum = refl
numbered_number refusal.Bytes = refl
numbered_number refusal.Unseen = refl
numbered_number refusal.Name = refl

-- so two refusals with one number are one
pub number_one : (e f : Refusal) → number e ≡ number f → e ≡ f
number_one e f h = sym (numbered_number e) ∙ ap numbered h ∙ numbered_number f

-- and each number from 1 to 15 is that of the refusal that has it
pub number_numbered : (n : ℕ) → n ≤ 14 → number (numbered (suc n)) ≡ suc n
number_numbered zero h = refl
number_numbered (suc zero) h = refl
number_numbered (suc (suc zero)) h = refl
number_numbered (suc (suc (suc zero))) h = refl
number_numbered (suc (suc (suc (suc zero)))) h = refl
number_numbered (suc (suc (suc (suc (suc zero))))) h = refl
number_numbered (suc (suc (suc (suc (suc (suc zero)))))) h = refl
number_numbered (suc (suc (suc (suc (suc (suc (suc zero))))))) h = refl
number_numbered (suc (suc (suc (suc (suc (suc (suc (suc zero)))))))) h = refl
number_numbered (suc (suc (suc (suc (suc (suc (suc (suc (suc zero))))))))) h = refl
number_numbered (suc (suc (suc (suc (suc (suc (suc (suc (suc (suc zero)))))))))) h = refl
number_numbered (suc (suc (suc (suc (suc (suc (suc (suc (suc (suc (suc zero))))))))))) h = refl
number_numbered (suc (suc (suc (suc (suc (suc (suc (suc (suc (suc (suc (suc zero)))))))))))) h = refl
number_numbered (suc (suc (suc (suc (suc (suc (suc (suc (suc (suc (suc (suc (suc zero))))))))))))) h = refl
number_numbered (suc (suc (suc (suc (suc (suc (suc (suc (suc (suc (suc (suc (suc (suc zero)))))))))))))) h = refl
number_numbered (suc (suc (suc (suc (suc (suc (suc (suc (suc (suc (suc (suc (suc (suc (suc n))))))))))))))) h = absurd (let e : ⊥ = omega arith in e)

-- ---- any answer

module _ {A : Type 0} where
  -- a refusal with the rules' number is the answer
  pub or_refused : (e : Refusal) (m : ℕ) (v : A) → number e ≡ m → Err e ≡ or m v
  or_refused e zero v h = absurd (number_some e h)
  or_refused e (suc m) v h = ap Err (sym (numbered_number e) ∙ ap numbered h)

  pub or_done : (m : ℕ) (v : A) → m ≡ 0 → Ok v ≡ or m v
  or_done m v e = rw e

  -- an answer says its number
  pub said_or : (n : ℕ) (v : A) → n ≤ 15 → said (or n v) ≡ n
  said_or zero v h = refl
  said_or (suc n) v h = number_numbered n (omega arith)

  -- a call that says 0 was not refused
  pub or_free : (n : ℕ) (v : A) (r : Result A Refusal) → r ≡ or n v → said r ≡ 0 → n ≡ 0
  or_free zero v r e d = refl
  or_free (suc n) v r e d = absurd (number_some (numbered (suc n)) (ap said (sym e) ∙ d))

  -- what it leaves in the place of its value: the value that it carries, or the old one
  pub left_or : (n : ℕ) (v old : A) → left (or n v) old ≡ unless n v old
  left_or zero v old = refl
  left_or (suc n) v old = refl

-- a call whose answer has a value was not refused, and its value is that
pub or_is : {A : Type 0} (n : ℕ) (v w : A) → Ok w ≡ or n v → (n ≡ 0) × (w ≡ v)
or_is {A} n v w e =
    let free : n ≡ 0 = or_free n v (Ok w) e refl in
    (free, ap (λ (r : Result A Refusal). left r w) (e ∙ ap (λ (i : ℕ). or i v) free))

-- what a `?` hands on: the same error
pub error_is : {T E : Type 0} (r : Result T E) (e : E) → IsErr r × IsErrAnd r (λ y. y ≡ e) → r ≡ Err e
error_is (Ok v) e h = absurd h.1
error_is (Err y) e h = ap Err h.1

-- ---- that of Band figure

pub figure_refused : (e : Refusal) (m : ℕ) (f : Figure) → number e ≡ m → band.Refused e ≡ figure_or m f
figure_refused e zero f h = absurd (number_some e h)
figure_refused e (suc m) f h = ap band.Refused (sym (numbered_number e) ∙ ap numbered h)

pub figure_done : (m : ℕ) (f : Figure) → m ≡ 0 → band.Figure f ≡ figure_or m f
figure_done m f e = rw e

pub said_band : (n : ℕ) (f : Figure) → n ≤ 15 → band_said (figure_or n f) ≡ n
said_band zero f h = refl
said_band (suc n) f h = number_numbered n (omega arith)

pub figure_free : (n : ℕ) (f g : Figure) → figure_or n f ≡ band.Figure g → n ≡ 0
figure_free zero f g e = refl
figure_free (suc n) f g e = absurd (number_some (numbered (suc n)) (ap band_said e))

-- ---- a buffer: what stood there, or the new value

pub kept : {A : Type 0} (n m : ℕ) (new old : A) → n ≡ m → (n ≡ 0 → ⊥) → old ≡ unless m new old
kept n zero new old e h = absurd (h e)
kept n (suc m) new old e h = refl

pub made : {A : Type 0} (m : ℕ) (new old : A) → m ≡ 0 → new ≡ unless m new old
made m new old e = rw e
