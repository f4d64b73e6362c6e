-- What a call answers: the value that it carries, or the refusal, and the number that each of them says. Assumes nothing.
use Rattle.std.specs.Prelude.{ℕ, zero, suc, ◌-◌, List, [], ◌∷◌, get_or, Result, Ok, Err}
use Rattle.rules.specs.declared.Refusal.{Refusal}
use Rattle.rules.specs.declared.Refusal.TheVariants as refusal

-- the paper's number of each refusal
abbrev pub number : Refusal → ℕ
number refusal.Size = 1
number refusal.Settings = 2
number refusal.Frame = 3
number refusal.Loan = 4
number refusal.Light = 5
number refusal.Place = 6
number refusal.Pixels = 7
number refusal.Entry = 8
number refusal.Layout = 9
number refusal.Large = 10
number refusal.Header = 11
number refusal.Maximum = 12
number refusal.Bytes = 13
number refusal.Unseen = 14
number refusal.Name = 15

-- the refusal that has a number from 1 to 15 (proofs/Answers)
abbrev pub numbered : ℕ → Refusal
numbered n =
    get_or
    (refusal.Size
    ∷ refusal.Settings
    ∷ refusal.Frame
    ∷ refusal.Loan
    ∷ refusal.Light
    ∷ refusal.Place
    ∷ refusal.Pixels
    ∷ refusal.Entry
    ∷ refusal.Layout
    ∷ refusal.Large
    ∷ refusal.Header
    ∷ refusal.Maximum
    ∷ refusal.Bytes
    ∷ refusal.Unseen
    ∷ refusal.Name
    ∷ [])
    (n - 1)
    refusal.Name

-- the answer to a call of a refusal number: for 0 the value, for another number the refusal that has it
abbrev pub or : {A : Type 0} → ℕ → A → Result A Refusal
or zero v = Ok v
or (suc n) v = Err (numbered (suc n))

-- the number that an answer says, 0 where the call was not refused
abbrev pub said : {A : Type 0} → Result A Refusal → ℕ
said (Ok v) = 0
said (Err e) = number e

-- what an answer leaves in the place of its value: the value that it carries, or what stood there
abbrev pub left : {A : Type 0} → Result A Refusal → A → A
left (Ok v) old = v
left (Err e) old = old
