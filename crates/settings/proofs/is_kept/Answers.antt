-- `settings::is_kept` meets its contract: the word, the number of fields, the name, then the value. Assumes nothing.
use mathlib.Core.Path.{◌≡◌, sym, ap, ◌∙◌}
use native.Mathlib.Omega.{arith}
use mathlib.Core.Bool.{true}
use mathlib.Core.List.{List}
use Prim.Native.Nat.{ℕ}
use lib.ListN.{length}
use Rattle.fields.specs.Words.{bytes}
use Rattle.fields.specs.Fields.{split, field_of, same}
use Rattle.fields.proofs.LaidOut.{laid_word, laid_count}
use Rattle.settings.specs.Texts.{word}
use Rattle.settings.proofs.Lines.{kept_name, kept_is}
use Rattle.settings.proofs.is_kept.Goals as goal
use Rattle.settings.proofs.is_kept.Goals.{After-is_word, After-is_word-2, After-same, Else-count-ne3, Else-not-same}

-- what the calls tell of the line: its first field, its name, its value
told : (c : After-same) → same (field_of 9 c.args.line.now 0) (bytes "keep") ≡ c.same.result
told c = ap (λ (f : List ℕ). same f (bytes "keep")) (sym c.field.ensures.field) ∙ sym c.same.ensures

name : (c : After-is_word) → word (field_of 9 c.args.line.now 1) ≡ c.is_word.result
name c = ap word (sym c.field-2.ensures.field) ∙ sym c.is_word.ensures

value : (c : After-is_word-2) → c.is_word-2.result ≡ word (field_of 9 c.args.line.now 2)
value c = c.is_word-2.ensures ∙ ap word c.field-3.ensures.field

-- where the first field is `keep`, and where there are three
keep : (c : Else-not-same) → same (field_of 9 c.args.line.now 0) (bytes "keep") ≡ true
keep c = told (goal.at.Else-not-same c).After-same ∙ c.if-not-same.false

three : (c : Else-count-ne3) → length (split 9 c.args.line.now) ≡ 3
three c = omega (arith, c.requires, c.if-count-ne3.false)

pub returns-then-not-same : goal.returns-then-not-same
returns-then-not-same c = laid_word word (bytes "keep") _ 2 (told (goal.at.returns-then-not-same c).After-same ∙ c.if-not-same.true)

pub returns-then-count-ne3 : goal.returns-then-count-ne3
returns-then-count-ne3 c = laid_count word (bytes "keep") _ 2 (keep (goal.at.returns-then-count-ne3 c).Else-not-same) (λ e. c.if-count-ne3.true (omega (arith, c.requires, e)))

pub returns-then-not-is_word : goal.returns-then-not-is_word
returns-then-not-is_word c =
    kept_name _ (keep (goal.at.returns-then-not-is_word c).Else-not-same) (three (goal.at.returns-then-not-is_word c).Else-count-ne3) (name (goal.at.returns-then-not-is_word c).After-is_word ∙ c.if-not-is_word.true)

pub returns : goal.returns
returns c =
    value (goal.at.returns c).After-is_word-2 ∙ kept_is _ (keep (goal.at.returns c).Else-not-same) (three (goal.at.returns c).Else-count-ne3) (name (goal.at.returns c).After-is_word ∙ c.if-not-is_word.false)
