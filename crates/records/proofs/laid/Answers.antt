-- `records::laid` meets its contract: the word, the number of fields, then each field. Assumes nothing.
use mathlib.Core.Path.{◌≡◌, sym, ap, ◌∙◌}
use mathlib.Core.Bool.{true≢false}
use mathlib.Core.List.{List}
use Prim.Native.Nat.{ℕ, ◌+◌}
use borrow.Author.Tests.{eqb-true, eq-eqb}
use Rattle.fields.specs.Fields.{field_of, same}
use Rattle.fields.specs.Decimal.{numeral}
use Rattle.fields.proofs.LaidOut.{laid_word, laid_count, laid_fields}
use Rattle.records.proofs.laid.Goals as goal
use Rattle.records.proofs.laid.Goals.{After-same, then-same, else-same}

-- the word as the two calls tell it
told : (c : After-same) → same (field_of 9 c.args.line.now 0) c.args.word.now ≡ c.same.result
told c = ap (λ (f : List ℕ). same f c.args.word.now) (sym c.field.ensures.field) ∙ sym c.same.ensures

pub returns-then-count-n : goal.returns-then-count-n
returns-then-count-n c =
    let a = c.args in
    let word = told (goal.at.returns-then-count-n c).After-same in
    elim c.if-same.branch [
      | then-same w ↦
          c.all_numbers.ensures
          ∙ laid_fields numeral a.word.now a.line.now a.n (word ∙ w.if-same.true)
          (sym c.requires.0 ∙ eqb-true a.count (a.n + 1) (sym w.value-is ∙ c.if-count-n.true))
      | else-same w ↦ absurd (true≢false (sym c.if-count-n.true ∙ w.value-is ∙ w.if-same.false))
    ]

pub returns-else-count-n : goal.returns-else-count-n
returns-else-count-n c =
    let a = c.args in
    let word = told (goal.at.returns-else-count-n c).After-same in
    elim c.if-same.branch [
      | then-same w ↦
          c.if-count-n.false
          ∙ laid_count numeral a.word.now a.line.now a.n (word ∙ w.if-same.true)
          (λ e. true≢false (sym (eq-eqb a.count (a.n + 1) (c.requires.0 ∙ e)) ∙ sym w.value-is ∙ c.if-count-n.false))
      | else-same w ↦ c.if-count-n.false ∙ laid_word numeral a.word.now a.line.now a.n (word ∙ w.if-same.false)
    ]
