-- `settings::choose` meets its contract: the field text, the house text, the name, then the line that answers. Assumes nothing.
use mathlib.Core.Path.{◌≡◌, refl, sym, ◌∙◌}
use mathlib.Core.Bool.{true}
use Rattle.settings.specs.Texts.{word, good}
use Rattle.settings.proofs.Answers.{field_bad, house_bad, name_bad, name_good}
use Rattle.settings.proofs.choose.Goals as goal
use Rattle.settings.proofs.choose.Goals.{Else-not-is_good, Else-not-is_good-2, Else-not-is_word}

pub returns-then-not-is_good : goal.returns-then-not-is_good
returns-then-not-is_good c = field_bad _ _ _ (sym c.is_good.ensures ∙ c.if-not-is_good.true)

-- where the texts and the name are good
field_good : (c : Else-not-is_good) → good c.args.field.now ≡ true
field_good c = sym c.is_good.ensures ∙ c.if-not-is_good.false

house_good : (c : Else-not-is_good-2) → good c.args.house.now ≡ true
house_good c = sym c.is_good-2.ensures ∙ c.if-not-is_good-2.false

name_word : (c : Else-not-is_word) → word c.args.name.now ≡ true
name_word c = sym c.is_word.ensures ∙ c.if-not-is_word.false

pub returns-then-not-is_good-2 : goal.returns-then-not-is_good-2
returns-then-not-is_good-2 c = house_bad _ _ _ (field_good (goal.at.returns-then-not-is_good-2 c).Else-not-is_good) (sym c.is_good-2.ensures ∙ c.if-not-is_good-2.true)

pub returns-then-not-is_word : goal.returns-then-not-is_word
returns-then-not-is_word c =
    name_bad _ _ _ (field_good (goal.at.returns-then-not-is_word c).Else-not-is_good) (house_good (goal.at.returns-then-not-is_word c).Else-not-is_good-2) (sym c.is_word.ensures ∙ c.if-not-is_word.true)

pub returns-in-Some : goal.returns-in-Some
returns-in-Some c =
    name_good _ _ _ (field_good (goal.at.returns-in-Some c).Else-not-is_good) (house_good (goal.at.returns-in-Some c).Else-not-is_good-2) (name_word (goal.at.returns-in-Some c).Else-not-is_word) _ _ (sym c.first_with.ensures ∙ c.in-Some.is) refl

pub returns-in-Some-first_with : goal.returns-in-Some-first_with
returns-in-Some-first_with c =
    name_good _ _ _ (field_good (goal.at.returns-in-Some-first_with c).Else-not-is_good) (house_good (goal.at.returns-in-Some-first_with c).Else-not-is_good-2) (name_word (goal.at.returns-in-Some-first_with c).Else-not-is_word) _ _ (sym c.first_with.ensures ∙ c.in-None.is)
    (sym c.first_with-in-None.ensures ∙ c.in-Some-first_with.is)

pub returns-in-None-first_with : goal.returns-in-None-first_with
returns-in-None-first_with c =
    name_good _ _ _ (field_good (goal.at.returns-in-None-first_with c).Else-not-is_good) (house_good (goal.at.returns-in-None-first_with c).Else-not-is_good-2) (name_word (goal.at.returns-in-None-first_with c).Else-not-is_word) _ _ (sym c.first_with.ensures ∙ c.in-None.is)
    (sym c.first_with-in-None.ensures ∙ c.in-None-first_with.is)
