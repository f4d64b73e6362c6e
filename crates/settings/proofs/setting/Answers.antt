-- `settings::setting` meets its contract, by what answers. Assumes nothing.
use mathlib.Core.Path.{sym, ap, ◌∙◌}
use Rattle.std.specs.Prelude.{Ok}
use Rattle.settings.specs.Promise.{bytes_of, memory_of}
use Rattle.settings.proofs.Answers.{answers}
use Rattle.settings.proofs.setting.Goals as goal

pub returns-in-Ok-Field : goal.returns-in-Ok-Field
returns-in-Ok-Field c =
    let v = c.value_of.ensures in
    let a = c.args in
    answers a.field a.house a.name.now _ _ (sym c.choose.ensures ∙ c.in-Ok-Field.is ∙ ap Ok c.in-Ok-Field.field-0-is) v.bytes v.memory

pub returns-in-Ok-House : goal.returns-in-Ok-House
returns-in-Ok-House c =
    let v = c.value_of-in-Ok-House.ensures in
    let a = c.args in
    answers a.field a.house a.name.now _ _ (sym c.choose.ensures ∙ c.in-Ok-House.is ∙ ap Ok c.in-Ok-House.field-0-is) v.bytes v.memory

pub returns-in-Err : goal.returns-in-Err
returns-in-Err c =
    let a = c.args in
    let e = sym c.in-Err.is ∙ c.choose.ensures in
    record { bytes = ap (bytes_of a.field.now a.house.now) e; memory = ap (memory_of a.field a.house) e }
