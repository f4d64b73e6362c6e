-- `settings::is_word` meets its contract. The invariant: all bytes are letters exactly if those that are left are. Assumes nothing.
use mathlib.Core.Path.{◌≡◌, refl, sym, ap, ◌∙◌}
use native.Mathlib.Omega.{arith}
use borrow.Author.Rules.{rules}
use mathlib.Core.List.{[], ◌∷◌}
use types.Run.{OneOf}
use denote.Enum.Declared.{tag_of}
use Rattle.fields.specs.declared.Class.{Class}
use Rattle.fields.specs.contracts.Class.{the_type}
use Rattle.fields.specs.declared.Class.TheVariants.{Digit, Lower, Tab, LineEnd, Other}
use Rattle.fields.proofs.Every.{every_on, every_off, every_end}
use Rattle.settings.specs.Texts.{in_word, letter}
use Rattle.settings.proofs.Words.{is_letter, no_letter, word_empty, word_long, word_is}
use Rattle.settings.proofs.is_word.Goals as goal

pub returns-then-s-eq0 : goal.returns-then-s-eq0
returns-then-s-eq0 c = sym (word_empty c.args.s.now c.if-s-eq0.true)

pub returns-then-s-gt16 : goal.returns-then-s-gt16
returns-then-s-gt16 c = sym (word_long c.args.s.now c.if-s-gt16.true)

pub loop-b-init : goal.loop-b-init
loop-b-init c = (omega arith, omega arith, refl)

-- the classes that `_` takes
other : (k : Class) → (k ≡ Digit → ⊥) → (k ≡ Lower → ⊥) → OneOf (2 ∷ 3 ∷ 4 ∷ []) (tag_of the_type k)
other Digit d l = absurd (d refl)
other Lower d l = absurd (l refl)
other Tab d l = search rules
other LineEnd d l = search rules
other Other d l = search rules

pub returns-in_default : goal.returns-in_default
returns-in_default c =
    let l = c.loop-b in
    let s = c.args.s.now in
    let k = c.class_of in
    let off = every_off letter s l.b-index 0 c.loop-b-test.true (sym (ap in_word k.ensures) ∙ no_letter k.result (other k.result c.in_default.not-Digit c.in_default.not-Lower)) in
    sym (word_is s l.invariant.0 l.invariant.1 ∙ l.invariant.2 ∙ off)

pub loop-b-preserved : goal.loop-b-preserved
loop-b-preserved c =
    let l = c.loop-b in
    let s = c.args.s.now in
    let k = c.class_of in
    let on = every_on letter s l.b-index 0 c.loop-b-test.true (sym (ap in_word k.ensures) ∙ is_letter k.result (search rules)) in
    (l.invariant.0, l.invariant.1, l.invariant.2 ∙ on)

pub returns : goal.returns
returns c =
    let l = c.loop-b in
    let s = c.args.s.now in
    sym (word_is s l.invariant.0 l.invariant.1 ∙ l.invariant.2 ∙ every_end letter s l.b-index c.loop-b-test.false)
