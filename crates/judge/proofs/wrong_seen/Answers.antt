-- `judge::wrong_seen` meets its contract: what `all` answers is the fold of the definition. Assumes nothing.
use Rattle.std.proofs.Common.{◌≡◌, refl, ◌∙◌, ◌&&◌, eqb, rules, tests}
use Rattle.std.specs.List.{list_all}
use Rattle.std.proofs.lemmas.Iterator.{YieldsList-from_slice}
use Rattle.std.proofs.lemmas.Iterator.Search.{all_from_yields_List}
use Rattle.std.proofs.lemmas.List.Recursion.{same_from_clauses}
use Rattle.rules.specs.Refusals.{bad_seen}
use Rattle.judge.proofs.wrong_seen.Goals as goal

pub returns : goal.returns
unfolding bad_seen
returns c =
    let mask = c.args.mask.now in
    all_from_yields_List (λ m. eqb m 0) _ _ _ c.all.ensures.ran (YieldsList-from_slice mask cc) (λ x b q k. search (rules, tests))
    ∙ same_from_clauses (list_all (λ m. eqb m 0)) bad_seen (λ m b. eqb m 0 && b) refl (λ _ _. refl) (λ _ _. refl) mask
