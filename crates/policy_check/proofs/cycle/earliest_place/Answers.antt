use Rattle.std.proofs.Common.{◌∙◌, ap, rules, tests, nat_le}
use Rattle.std.specs.Option.{unwrap_or}
use Rattle.std.specs.List.{list_all}
use Rattle.std.proofs.lemmas.Iterator.{YieldsList-from_slice}
use Rattle.std.proofs.lemmas.Iterator.Search.{position_from_yields_List}
use Rattle.policy_check.proofs.cycle.earliest_place.Goals as goal

pub returns-clause-place : goal.returns-clause-place
returns-clause-place c =
    let cycle = c.args.cycle.now in
    c.unwrap_or.ensures ∙ ap (λ o. unwrap_or o 0) (position_from_yields_List (λ x. list_all (λ y. nat_le x y) cycle) _ _ c.position.result c.position.ensures.ran (YieldsList-from_slice cycle cc) (λ x b q k. search (rules, tests)))
