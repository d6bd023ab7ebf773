use Rattle.std.proofs.Common.{◌≡◌, ◌∙◌, ap, sym, ◌++◌, take, drop}
use Rattle.policy_check.specs.Cycles.{earliest_place, from_earliest}
use Rattle.policy_check.proofs.Cycling.{named_from}
use Rattle.policy_check.proofs.cycle.named_cycle.Goals as goal

pub returns : goal.returns
unfolding from_earliest
returns c =
    let cycle = c.in_ok-cycle.cycle.items in
    let place : c.earliest_place-place.result ≡ earliest_place cycle = c.earliest_place-place.ensures.place ∙ ap earliest_place c.deref.ensures.value in
    c.rotate_left.ensures.items ∙ ap (λ p. drop p cycle ++ take p cycle) place ∙ ap from_earliest c.in_ok-cycle.ensures ∙ sym (named_from _ _ _ c.requires.start)
