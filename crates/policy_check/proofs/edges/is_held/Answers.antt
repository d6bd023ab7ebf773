use Rattle.std.proofs.Common.{rules, tests, ◌∙◌, sym}
use Rattle.std.proofs.lemmas.Iterator.{YieldsList-from_slice}
use Rattle.std.proofs.lemmas.Iterator.Search.{any_from_yields_List}
use Rattle.policy_check.specs.Waiting.{holds_back}
use Rattle.policy_check.proofs.Held.{is_held_by_statement}
use Rattle.policy_check.proofs.edges.is_held.Goals as goal

pub returns : goal.returns
returns c =
    any_from_yields_List (holds_back c.args.waiting.now c.args.x) _ _ _ c.any.ensures.ran (YieldsList-from_slice c.args.statements.now cc) (λ s b q k. search (rules, tests)) ∙ sym (is_held_by_statement c.args.statements.now c.args.waiting.now c.args.x)
