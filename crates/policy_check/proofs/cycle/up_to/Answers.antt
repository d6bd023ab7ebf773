use Rattle.std.proofs.Common.{◌∙◌, ◌∷◌, [], ◌++◌, ap, sym}
use Rattle.policy_check.proofs.Trails.{up_to-reverse}
use Rattle.policy_check.proofs.cycle.up_to.Goals as goal

pub returns : goal.returns
returns c =
    c.in_ok-push.ensures.items ∙ ap (λ front. front ++ c.args.x ∷ []) c.in_ok-front.ensures ∙ sym (up_to-reverse c.args.x c.args.trail.now c.requires)
