use Rattle.std.proofs.Common.{◌∙◌, ◌++◌, ◌∷◌, [], ap}
use Rattle.node_run.proofs.crew.Crew.push.Goals as goal

pub returns : goal.returns
returns g c = c.in_ok-push.ensures.items ∙ ap (λ y. y ++ c.args.node ∷ []) c.self.view_is
