use Rattle.graph_run.proofs.NotedInTurn.{noted_down, none_noted}
use Rattle.graph_run.proofs.noted.note_down.Goals as goal

pub returns-in_ok-push : goal.returns-in_ok-push
returns-in_ok-push c = noted_down _ _ c.in-Some.note _ _ c.in-Some.is c.in_ok-push.ensures.items

pub returns-in_default : goal.returns-in_default
returns-in_default c = none_noted _ _ _ c.in_default.is
