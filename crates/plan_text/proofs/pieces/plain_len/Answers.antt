use Rattle.std.proofs.Common.{sym, ◌∙◌}
use Rattle.plan_text.specs.Plan.{is_whole_at}
use Rattle.plan_text.proofs.Cutting.{some_place, no_place}
use Rattle.plan_text.proofs.pieces.plain_len.Goals as goal

pub returns-in-Some : goal.returns-in-Some
returns-in-Some c = sym (some_place (is_whole_at c.args.functions.now) c.args.order.now c.in-Some.place (sym c.first_whole.ensures ∙ c.in-Some.is))

pub returns-in-None : goal.returns-in-None
returns-in-None c = sym (no_place (is_whole_at c.args.functions.now) c.args.order.now (sym c.first_whole.ensures ∙ c.in-None.is))
