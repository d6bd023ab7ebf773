use Rattle.std.proofs.Common.{ap, sym, subst, ◌∙◌, ◌≡◌, ◌++◌}
use Rattle.std.specs.Prelude.{OnOk}
use Rattle.trace_text.proofs.Keeping.{act_there, act_nowhere}
use Rattle.trace_text.proofs.acts.push_act_at.Goals as goal

pub returns-in-Some : goal.returns-in-Some
returns-in-Some c =
    subst (λ t. OnOk c.push_act.result (c.push_act.new.text.items ≡ t))
    (act_there c.args.text.now.items c.args.order.now c.args.place c.in-Some.decl.now c.args.act.now c.in-Some.ensures.lookup.3.0 c.in-Some.ensures.lookup.1) c.push_act.ensures

pub returns-in-None : goal.returns-in-None
returns-in-None c = act_nowhere c.args.text.now.items c.args.order.now c.args.place c.args.act.now c.in-None.ensures.lookup.3
