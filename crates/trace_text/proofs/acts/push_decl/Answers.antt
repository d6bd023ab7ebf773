use Rattle.trace_text.proofs.Keeping.{decl_there, decl_nowhere}
use Rattle.trace_text.proofs.acts.push_decl.Goals as goal

pub returns-in_ok-push : goal.returns-in_ok-push
returns-in_ok-push c =
    decl_there c.args.functions.now c.args.order.now.items c.push.new.self.items c.args.place c.in-Some.decl c.in-Some.ensures.lookup.3.0 c.in-Some.ensures.lookup.1 c.in_ok-push.ensures.items

pub returns-in_default : goal.returns-in_default
returns-in_default c = decl_nowhere c.args.functions.now c.args.order.now.items c.args.place c.in_default.ensures.lookup.3
