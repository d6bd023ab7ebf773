use Rattle.std.proofs.Common.{sym, subst}
use Rattle.why_call.specs.Ran.{Ran, why_line, why_outcome}
use Rattle.why_call.proofs.explain.run_words.Goals as goal

pub returns-in-Ok-clause-ran : goal.returns-in-Ok-clause-ran
returns-in-Ok-clause-ran g c = subst (λ asked. Ran asked (g.D.Desk.slots c.args.desk.now) (g.D.Desk.slots c.explain.new.desk) (why_outcome c.explain.result) (why_line c.explain.result))
    (sym c.in-Ok.ensures.reads) c.explain.ensures.ran
