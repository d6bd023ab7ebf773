use Rattle.std.proofs.Common.{◌∙◌, map, rules, string_bytes, subst}
use Rattle.command_words.specs.Named.{ReadsWords}
use Rattle.command_words.proofs.Answering.{plan_answered, plan_refused}
use Rattle.command_words.proofs.words.read_plan.Goals as goal

pub returns-in_err-matches-clause-reads : goal.returns-in_err-matches-clause-reads
returns-in_err-matches-clause-reads c = search (rules, plan_refused (map string_bytes c.args.words.now) c.in_err-matches.field-0.0 c.in_err-matches.ensures)

pub returns-clause-reads : goal.returns-clause-reads
returns-clause-reads c =
    subst (ReadsWords c.settled.result) (c.plan_answer.ensures.answer
    ∙ plan_answered (map string_bytes c.args.words.now) c.in_ok-matches.matches c.in_ok-matches.ensures) c.settled.ensures.reads
