use Rattle.std.proofs.Common.{◌∙◌, map, rules, string_bytes, subst}
use Rattle.command_words.specs.Named.{ReadsWords}
use Rattle.command_words.proofs.Answering.{flows_answered, flows_refused}
use Rattle.command_words.proofs.words.read_flows.Goals as goal

pub returns-in_err-matches-clause-reads : goal.returns-in_err-matches-clause-reads
returns-in_err-matches-clause-reads c = search (rules, flows_refused (map string_bytes c.args.words.now) c.in_err-matches.field-0.0 c.in_err-matches.ensures)

pub returns-clause-reads : goal.returns-clause-reads
returns-clause-reads c =
    subst (ReadsWords c.settled.result) (c.flows_answer.ensures.answer
    ∙ flows_answered (map string_bytes c.args.words.now) c.in_ok-matches.matches c.in_ok-matches.ensures) c.settled.ensures.reads
