use Rattle.std.proofs.Common.{◌∙◌, map, rules, string_bytes, subst}
use Rattle.command_words.specs.Named.{ReadsWhy}
use Rattle.command_words.proofs.Answering.{why_answered, why_refused}
use Rattle.command_words.proofs.words.read_why.Goals as goal

pub returns-in_err-matches-clause-reads : goal.returns-in_err-matches-clause-reads
returns-in_err-matches-clause-reads c = search (rules, why_refused (map string_bytes c.args.words.now) c.in_err-matches.field-0.0 c.in_err-matches.ensures)

pub returns-clause-reads : goal.returns-clause-reads
returns-clause-reads c =
    subst (ReadsWhy c.settled_why.result) (c.why_answer.ensures.answer
    ∙ why_answered (map string_bytes c.args.words.now) c.in_ok-matches.matches c.in_ok-matches.ensures) c.settled_why.ensures.reads
