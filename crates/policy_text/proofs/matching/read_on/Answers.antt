use Rattle.std.proofs.Common.{◌∙◌, sym, arith}
use Rattle.policy_text.proofs.ReadClauses.{read_flag, read_clause}
use Rattle.policy_text.proofs.matching.read_on.Goals as goal

pub returns-then-not-may_lead-clause-read : goal.returns-then-not-may_lead-clause-read
returns-then-not-may_lead-clause-read c =
    let miss = sym c.may_lead.ensures ∙ c.if-not-may_lead.true in
    read_flag c.args.words.now _ _ _ c.args.place c.add_flag.result c.requires.some (rw c.deref.ensures.value at miss) c.add_flag.ensures.one c.add_flag.ensures.more

pub returns-clause-read : goal.returns-clause-read
returns-clause-read c =
    let lead = sym c.may_lead.ensures ∙ c.if-not-may_lead.false in
    read_clause c.args.words.now _ _ _ _ _ c.args.place (omega arith) (rw c.deref.ensures.value at lead) (sym c.in-Some.ensures) c.in_ok-push.ensures.items
