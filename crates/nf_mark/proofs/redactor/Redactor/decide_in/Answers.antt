use Rattle.std.proofs.Common.{◌∙◌, ◌++◌, sym, ap, append-nil}
use Rattle.nf_mark.proofs.UsedPatterns.{none_used}
use Rattle.nf_mark.proofs.redactor.Redactor.decide_in.Goals as goal

pub returns-in_default-clause-decided : goal.returns-in_default-clause-decided
returns-in_default-clause-decided c =
    sym (ap (λ l. c.args.deciding.now.items ++ l) (none_used 0 c.args.self.now.patterns c.args.payload.now c.in_default.ensures.enough) ∙ append-nil c.args.deciding.now.items)
