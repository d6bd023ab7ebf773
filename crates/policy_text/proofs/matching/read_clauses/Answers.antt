use Rattle.policy_text.proofs.ReadClauses.{fits_in, read_more, read_fault}
use Rattle.policy_text.proofs.matching.read_clauses.Goals as goal

pub returns-in_err-at : goal.returns-in_err-at
returns-in_err-at c =
    read_fault c.args.words.now _ c.read_on.new.clauses.items c.args.place c.clauses.at _ _ c.from_residual.result c.clauses.invariant.1 c.from_residual.ensures.0 c.from_residual.ensures.1 c.in_err-at.ensures.read

pub clauses-preserved : goal.clauses-preserved
clauses-preserved c = (
  fits_in c.args.words.now c.clauses.at c.in_ok-at.field-0 c.clauses.invariant.0 c.in_ok-at.ensures.within,
  read_more c.args.words.now _ _ c.args.place c.clauses.at _ _ c.clauses.invariant.1 c.in_ok-at.ensures.read,
)
