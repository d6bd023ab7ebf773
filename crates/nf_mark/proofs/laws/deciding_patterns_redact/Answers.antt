use Rattle.packet_fields.specs.declared.field.Field.TheVariants.{Payload}
use Rattle.nf_mark.proofs.UsedAlone.{same_written, unwritten, undecided}
use Rattle.nf_mark.proofs.laws.deciding_patterns_redact.Goals as goal

pub returns-clause-alone : goal.returns-clause-alone
returns-clause-alone c = λ r shown. same_written c.overwritten_patterns_are_gone.ensures.stays r.patterns (shown.values Payload)

pub returns-clause-none : goal.returns-clause-none
returns-clause-none c = λ r shown. (unwritten r.patterns (shown.values Payload), undecided r.patterns (shown.values Payload))
