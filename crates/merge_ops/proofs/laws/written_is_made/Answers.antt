use Rattle.merge_ops.proofs.Untouched.{dealt_made}
use Rattle.merge_ops.proofs.Written.{made_on, made_absent}
use Rattle.merge_ops.proofs.laws.written_is_made.Goals as goal

pub returns-clause-dealt : goal.returns-clause-dealt
returns-clause-dealt c = λ whole touch. dealt_made whole touch

pub returns-clause-written : goal.returns-clause-written
returns-clause-written c = λ whole touch version f old new m w is by len. made_on whole touch version f old new m w is by len

pub returns-clause-absent : goal.returns-clause-absent
returns-clause-absent c = λ whole touch version f m is. made_absent whole touch version f m is
