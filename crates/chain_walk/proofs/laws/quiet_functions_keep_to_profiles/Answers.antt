use Rattle.chain_walk.proofs.QuietFunctions.{quiet_keeps, quiet_is_quiet}
use Rattle.chain_walk.proofs.laws.quiet_functions_keep_to_profiles.Goals as goal

pub returns-clause-keeps : goal.returns-clause-keeps
returns-clause-keeps g c = λ b keeps. quiet_keeps b keeps

pub returns-clause-still : goal.returns-clause-still
returns-clause-still g c = λ b. quiet_is_quiet b
