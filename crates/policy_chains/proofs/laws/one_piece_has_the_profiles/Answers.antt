use Rattle.policy_chains.proofs.Profiled.{pieces_profiled}
use Rattle.policy_chains.proofs.laws.one_piece_has_the_profiles.Goals as goal

pub returns : goal.returns
returns c = pieces_profiled
