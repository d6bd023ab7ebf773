use Rattle.nf_observe.proofs.Conforming.{conforming_pass}
use Rattle.nf_observe.proofs.laws.conforming_sources_pass.Goals as goal

pub returns : goal.returns
returns c = λ rate burst first later conforming. conforming_pass rate burst first later conforming
