use Rattle.nf_observe.proofs.OwnBuckets.{as_compared, pays_alone, others_stay}
use Rattle.nf_observe.proofs.laws.sources_have_their_own_buckets.Goals as goal

pub returns-clause-pays : goal.returns-clause-pays
returns-clause-pays c = λ l source same bytes time later is. pays_alone (as_compared c.noted_is_found.ensures.found) l source same bytes time later is

pub returns-clause-others : goal.returns-clause-others
returns-clause-others c = λ l source other bytes time later differ. others_stay (as_compared c.noted_is_found.ensures.found) l source other bytes time later differ
