use Rattle.nf_translate.specs.Endpoints.{is_same}
use Rattle.nf_translate.proofs.Known.{grows_by_one}
use Rattle.nf_translate.proofs.OrderedPorts.{opens_within}
use Rattle.nf_translate.proofs.Standing.{stays_within, is_new, all_taken, known_source_stays, back_stays}
use Rattle.nf_translate.proofs.laws.ports_run_out_once_all_are_taken.Goals as goal

pub returns-clause-opens : goal.returns-clause-opens
returns-clause-opens c = λ decl. opens_within decl

pub returns-clause-within : goal.returns-clause-within
returns-clause-within c = λ fixed n v has. stays_within n _ has

pub returns-clause-new : goal.returns-clause-new
returns-clause-new c = λ n source has none. is_new n source has none

pub returns-clause-all_taken : goal.returns-clause-all_taken
returns-clause-all_taken c = λ n source has none. all_taken n source has none

pub returns-clause-one_more : goal.returns-clause-one_more
returns-clause-one_more c = λ n source port new. grows_by_one is_same n.mappings source new

pub returns-clause-no_more : goal.returns-clause-no_more
returns-clause-no_more c = λ n source port known. known_source_stays n source port known

pub returns-clause-none_back : goal.returns-clause-none_back
returns-clause-none_back c = λ n inside. back_stays n inside
