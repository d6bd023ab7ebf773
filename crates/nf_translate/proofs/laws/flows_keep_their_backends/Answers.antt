use Rattle.nf_translate.specs.ClientLaws.{same_client}
use Rattle.nf_translate.specs.Clients.{is_same}
use Rattle.nf_translate.proofs.Known.{seen_known, grows_by_one}
use Rattle.nf_translate.proofs.Standing.{keeps_backend, takes_turn, known_flow_stays, as_listed}
use Rattle.nf_translate.proofs.laws.flows_keep_their_backends.Goals as goal

pub returns-clause-known : goal.returns-clause-known
returns-clause-known c = λ b destination flow. seen_known is_same same_client.refl b.flows flow

pub returns-clause-kept : goal.returns-clause-kept
returns-clause-kept c = λ fixed b v flow known. keeps_backend flow b _ _ known

pub returns-clause-turns : goal.returns-clause-turns
returns-clause-turns c = λ b destination flow new. takes_turn b destination flow new

pub returns-clause-one_more : goal.returns-clause-one_more
returns-clause-one_more c = λ b destination flow new. grows_by_one is_same b.flows flow new

pub returns-clause-no_more : goal.returns-clause-no_more
returns-clause-no_more c = λ b destination flow known. known_flow_stays b destination flow known

pub returns-clause-listed : goal.returns-clause-listed
returns-clause-listed c = λ s turn place inside. as_listed s turn place inside
