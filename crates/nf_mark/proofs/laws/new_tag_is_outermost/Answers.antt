use Rattle.nf_mark.proofs.NewTags.{seen_id, high_bits, taken_off}
use Rattle.nf_mark.proofs.laws.new_tag_is_outermost.Goals as goal

pub returns-clause-id : goal.returns-clause-id
returns-clause-id c = λ vid priority tags id high. seen_id vid priority tags id high

pub returns-clause-priority : goal.returns-clause-priority
returns-clause-priority c = λ vid priority id. high_bits vid priority id

pub returns-clause-off : goal.returns-clause-off
returns-clause-off c = λ control tags. taken_off control tags
