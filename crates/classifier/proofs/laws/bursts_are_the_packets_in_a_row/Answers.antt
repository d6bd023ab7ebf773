use Rattle.classifier.proofs.Bursts.{is_cut, only_bursts, only_rest}
use Rattle.classifier.proofs.laws.bursts_are_the_packets_in_a_row.Goals as goal

pub returns : goal.returns
returns c = record { is_cut = is_cut; only_bursts = only_bursts; only_rest = only_rest }
