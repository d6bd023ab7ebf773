use Rattle.classifier.proofs.Firsts.{first_fits, none_before, none_fits, stands_within}
use Rattle.classifier.proofs.laws.class_is_the_first.Goals as goal

pub returns : goal.returns
returns c = record { within = stands_within; met = first_fits; first = none_before; none = none_fits }
