use Rattle.classifier.proofs.Bursts.{bursts_more, one_burst, one_rest, rest_more}
use Rattle.classifier.proofs.laws.cutting_goes_on.Goals as goal

pub returns : goal.returns
returns c = record { bursts = bursts_more; rest = rest_more; one_burst = one_burst; one_rest = one_rest }
