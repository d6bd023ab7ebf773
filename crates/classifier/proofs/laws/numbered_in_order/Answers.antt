use Rattle.classifier.proofs.Bursts.{numbered_more, numbers_numbered, packets_numbered}
use Rattle.classifier.proofs.laws.numbered_in_order.Goals as goal

pub returns : goal.returns
returns c = record { packets = packets_numbered; numbers = numbers_numbered; more = numbered_more }
