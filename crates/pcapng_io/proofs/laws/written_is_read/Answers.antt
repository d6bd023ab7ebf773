use Rattle.pcapng_io.proofs.Rewritten.{item_again, items_again}
use Rattle.pcapng_io.proofs.laws.written_is_read.Goals as goal

pub returns-clause-one : goal.returns-clause-one
returns-clause-one c = item_again

pub returns-clause-all : goal.returns-clause-all
returns-clause-all c = items_again
