use Rattle.merge_ops.proofs.Latest.{last_greatest, last_there, last_none}
use Rattle.merge_ops.proofs.laws.last_writer_is_greatest.Goals as goal

pub returns-clause-greatest : goal.returns-clause-greatest
returns-clause-greatest c = λ arrivals f branch other e. last_greatest arrivals f branch other e

pub returns-clause-wrote : goal.returns-clause-wrote
returns-clause-wrote c = λ arrivals f branch e. last_there arrivals f branch e

pub returns-clause-unwritten : goal.returns-clause-unwritten
returns-clause-unwritten c = λ arrivals f branch e. last_none arrivals f branch e
