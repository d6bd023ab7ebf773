use Rattle.std.proofs.Common.{ap}
use Rattle.packet_version.specs.Splitting.{PlainApart}
use Rattle.merge_ops.proofs.Untouched.{packet_value}
use Rattle.merge_ops.proofs.laws.merged_is_written_last.Goals as goal

pub returns-clause-values : goal.returns-clause-values
returns-clause-values c = λ whole touches base arrivals ops f from on. packet_value whole touches base arrivals ops f from on

pub returns-clause-rest : goal.returns-clause-rest
returns-clause-rest c = λ whole touches base arrivals from. ap (λ (w : PlainApart). w.rest) from.behind

pub returns-clause-fixed : goal.returns-clause-fixed
returns-clause-fixed c = λ whole touches base arrivals from. ap (λ (w : PlainApart). w.fixed) from.behind
