use Rattle.std.proofs.Common.{ap, sym, length}
use Rattle.packet_version.specs.Views.{PlainView}
use Rattle.packet_version.proofs.Lawful.{unwritten_view}
use Rattle.packet_version.proofs.laws.unwritten_stays.Goals as goal

pub returns-clause-same : goal.returns-clause-same
returns-clause-same c = unwritten_view c.args.view.now (ap (λ (v : PlainView). length v.version.parts) (sym c.view.view_is))

pub returns-clause-ten : goal.returns-clause-ten
returns-clause-ten c = ap (λ (v : PlainView). length v.version.parts) (sym c.view.view_is)
