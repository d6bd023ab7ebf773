use Rattle.policy_lint.specs.Findings.{findings}
use Rattle.lint_laws.proofs.OfPackets.{all_so}
use Rattle.lint_laws.proofs.laws.findings_are_so_of_packets.Goals as goal

pub returns : goal.returns
returns c = λ cuts chains orders accepted. all_so cuts chains orders accepted (findings cuts chains orders) (c.findings_are_true.ensures cuts chains orders)
