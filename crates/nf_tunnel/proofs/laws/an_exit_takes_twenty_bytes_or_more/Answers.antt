use Rattle.nf_tunnel.proofs.Lengths.{exit_takes, exit_keeps}
use Rattle.nf_tunnel.proofs.laws.an_exit_takes_twenty_bytes_or_more.Goals as goal

pub returns-clause-length : goal.returns-clause-length
returns-clause-length c = λ frame changed. exit_takes c.args.exit frame changed

pub returns-clause-before : goal.returns-clause-before
returns-clause-before c = λ frame. exit_keeps c.args.exit frame
