use Rattle.segment_run.proofs.Tunnels.{exit_grows}
use Rattle.segment_run.proofs.laws.exit_grows.Goals as goal

pub returns : goal.returns
returns c = λ frame. exit_grows c.args.tunnel.now frame
