use Rattle.std.proofs.Common.{rules}
use Rattle.nf_tunnel.proofs.Leaving.{undone}
use Rattle.nf_tunnel.proofs.laws.an_exit_undoes_its_entry.Goals as goal

pub returns : goal.returns
returns c = λ frame one changed. undone c.args.entry c.args.exit frame (record { entry = search rules; exit = search rules }) one changed
