use Rattle.graph_run.specs.Packets.{packets_taken}
use Rattle.segment_run.proofs.InPlace.{entry_goes_on, exit_goes_on}
use Rattle.segment_run.proofs.run.lead_on.Goals as goal

pub returns-in_ok-fates-in-Encap-clause-goes : goal.returns-in_ok-fates-in-Encap-clause-goes
returns-in_ok-fates-in-Encap-clause-goes g c = entry_goes_on g.F.Function.behaviour (packets_taken c.args.unit c.args.chain c.args.burst.now.items) c.args.before c.args.ended.items c.args.piece c.args.tally.now c.in_ok-fates-in-Encap.fates.items
    c.requires.one_each c.in-Encap.tunnel c.in-Encap.is c.in_ok-fates-in-Encap.ensures

pub returns-in_ok-fates-in-Decap-clause-goes : goal.returns-in_ok-fates-in-Decap-clause-goes
returns-in_ok-fates-in-Decap-clause-goes g c = exit_goes_on g.F.Function.behaviour (packets_taken c.args.unit c.args.chain c.args.burst.now.items) c.args.before c.args.ended.items c.args.piece c.args.tally.now c.in_ok-fates-in-Decap.fates.items
    c.requires.one_each c.in-Decap.tunnel c.in-Decap.is c.in_ok-fates-in-Decap.ensures
