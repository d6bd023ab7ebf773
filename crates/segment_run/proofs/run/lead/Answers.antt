use Rattle.graph_run.specs.Packets.{packets_taken}
use Rattle.segment_run.proofs.Leading.{entry_goes, exit_goes}
use Rattle.segment_run.proofs.run.lead.Goals as goal

pub returns-in_ok-fates-in-Encap-clause-goes : goal.returns-in_ok-fates-in-Encap-clause-goes
returns-in_ok-fates-in-Encap-clause-goes g c = entry_goes g.F.Function.behaviour (packets_taken c.args.unit c.args.chain c.args.burst.now.items) c.args.piece c.args.tally.now c.in_ok-fates-in-Encap.fates.items
    c.in-Encap.tunnel c.in-Encap.is (c.in_ok-fates-in-Encap.ensures.goes c.args.tally.now)

pub returns-in_ok-fates-in-Decap-clause-goes : goal.returns-in_ok-fates-in-Decap-clause-goes
returns-in_ok-fates-in-Decap-clause-goes g c = exit_goes g.F.Function.behaviour (packets_taken c.args.unit c.args.chain c.args.burst.now.items) c.args.piece c.args.tally.now c.in_ok-fates-in-Decap.fates.items
    c.in-Decap.tunnel c.in-Decap.is (c.in_ok-fates-in-Decap.ensures.goes c.args.tally.now)
