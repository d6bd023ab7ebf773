use Rattle.std.proofs.Common.{◌-◌, ◌+◌}
use Rattle.node_run.proofs.Running.{collect_at, collect_over, collect_found}
use Rattle.node_run.proofs.collect.collect.Goals as goal

pub collect_one-requires : goal.collect_one-requires
collect_one-requires g c =
    let i = c.loop-packet.invariant.0 in
    (c.args.count - (c.loop-packet._packet + 1), i.0, collect_at g.S.Supply.comes c.args.count c.loop-packet._packet _ _ _ i.0 c.loop-packet-test.true i.1)

pub loop-packet-preserved : goal.loop-packet-preserved
loop-packet-preserved g c =
    let i = c.loop-packet.invariant in
    let e = c.in_ok-collect_one.ensures in
    let n = c.args.count - (c.loop-packet._packet + 1) in (
      (i.0.0, e n i.0.0 (collect_at g.S.Supply.comes c.args.count c.loop-packet._packet _ _ _ i.0.0 c.loop-packet-test.true i.0.1)),
      λ all h. e n all (collect_at g.S.Supply.comes c.args.count c.loop-packet._packet _ _ _ all c.loop-packet-test.true (i.1 all h)),
    )

pub returns-clause-fates : goal.returns-clause-fates
returns-clause-fates g c all h = collect_over g.S.Supply.comes c.args.count c.loop-packet._packet _ _ _ all c.loop-packet-test.false (c.loop-packet.invariant.1 all h)

pub returns-clause-found : goal.returns-clause-found
returns-clause-found g c all h = collect_found g.S.Supply.comes c.args.count c.loop-packet._packet _ _ _ all c.loop-packet-test.false (c.loop-packet.invariant.1 all h)
