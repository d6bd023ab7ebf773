use Rattle.std.proofs.Common.{◌<◌, ◌++◌, ◌∷◌, [], length, subst, arith}
use Rattle.packet_messages.specs.Messages.{plain}
use Rattle.stage_nodes.specs.Gathering.{IsGathering}
use Rattle.stage_nodes.proofs.Gathering.{gathering_begins, gathered_more, gathering_ends, next_may, next_there, next_owes}
use Rattle.stage_nodes.proofs.link_rows.gather.Goals as goal

pub loop-branch-init : goal.loop-branch-init
loop-branch-init g c = (gathering_begins _ _ _ _ c.requires.ready c.requires.empty, c.requires.room)

pub accept_at-requires : goal.accept_at-requires
accept_at-requires g c =
    let inside : c.loop-branch.branch < length c.args.inlets.now = omega (arith, c.loop-branch-test.true, c.len-branch-end.ensures) in record {
      inside = next_there _ _ _ _ _ _ c.loop-branch.invariant.0 inside;
      due = next_owes _ _ _ _ _ _ c.requires.owing c.loop-branch.invariant.0 inside;
    }

pub arrive-requires-clause-may : goal.arrive-requires-clause-may
arrive-requires-clause-may g c = (_, next_may _ _ _ _ _ _ c.loop-branch.invariant.0 (omega (arith, c.loop-branch-test.true, c.len-branch-end.ensures)))

pub arrive-requires-clause-room : goal.arrive-requires-clause-room
arrive-requires-clause-room g c = omega (arith, c.loop-branch.invariant.0.count, c.loop-branch.invariant.1)

pub loop-branch-preserved : goal.loop-branch-preserved
loop-branch-preserved g c =
    let has = c.loop-branch.invariant.0 in
    let inside : c.loop-branch.branch < length c.args.inlets.now = omega (arith, c.loop-branch-test.true, c.len-branch-end.ensures) in (
      gathered_more _ _ _ _ _ _ _ _ _ (plain c.accept_at.result) has inside c.accept_at.ensures.fits c.accept_at.ensures.after
          (subst (λ a. IsGathering (has.come ++ a ∷ []) c.arrive.new.table c.args.packet c.arrive.new.row.items) c.arrival_of-arrival.ensures (c.arrive.ensures.come _ (next_may _ _ _ _ _ _ has inside)))
          c.arrive.ensures.branches,
      omega (arith, c.loop-branch.invariant.1, c.arrive.ensures.room),
    )

pub returns-clause-row : goal.returns-clause-row
returns-clause-row g c = (gathering_ends _ _ _ _ _ _ _ c.requires.ready c.loop-branch.invariant.0 (omega (arith, c.loop-branch-test.false, c.len-branch-end.ensures))).row

pub returns-clause-left : goal.returns-clause-left
returns-clause-left g c = (gathering_ends _ _ _ _ _ _ _ c.requires.ready c.loop-branch.invariant.0 (omega (arith, c.loop-branch-test.false, c.len-branch-end.ensures))).left

pub returns-clause-ready : goal.returns-clause-ready
returns-clause-ready g c = (gathering_ends _ _ _ _ _ _ _ c.requires.ready c.loop-branch.invariant.0 (omega (arith, c.loop-branch-test.false, c.len-branch-end.ensures))).ready
