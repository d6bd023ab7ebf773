use Rattle.std.proofs.Common.{◌≡◌, ◌∙◌, arith, ap, sym}
use Rattle.packet_messages.specs.Turns.{columns_from}
use Rattle.stage_nodes.specs.Streams.{came_from}
use Rattle.node_run.proofs.Shares.{no_columns, columns_more}
use Rattle.node_run.proofs.meeting.meet.Goals as goal

pub loop-merger-init : goal.loop-merger-init
loop-merger-init g c = (c.new-ends.ensures.items ∙ sym (no_columns _ _), c.new-inlets.ensures.items ∙ sym (no_columns _ _), omega arith)

pub meet_merger-requires : goal.meet_merger-requires
meet_merger-requires g c = c.requires

pub loop-merger-preserved : goal.loop-merger-preserved
loop-merger-preserved g c =
    let i = c.loop-merger.invariant in
    let e = c.in_ok-own.ensures in (
      columns_more c.args.mergers c.loop-merger.merger _ c.in_ok-own.own _ _ i.0 e.ends c.in_ok-push.ensures.items,
      columns_more c.args.mergers c.loop-merger.merger _ c.in_ok-own.from_branches _ _ i.1 e.inlets c.in_ok-push-2.ensures.items,
      omega (arith, c.loop-merger-test.true),
    )

pub returns : goal.returns
returns g c =
    let i = c.loop-merger.invariant in
    let rows = came_from g.F.BranchWork.kit c.args.touches.now c.args.functions.now g.D.LinkDue.due in
    let all : c.loop-merger.merger ≡ c.args.mergers = omega (arith, c.loop-merger-test.false, i.2) in record {
      ends = i.0 ∙ ap (λ n. columns_from c.args.mergers 0 n rows) all;
      inlets = i.1 ∙ ap (λ n. columns_from c.args.mergers 0 n rows) all;
    }
