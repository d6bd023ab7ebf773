use Rattle.node_run.proofs.Shares.{fan_none, fan_more}
use Rattle.node_run.proofs.fans.fan.Goals as goal

pub loop-merger-init : goal.loop-merger-init
loop-merger-init g c = (fan_none _ _ _ c.new-outlets.ensures, fan_none _ _ _ c.new-inlets.ensures)

pub loop-merger-preserved : goal.loop-merger-preserved
loop-merger-preserved g c =
    let l = c.loop-merger in
    let o = c.in_ok-outlet in (
      fan_more c.args.mergers l.merger g.D.LinkDue.due o.outlet _ _ l.invariant.0 o.ensures.0 c.in_ok-push.ensures,
      fan_more c.args.mergers l.merger g.D.LinkDue.due o.inlet _ _ l.invariant.1 o.ensures.1 c.in_ok-push-2.ensures,
    )
