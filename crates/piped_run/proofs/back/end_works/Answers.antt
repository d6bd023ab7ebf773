use Rattle.std.proofs.Common.{◌∙◌, map, length, ap, arith}
use Rattle.piped_run.proofs.Ending.{given_none, given_more, given_all}
use Rattle.piped_run.proofs.back.end_works.Goals as goal

pub stages-init : goal.stages-init
stages-init g c = given_none g.F.Function.notes c.args.fates.now (λ own. map (λ v. v.items) own.items) c.args.stages.now c.args.works.items _ c.in_ok-owned.owned.items c.in_ok-owned.ensures.items c.into_iter-rest.ensures.rest

pub stages-preserved : goal.stages-preserved
stages-preserved g c =
    given_more g.F.Function.notes c.args.fates.now (λ own. map (λ v. v.items) own.items) c.args.stages.now c.args.works.items _ _ c.stages.owned.items c.push.new.self.items c.in_ok-own.own c.stages.stage-index _ c.stage-item.result c.stages.invariant c.stages-test.true
    (ap length (c.as_slice.ensures ∙ ap (λ s. s.branches) c.stage-item.is)) c.in_ok-own.ensures.own c.in_ok-own.ensures.left c.in_ok-push.ensures.items

pub returns : goal.returns
returns g c = given_all g.F.Function.notes c.args.fates.now (λ own. map (λ v. v.items) own.items) c.args.stages.now c.args.works.items _ c.stages.owned.items c.stages.stage-index c.stages.invariant (omega arith)
