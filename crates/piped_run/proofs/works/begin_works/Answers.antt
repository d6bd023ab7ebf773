use Rattle.std.proofs.Common.{◌≡◌, ◌∙◌, ◌+◌, ℕ, List, drop, get_or, length, ap, sym, subst, arith}
use Rattle.std.specs.Prelude.{Option}
use Rattle.chain_walk.specs.Counting.{quiet}
use Rattle.graph_compile.specs.Facts.{all_positions}
use Rattle.graph_compile.specs.declared.graph.Branch.{Branch}
use Rattle.graph_compile.specs.declared.graph.Stage.{Stage}
use Rattle.burst_law.specs.Owned.{owned_in}
use Rattle.node_run.specs.Stages.{plain_stage}
use Rattle.stream_law.specs.Works.{works_in}
use Rattle.piped_run.specs.Places.{AreThere}
use Rattle.piped_run.proofs.Taking.{all_none, stage_there, all_more, all_taken, there_in, wrote_back}
use Rattle.piped_run.proofs.works.begin_works.Goals as goal

pub loop-stage-init : goal.loop-stage-init
loop-stage-init g c = all_none (quiet g.F.Function.behaviour) plain_stage (length c.args.numbers.now) c.args.functions.items c.in_ok-places.places.items c.args.stages.now c.in_ok-works.works.items c.in_ok-works.ensures.items c.in_ok-places.ensures c.requires

pub begin_branches-requires : goal.begin_branches-requires
begin_branches-requires g c =
    let at : c.as_slice.result.now ≡ (get_or c.args.stages.now c.loop-stage.stage-index c.stage-item.result).branches = c.as_slice.ensures ∙ ap (λ (s : Stage). s.branches) c.stage-item.is in
    record {
      there = (
        c.args.functions.items,
        all_positions (drop (c.loop-stage.stage-index + 1) c.args.stages.now),
        there_in c.args.functions.items c.loop-stage.places.items c.deref_mut.result.now c.as_slice.result.now (get_or c.args.stages.now c.loop-stage.stage-index c.stage-item.result).branches (all_positions (drop (c.loop-stage.stage-index + 1) c.args.stages.now)) c.deref_mut.ensures.value at
            (stage_there (quiet g.F.Function.behaviour) plain_stage (length c.args.numbers.now) c.args.functions.items c.loop-stage.places.items c.args.stages.now c.loop-stage.works.items c.loop-stage.stage-index c.stage-item.result c.loop-stage.invariant c.loop-stage-test.true),
      );
    }

pub loop-stage-preserved : goal.loop-stage-preserved
loop-stage-preserved g c =
    let at : c.as_slice.result.now ≡ (get_or c.args.stages.now c.loop-stage.stage-index c.stage-item.result).branches = c.as_slice.ensures ∙ ap (λ (s : Stage). s.branches) c.stage-item.is in
    let later : List ℕ = all_positions (drop (c.loop-stage.stage-index + 1) c.args.stages.now) in
    let here = there_in c.args.functions.items c.loop-stage.places.items c.deref_mut.result.now c.as_slice.result.now (get_or c.args.stages.now c.loop-stage.stage-index c.stage-item.result).branches later c.deref_mut.ensures.value at
    (stage_there (quiet g.F.Function.behaviour) plain_stage (length c.args.numbers.now) c.args.functions.items c.loop-stage.places.items c.args.stages.now c.loop-stage.works.items c.loop-stage.stage-index c.stage-item.result c.loop-stage.invariant c.loop-stage-test.true) in
    all_more (quiet g.F.Function.behaviour) plain_stage (length c.args.numbers.now) c.args.functions.items c.loop-stage.places.items _ c.args.stages.now c.loop-stage.works.items c.push.new.self.items (record { parts = c.in_ok-parts.parts; branches = c.in_ok-branches.branches }) c.loop-stage.stage-index c.stage-item.result c.loop-stage.invariant c.loop-stage-test.true
    (λ k. record {
      parts = (c.in_ok-parts.ensures ∙ ap (λ (s : Stage). s.parts) c.stage-item.is) k;
      branches = (c.in_ok-branches.ensures.own c.args.functions.items later here ∙ ap (λ (l : List Branch). works_in (quiet g.F.Function.behaviour) l (owned_in l c.args.functions.items) (length c.args.numbers.now)) at) k;
    })
    (subst (λ (p : List (Option g.row.F.Denot)). AreThere c.args.functions.items p later) (sym (wrote_back _ c.begin_branches.new.places c.loop-stage.places.items (c.begin_branches.auto.places ∙ c.deref_mut.ensures.len))) (c.in_ok-branches.ensures.left c.args.functions.items later here))
    c.in_ok-push.ensures.items

pub returns : goal.returns
returns g c = all_taken (quiet g.F.Function.behaviour) plain_stage (length c.args.numbers.now) c.args.functions.items c.loop-stage.places.items c.args.stages.now c.loop-stage.works.items c.loop-stage.stage-index c.loop-stage.invariant (omega arith)
