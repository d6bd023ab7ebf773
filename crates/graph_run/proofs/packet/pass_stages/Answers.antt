use Rattle.std.proofs.Common.{rules, ◌<◌, ◌≤◌, ◌∙◌, length, refl, ap, subst, get_or, arith}
use Rattle.chain_walk.specs.Counting.{quiet}
use Rattle.graph_run.proofs.Settled.{runs_quiet}
use Rattle.graph_run.proofs.NotedInStages.{stages_unnoted, stage_noted, stage_dropped, stages_noted}
use Rattle.graph_run.proofs.WayThroughStages.{flow_begins}
use Rattle.graph_run.proofs.Onward.{is_walk, way_over, all_made}
use Rattle.graph_run.proofs.Passing.{next_ready, passed, dropped, never_short, failed}
use Rattle.graph_run.proofs.packet.pass_stages.Goals as goal

pub loop-stage-init : goal.loop-stage-init
loop-stage-init g c = record {
  way = flow_begins (quiet g.F.Function.behaviour) c.args.graph.now c.args.time c.args.frame.now c.args.functions.now c.args.taggers c.in_ok-whole.whole c.args.tally.now c.lawful_graph_is_staged.ensures.staged c.values_stay_well_formed.ensures.frame (runs_quiet _ _ _ c.requires.running) c.requires.taggers
      c.in_ok-whole.ensures.parts c.in_ok-whole.ensures.rest c.in_ok-whole.ensures.fixed;
  noted = stages_unnoted (quiet g.F.Function.behaviour) g.F.Function.notes c.args.graph.now c.args.time c.args.frame.now c.args.functions.now c.args.taggers c.in_ok-whole.whole c.args.notes.now.items c.in_ok-whole.ensures.parts;
}

pub run_stage-requires : goal.run_stage-requires
run_stage-requires g c = record { ready = (next_ready (quiet g.F.Function.behaviour) c.args.graph.now c.args.time c.args.frame.now c.args.functions.now c.loop-stage.functions _ c.loop-stage.whole _ _ c.stage-item.result c.stages_rise.ensures (runs_quiet _ _ _ c.requires.running) c.loop-stage.invariant.way (subst (λ l. c.loop-stage.stage-index < length l) c.as_slice-stage-items.ensures c.loop-stage-test.true) (c.stage-item.is ∙ ap (λ l. get_or l c.loop-stage.stage-index c.stage-item.result) c.as_slice-stage-items.ensures)) }

pub returns-in_err-next-clause-refused : goal.returns-in_err-next-clause-refused
returns-in_err-next-clause-refused g c = let within = failed (quiet g.F.Function.behaviour) c.args.graph.now c.args.time c.args.frame.now c.args.functions.now c.loop-stage.functions _ c.loop-stage.whole _ _ _ c.stage-item.result c.stage_reached.ensures.graph (runs_quiet _ _ _ c.requires.running) c.loop-stage.invariant.way (is_walk (quiet g.F.Function.behaviour) c.args.graph.now c.args.time c.args.frame.now c.args.functions.now (c.graph_is_chain.ensures (quiet g.F.Function.behaviour) _ c.args.graph.now c.args.functions.now _ (c.quiet_functions_keep_to_profiles.ensures.keeps _ g.met.F.Function.keeps) (c.quiet_functions_keep_to_profiles.ensures.still _) c.requires.running.lawful c.requires.running.full) (c.frames_walk_as_fields.ensures (quiet g.F.Function.behaviour) c.args.time 1 c.args.functions.now c.args.frame.now (c.quiet_functions_keep_to_profiles.ensures.keeps _ g.met.F.Function.keeps))) (subst (λ l. c.loop-stage.stage-index < length l) c.as_slice-stage-items.ensures c.loop-stage-test.true) (c.stage-item.is ∙ ap (λ l. get_or l c.loop-stage.stage-index c.stage-item.result) c.as_slice-stage-items.ensures) c.in_err-next.ensures.refused in search rules

pub returns-in-Gone-clause-functions : goal.returns-in-Gone-clause-functions
returns-in-Gone-clause-functions g c = (dropped (quiet g.F.Function.behaviour) c.args.graph.now c.args.time c.args.frame.now c.args.functions.now c.loop-stage.functions _ _ c.in-Gone.position c.loop-stage.whole _ _ _ c.stage-item.result c.in_ok-next.field-0 c.stage_reached.ensures.graph c.stage_reached.ensures.stage (runs_quiet _ _ _ c.requires.running) c.loop-stage.invariant.way (is_walk (quiet g.F.Function.behaviour) c.args.graph.now c.args.time c.args.frame.now c.args.functions.now (c.graph_is_chain.ensures (quiet g.F.Function.behaviour) _ c.args.graph.now c.args.functions.now _ (c.quiet_functions_keep_to_profiles.ensures.keeps _ g.met.F.Function.keeps) (c.quiet_functions_keep_to_profiles.ensures.still _) c.requires.running.lawful c.requires.running.full) (c.frames_walk_as_fields.ensures (quiet g.F.Function.behaviour) c.args.time 1 c.args.functions.now c.args.frame.now (c.quiet_functions_keep_to_profiles.ensures.keeps _ g.met.F.Function.keeps))) (subst (λ l. c.loop-stage.stage-index < length l) c.as_slice-stage-items.ensures c.loop-stage-test.true) (c.stage-item.is ∙ ap (λ l. get_or l c.loop-stage.stage-index c.stage-item.result) c.as_slice-stage-items.ensures) (record { functions = c.in_ok-next.ensures.functions; end = c.in_ok-next.ensures.end; leaves = c.in_ok-next.ensures.leaves; counted = c.in_ok-next.ensures.counted }) c.in-Gone.is).functions

pub returns-in-Gone-clause-fate : goal.returns-in-Gone-clause-fate
returns-in-Gone-clause-fate g c = (dropped (quiet g.F.Function.behaviour) c.args.graph.now c.args.time c.args.frame.now c.args.functions.now c.loop-stage.functions _ _ c.in-Gone.position c.loop-stage.whole _ _ _ c.stage-item.result c.in_ok-next.field-0 c.stage_reached.ensures.graph c.stage_reached.ensures.stage (runs_quiet _ _ _ c.requires.running) c.loop-stage.invariant.way (is_walk (quiet g.F.Function.behaviour) c.args.graph.now c.args.time c.args.frame.now c.args.functions.now (c.graph_is_chain.ensures (quiet g.F.Function.behaviour) _ c.args.graph.now c.args.functions.now _ (c.quiet_functions_keep_to_profiles.ensures.keeps _ g.met.F.Function.keeps) (c.quiet_functions_keep_to_profiles.ensures.still _) c.requires.running.lawful c.requires.running.full) (c.frames_walk_as_fields.ensures (quiet g.F.Function.behaviour) c.args.time 1 c.args.functions.now c.args.frame.now (c.quiet_functions_keep_to_profiles.ensures.keeps _ g.met.F.Function.keeps))) (subst (λ l. c.loop-stage.stage-index < length l) c.as_slice-stage-items.ensures c.loop-stage-test.true) (c.stage-item.is ∙ ap (λ l. get_or l c.loop-stage.stage-index c.stage-item.result) c.as_slice-stage-items.ensures) (record { functions = c.in_ok-next.ensures.functions; end = c.in_ok-next.ensures.end; leaves = c.in_ok-next.ensures.leaves; counted = c.in_ok-next.ensures.counted }) c.in-Gone.is).fate

pub returns-in-Gone-clause-counted : goal.returns-in-Gone-clause-counted
returns-in-Gone-clause-counted g c = (dropped (quiet g.F.Function.behaviour) c.args.graph.now c.args.time c.args.frame.now c.args.functions.now c.loop-stage.functions _ _ c.in-Gone.position c.loop-stage.whole _ _ _ c.stage-item.result c.in_ok-next.field-0 c.stage_reached.ensures.graph c.stage_reached.ensures.stage (runs_quiet _ _ _ c.requires.running) c.loop-stage.invariant.way (is_walk (quiet g.F.Function.behaviour) c.args.graph.now c.args.time c.args.frame.now c.args.functions.now (c.graph_is_chain.ensures (quiet g.F.Function.behaviour) _ c.args.graph.now c.args.functions.now _ (c.quiet_functions_keep_to_profiles.ensures.keeps _ g.met.F.Function.keeps) (c.quiet_functions_keep_to_profiles.ensures.still _) c.requires.running.lawful c.requires.running.full) (c.frames_walk_as_fields.ensures (quiet g.F.Function.behaviour) c.args.time 1 c.args.functions.now c.args.frame.now (c.quiet_functions_keep_to_profiles.ensures.keeps _ g.met.F.Function.keeps))) (subst (λ l. c.loop-stage.stage-index < length l) c.as_slice-stage-items.ensures c.loop-stage-test.true) (c.stage-item.is ∙ ap (λ l. get_or l c.loop-stage.stage-index c.stage-item.result) c.as_slice-stage-items.ensures) (record { functions = c.in_ok-next.ensures.functions; end = c.in_ok-next.ensures.end; leaves = c.in_ok-next.ensures.leaves; counted = c.in_ok-next.ensures.counted }) c.in-Gone.is).counted

pub returns-in-Short-clause-refused : goal.returns-in-Short-clause-refused
returns-in-Short-clause-refused g c = absurd (never_short (quiet g.F.Function.behaviour) c.stage-item.result c.loop-stage.whole c.loop-stage.functions c.run_stage.new.functions c.in_ok-next.field-0 c.loop-stage.tally c.run_stage.new.tally (record { functions = c.in_ok-next.ensures.functions; end = c.in_ok-next.ensures.end; leaves = c.in_ok-next.ensures.leaves; counted = c.in_ok-next.ensures.counted }) (next_ready (quiet g.F.Function.behaviour) c.args.graph.now c.args.time c.args.frame.now c.args.functions.now c.loop-stage.functions _ c.loop-stage.whole _ _ c.stage-item.result c.stages_rise.ensures (runs_quiet _ _ _ c.requires.running) c.loop-stage.invariant.way (subst (λ l. c.loop-stage.stage-index < length l) c.as_slice-stage-items.ensures c.loop-stage-test.true) (c.stage-item.is ∙ ap (λ l. get_or l c.loop-stage.stage-index c.stage-item.result) c.as_slice-stage-items.ensures)) c.in-Short.is)

pub loop-stage-preserved : goal.loop-stage-preserved
loop-stage-preserved g c = record {
  way = passed (quiet g.F.Function.behaviour) c.args.graph.now c.args.time c.args.frame.now c.args.functions.now c.loop-stage.functions _ _ c.loop-stage.whole c.in-Whole.next _ _ _ c.stage-item.result c.in_ok-next.field-0 c.stages_rise.ensures c.fields_stay.ensures.stage c.profiles_stay.ensures.stage (c.quiet_functions_keep_to_profiles.ensures.keeps _ g.met.F.Function.keeps)
      (runs_quiet _ _ _ c.requires.running) c.loop-stage.invariant.way (subst (λ l. c.loop-stage.stage-index < length l) c.as_slice-stage-items.ensures c.loop-stage-test.true) (c.stage-item.is ∙ ap (λ l. get_or l c.loop-stage.stage-index c.stage-item.result) c.as_slice-stage-items.ensures) (record { functions = c.in_ok-next.ensures.functions; end = c.in_ok-next.ensures.end; leaves = c.in_ok-next.ensures.leaves; counted = c.in_ok-next.ensures.counted }) c.in-Whole.is;
  noted = stage_noted (quiet g.F.Function.behaviour) g.F.Function.notes c.args.graph.now c.args.time c.args.frame.now c.args.functions.now c.loop-stage.functions _ _ c.loop-stage.whole c.in-Whole.next _ _ c.stage-item.result c.in_ok-next.field-0 _ _ _
      c.loop-stage.invariant.way (subst (λ l. c.loop-stage.stage-index < length l) c.as_slice-stage-items.ensures c.loop-stage-test.true) (c.stage-item.is ∙ ap (λ l. get_or l c.loop-stage.stage-index c.stage-item.result) c.as_slice-stage-items.ensures) c.in_ok-next.ensures.functions c.in_ok-next.ensures.end c.in-Whole.is c.loop-stage.invariant.noted c.in_ok-next.ensures.noted;
}

pub returns-in_err-join-clause-refused : goal.returns-in_err-join-clause-refused
returns-in_err-join-clause-refused g c = let within = all_made _ _ _ (way_over (quiet g.F.Function.behaviour) c.args.graph.now c.args.time c.args.frame.now c.args.functions.now c.loop-stage.functions _ c.loop-stage.whole _ _ _ c.stage_reached.ensures.graph (λ after is. c.frames_are_built_again.ensures (quiet g.F.Function.behaviour) c.args.time 1 c.args.functions.now c.args.frame.now after (c.quiet_functions_keep_to_profiles.ensures.keeps _ g.met.F.Function.keeps) is) (c.graph_is_chain.ensures (quiet g.F.Function.behaviour) _ c.args.graph.now c.args.functions.now _ (c.quiet_functions_keep_to_profiles.ensures.keeps _ g.met.F.Function.keeps) (c.quiet_functions_keep_to_profiles.ensures.still _) c.requires.running.lawful c.requires.running.full) (runs_quiet _ _ _ c.requires.running) c.loop-stage.invariant.way (is_walk (quiet g.F.Function.behaviour) c.args.graph.now c.args.time c.args.frame.now c.args.functions.now (c.graph_is_chain.ensures (quiet g.F.Function.behaviour) _ c.args.graph.now c.args.functions.now _ (c.quiet_functions_keep_to_profiles.ensures.keeps _ g.met.F.Function.keeps) (c.quiet_functions_keep_to_profiles.ensures.still _) c.requires.running.lawful c.requires.running.full) (c.frames_walk_as_fields.ensures (quiet g.F.Function.behaviour) c.args.time 1 c.args.functions.now c.args.frame.now (c.quiet_functions_keep_to_profiles.ensures.keeps _ g.met.F.Function.keeps))) (subst (λ l. length l ≤ c.loop-stage.stage-index) c.as_slice-stage-items.ensures (omega arith)) refl).counted in search rules

pub returns-clause-functions : goal.returns-clause-functions
returns-clause-functions g c = (way_over (quiet g.F.Function.behaviour) c.args.graph.now c.args.time c.args.frame.now c.args.functions.now c.loop-stage.functions _ c.loop-stage.whole _ _ _ c.stage_reached.ensures.graph (λ after is. c.frames_are_built_again.ensures (quiet g.F.Function.behaviour) c.args.time 1 c.args.functions.now c.args.frame.now after (c.quiet_functions_keep_to_profiles.ensures.keeps _ g.met.F.Function.keeps) is) (c.graph_is_chain.ensures (quiet g.F.Function.behaviour) _ c.args.graph.now c.args.functions.now _ (c.quiet_functions_keep_to_profiles.ensures.keeps _ g.met.F.Function.keeps) (c.quiet_functions_keep_to_profiles.ensures.still _) c.requires.running.lawful c.requires.running.full) (runs_quiet _ _ _ c.requires.running) c.loop-stage.invariant.way (is_walk (quiet g.F.Function.behaviour) c.args.graph.now c.args.time c.args.frame.now c.args.functions.now (c.graph_is_chain.ensures (quiet g.F.Function.behaviour) _ c.args.graph.now c.args.functions.now _ (c.quiet_functions_keep_to_profiles.ensures.keeps _ g.met.F.Function.keeps) (c.quiet_functions_keep_to_profiles.ensures.still _) c.requires.running.lawful c.requires.running.full) (c.frames_walk_as_fields.ensures (quiet g.F.Function.behaviour) c.args.time 1 c.args.functions.now c.args.frame.now (c.quiet_functions_keep_to_profiles.ensures.keeps _ g.met.F.Function.keeps))) (subst (λ l. length l ≤ c.loop-stage.stage-index) c.as_slice-stage-items.ensures (omega arith)) c.in_ok-join.ensures).functions

pub returns-clause-fate : goal.returns-clause-fate
returns-clause-fate g c = (way_over (quiet g.F.Function.behaviour) c.args.graph.now c.args.time c.args.frame.now c.args.functions.now c.loop-stage.functions _ c.loop-stage.whole _ _ _ c.stage_reached.ensures.graph (λ after is. c.frames_are_built_again.ensures (quiet g.F.Function.behaviour) c.args.time 1 c.args.functions.now c.args.frame.now after (c.quiet_functions_keep_to_profiles.ensures.keeps _ g.met.F.Function.keeps) is) (c.graph_is_chain.ensures (quiet g.F.Function.behaviour) _ c.args.graph.now c.args.functions.now _ (c.quiet_functions_keep_to_profiles.ensures.keeps _ g.met.F.Function.keeps) (c.quiet_functions_keep_to_profiles.ensures.still _) c.requires.running.lawful c.requires.running.full) (runs_quiet _ _ _ c.requires.running) c.loop-stage.invariant.way (is_walk (quiet g.F.Function.behaviour) c.args.graph.now c.args.time c.args.frame.now c.args.functions.now (c.graph_is_chain.ensures (quiet g.F.Function.behaviour) _ c.args.graph.now c.args.functions.now _ (c.quiet_functions_keep_to_profiles.ensures.keeps _ g.met.F.Function.keeps) (c.quiet_functions_keep_to_profiles.ensures.still _) c.requires.running.lawful c.requires.running.full) (c.frames_walk_as_fields.ensures (quiet g.F.Function.behaviour) c.args.time 1 c.args.functions.now c.args.frame.now (c.quiet_functions_keep_to_profiles.ensures.keeps _ g.met.F.Function.keeps))) (subst (λ l. length l ≤ c.loop-stage.stage-index) c.as_slice-stage-items.ensures (omega arith)) c.in_ok-join.ensures).fate

pub returns-clause-counted : goal.returns-clause-counted
returns-clause-counted g c = (way_over (quiet g.F.Function.behaviour) c.args.graph.now c.args.time c.args.frame.now c.args.functions.now c.loop-stage.functions _ c.loop-stage.whole _ _ _ c.stage_reached.ensures.graph (λ after is. c.frames_are_built_again.ensures (quiet g.F.Function.behaviour) c.args.time 1 c.args.functions.now c.args.frame.now after (c.quiet_functions_keep_to_profiles.ensures.keeps _ g.met.F.Function.keeps) is) (c.graph_is_chain.ensures (quiet g.F.Function.behaviour) _ c.args.graph.now c.args.functions.now _ (c.quiet_functions_keep_to_profiles.ensures.keeps _ g.met.F.Function.keeps) (c.quiet_functions_keep_to_profiles.ensures.still _) c.requires.running.lawful c.requires.running.full) (runs_quiet _ _ _ c.requires.running) c.loop-stage.invariant.way (is_walk (quiet g.F.Function.behaviour) c.args.graph.now c.args.time c.args.frame.now c.args.functions.now (c.graph_is_chain.ensures (quiet g.F.Function.behaviour) _ c.args.graph.now c.args.functions.now _ (c.quiet_functions_keep_to_profiles.ensures.keeps _ g.met.F.Function.keeps) (c.quiet_functions_keep_to_profiles.ensures.still _) c.requires.running.lawful c.requires.running.full) (c.frames_walk_as_fields.ensures (quiet g.F.Function.behaviour) c.args.time 1 c.args.functions.now c.args.frame.now (c.quiet_functions_keep_to_profiles.ensures.keeps _ g.met.F.Function.keeps))) (subst (λ l. length l ≤ c.loop-stage.stage-index) c.as_slice-stage-items.ensures (omega arith)) c.in_ok-join.ensures).counted

pub returns-in-Gone-clause-noted : goal.returns-in-Gone-clause-noted
returns-in-Gone-clause-noted g c = stage_dropped (quiet g.F.Function.behaviour) g.F.Function.notes c.args.graph.now c.args.time c.args.frame.now c.args.functions.now c.loop-stage.functions _ _ c.in-Gone.position c.loop-stage.whole _ _ c.stage-item.result c.in_ok-next.field-0 _ _ _
    c.loop-stage.invariant.way (subst (λ l. c.loop-stage.stage-index < length l) c.as_slice-stage-items.ensures c.loop-stage-test.true) (c.stage-item.is ∙ ap (λ l. get_or l c.loop-stage.stage-index c.stage-item.result) c.as_slice-stage-items.ensures) c.in_ok-next.ensures.functions c.in_ok-next.ensures.end c.in-Gone.is c.loop-stage.invariant.noted c.in_ok-next.ensures.noted

pub returns-clause-noted : goal.returns-clause-noted
returns-clause-noted g c = stages_noted (quiet g.F.Function.behaviour) g.F.Function.notes c.args.graph.now c.args.time c.args.frame.now c.args.functions.now c.loop-stage.functions _ c.loop-stage.whole _ _ (subst (λ l. length l ≤ c.loop-stage.stage-index) c.as_slice-stage-items.ensures (omega arith)) c.loop-stage.invariant.noted
