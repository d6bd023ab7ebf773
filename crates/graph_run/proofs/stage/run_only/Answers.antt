use Rattle.std.proofs.Common.{rules, ◌≡◌, ◌∙◌, List, [], ◌∷◌, length, get_or, ap, sym, subst, arith}
use Rattle.action_profile.specs.Modes.{modes_of}
use Rattle.action_profile.specs.declared.parts.Touch.{Touch}
use Rattle.graph_compile.specs.declared.graph.Branch.{Branch}
use Rattle.packet_version.specs.Splitting.{packet_parts}
use Rattle.packet_version.specs.Dealing.{based, RaisesByDue}
use Rattle.merge_ops.specs.Behind.{no_touch}
use Rattle.chain_walk.specs.Counting.{quiet}
use Rattle.graph_run.proofs.NotedInStages.{only_noted}
use Rattle.graph_run.proofs.OnlyBranch.{only_base, only_keeps, only_ran, only_ready, only_touch}
use Rattle.graph_run.proofs.Staged.{are_arrivals, stage_counted, stage_counted_up, stage_ends, stage_leaves, stage_modes}
use Rattle.graph_run.proofs.stage.run_only.Goals as goal

pub bounds-as_slice-0 : goal.bounds-as_slice-0
bounds-as_slice-0 g c =
    let same : length c.as_slice.result.now ≡ length c.args.stage.now.parts.touches = ap (λ (ts : List Touch). length ts) c.as_slice.ensures in
    let owned = (c.lawful_stage_has_owners.ensures _ _ c.args.stage.now c.requires.ready.1.lawful).touches in
    let one = c.requires.one in
    omega arith

pub deal_whole-requires : goal.deal_whole-requires
deal_whole-requires g c =
    let t : Touch = get_or c.as_slice.result.now 0 no_touch in
    let touches : c.args.stage.now.parts.touches ≡ t ∷ [] = only_touch (quiet g.F.Function.behaviour) c.args.stage.now c.args.whole c.args.functions.now no_touch c.lawful_stage_has_owners.ensures c.requires.ready c.requires.one ∙ ap (λ (ts : List Touch). get_or ts 0 no_touch ∷ []) (sym c.as_slice.ensures) in
    stage_modes _ _ c.args.stage.now c.requires.ready.1.lawful ∙ ap (λ (ts : List Touch). modes_of ts) touches

pub run_branch-requires : goal.run_branch-requires
run_branch-requires g c =
    let t : Touch = get_or c.as_slice.result.now 0 no_touch in
    let touches : c.args.stage.now.parts.touches ≡ t ∷ [] = only_touch (quiet g.F.Function.behaviour) c.args.stage.now c.args.whole c.args.functions.now no_touch c.lawful_stage_has_owners.ensures c.requires.ready c.requires.one ∙ ap (λ (ts : List Touch). get_or ts 0 no_touch ∷ []) (sym c.as_slice.ensures) in
    let at = c.as_slice-positions.ensures ∙ ap (λ (l : List Branch). (get_or l 0 c.index-as_slice-0.result).positions) c.as_slice-2.ensures in
    record { ready = only_ready (quiet g.F.Function.behaviour) c.args.stage.now c.args.whole c.args.functions.now t c.in_ok-version.version c.index-as_slice-0.result c.as_slice-positions.result.now c.lawful_stage_has_owners.ensures c.written_is_made.ensures.dealt touches c.in_ok-version.ensures.version c.requires.ready at }

pub returns-in_err-arrival-clause-refused : goal.returns-in_err-arrival-clause-refused
returns-in_err-arrival-clause-refused g c =
    let t : Touch = get_or c.as_slice.result.now 0 no_touch in
    let touches : c.args.stage.now.parts.touches ≡ t ∷ [] = only_touch (quiet g.F.Function.behaviour) c.args.stage.now c.args.whole c.args.functions.now no_touch c.lawful_stage_has_owners.ensures c.requires.ready c.requires.one ∙ ap (λ (ts : List Touch). get_or ts 0 no_touch ∷ []) (sym c.as_slice.ensures) in
    let up = stage_counted_up c.args.stage.now c.args.whole _ _ (stage_modes _ _ c.args.stage.now c.requires.ready.1.lawful) (subst (λ (ts : List Touch). RaisesByDue ts (packet_parts c.args.whole) c.args.tally.now c.deal_whole.new.tally) (sym touches) c.in_ok-version.ensures.counted) in
    search rules

pub merge_only-requires : goal.merge_only-requires
merge_only-requires g c =
    let t : Touch = get_or c.as_slice.result.now 0 no_touch in
    let touches : c.args.stage.now.parts.touches ≡ t ∷ [] = only_touch (quiet g.F.Function.behaviour) c.args.stage.now c.args.whole c.args.functions.now no_touch c.lawful_stage_has_owners.ensures c.requires.ready c.requires.one ∙ ap (λ (ts : List Touch). get_or ts 0 no_touch ∷ []) (sym c.as_slice.ensures) in
    let at = c.as_slice-positions.ensures ∙ ap (λ (l : List Branch). (get_or l 0 c.index-as_slice-0.result).positions) c.as_slice-2.ensures in
    let ran = only_ran (quiet g.F.Function.behaviour) c.args.stage.now c.args.whole c.args.functions.now c.run_branch.new.functions t c.in_ok-version.version c.in_ok-arrival.arrival c.index-as_slice-0.result c.as_slice-positions.result.now
    c.lawful_stage_has_owners.ensures c.written_is_made.ensures.dealt c.profiles_stay.ensures.branch (c.quiet_functions_keep_to_profiles.ensures.keeps _ g.met.F.Function.keeps) touches c.in_ok-version.ensures.version c.requires.ready at
    c.in_ok-arrival.ensures.functions c.in_ok-arrival.ensures.arrival c.in_ok-arrival.ensures.carried in (
      based (t ∷ []) c.args.whole,
      only_keeps c.args.whole t c.in_ok-version.version c.in_ok-arrival.arrival c.in_ok-version.ensures.version c.in_ok-arrival.ensures.kept,
      are_arrivals (quiet g.F.Function.behaviour) c.args.stage.now c.args.whole (based (t ∷ []) c.args.whole) c.args.functions.now c.run_branch.new.functions (c.in_ok-arrival.arrival ∷ []) ran (only_base c.args.stage.now c.args.whole t touches) c.in_ok-version.ensures.fits c.requires.ready,
    )

pub returns-clause-functions : goal.returns-clause-functions
returns-clause-functions g c =
    let t : Touch = get_or c.as_slice.result.now 0 no_touch in
    let touches : c.args.stage.now.parts.touches ≡ t ∷ [] = only_touch (quiet g.F.Function.behaviour) c.args.stage.now c.args.whole c.args.functions.now no_touch c.lawful_stage_has_owners.ensures c.requires.ready c.requires.one ∙ ap (λ (ts : List Touch). get_or ts 0 no_touch ∷ []) (sym c.as_slice.ensures) in
    let at = c.as_slice-positions.ensures ∙ ap (λ (l : List Branch). (get_or l 0 c.index-as_slice-0.result).positions) c.as_slice-2.ensures in
    let ran = only_ran (quiet g.F.Function.behaviour) c.args.stage.now c.args.whole c.args.functions.now c.run_branch.new.functions t c.in_ok-version.version c.in_ok-arrival.arrival c.index-as_slice-0.result c.as_slice-positions.result.now
    c.lawful_stage_has_owners.ensures c.written_is_made.ensures.dealt c.profiles_stay.ensures.branch (c.quiet_functions_keep_to_profiles.ensures.keeps _ g.met.F.Function.keeps) touches c.in_ok-version.ensures.version c.requires.ready at
    c.in_ok-arrival.ensures.functions c.in_ok-arrival.ensures.arrival c.in_ok-arrival.ensures.carried in
    ap (λ r. r.functions) ran.same

pub returns-clause-end : goal.returns-clause-end
returns-clause-end g c =
    let t : Touch = get_or c.as_slice.result.now 0 no_touch in
    let touches : c.args.stage.now.parts.touches ≡ t ∷ [] = only_touch (quiet g.F.Function.behaviour) c.args.stage.now c.args.whole c.args.functions.now no_touch c.lawful_stage_has_owners.ensures c.requires.ready c.requires.one ∙ ap (λ (ts : List Touch). get_or ts 0 no_touch ∷ []) (sym c.as_slice.ensures) in
    let at = c.as_slice-positions.ensures ∙ ap (λ (l : List Branch). (get_or l 0 c.index-as_slice-0.result).positions) c.as_slice-2.ensures in
    let ran = only_ran (quiet g.F.Function.behaviour) c.args.stage.now c.args.whole c.args.functions.now c.run_branch.new.functions t c.in_ok-version.version c.in_ok-arrival.arrival c.index-as_slice-0.result c.as_slice-positions.result.now
    c.lawful_stage_has_owners.ensures c.written_is_made.ensures.dealt c.profiles_stay.ensures.branch (c.quiet_functions_keep_to_profiles.ensures.keeps _ g.met.F.Function.keeps) touches c.in_ok-version.ensures.version c.requires.ready at
    c.in_ok-arrival.ensures.functions c.in_ok-arrival.ensures.arrival c.in_ok-arrival.ensures.carried in
    stage_ends (quiet g.F.Function.behaviour) c.args.stage.now c.args.whole (based (t ∷ []) c.args.whole) c.args.functions.now c.run_branch.new.functions (c.in_ok-arrival.arrival ∷ []) c.merge_only.result c.last_writer_is_greatest.ensures.unwritten c.merged_is_written_last.ensures.values ran
    (only_base c.args.stage.now c.args.whole t touches) c.in_ok-version.ensures.fits c.requires.ready (c.merge_only.ensures (based (t ∷ []) c.args.whole) (only_keeps c.args.whole t c.in_ok-version.version c.in_ok-arrival.arrival c.in_ok-version.ensures.version c.in_ok-arrival.ensures.kept))

pub returns-clause-leaves : goal.returns-clause-leaves
returns-clause-leaves g c =
    let t : Touch = get_or c.as_slice.result.now 0 no_touch in
    let touches : c.args.stage.now.parts.touches ≡ t ∷ [] = only_touch (quiet g.F.Function.behaviour) c.args.stage.now c.args.whole c.args.functions.now no_touch c.lawful_stage_has_owners.ensures c.requires.ready c.requires.one ∙ ap (λ (ts : List Touch). get_or ts 0 no_touch ∷ []) (sym c.as_slice.ensures) in
    let at = c.as_slice-positions.ensures ∙ ap (λ (l : List Branch). (get_or l 0 c.index-as_slice-0.result).positions) c.as_slice-2.ensures in
    let ran = only_ran (quiet g.F.Function.behaviour) c.args.stage.now c.args.whole c.args.functions.now c.run_branch.new.functions t c.in_ok-version.version c.in_ok-arrival.arrival c.index-as_slice-0.result c.as_slice-positions.result.now
    c.lawful_stage_has_owners.ensures c.written_is_made.ensures.dealt c.profiles_stay.ensures.branch (c.quiet_functions_keep_to_profiles.ensures.keeps _ g.met.F.Function.keeps) touches c.in_ok-version.ensures.version c.requires.ready at
    c.in_ok-arrival.ensures.functions c.in_ok-arrival.ensures.arrival c.in_ok-arrival.ensures.carried in
    stage_leaves (quiet g.F.Function.behaviour) c.args.stage.now c.args.whole (based (t ∷ []) c.args.whole) c.args.functions.now c.run_branch.new.functions (c.in_ok-arrival.arrival ∷ []) c.merge_only.result c.last_writer_is_greatest.ensures.unwritten c.merged_is_written_last.ensures.values ran
    (only_base c.args.stage.now c.args.whole t touches) c.in_ok-version.ensures.fits (c.merge_only.ensures (based (t ∷ []) c.args.whole) (only_keeps c.args.whole t c.in_ok-version.version c.in_ok-arrival.arrival c.in_ok-version.ensures.version c.in_ok-arrival.ensures.kept))

pub returns-clause-counted : goal.returns-clause-counted
returns-clause-counted g c =
    let t : Touch = get_or c.as_slice.result.now 0 no_touch in
    let touches : c.args.stage.now.parts.touches ≡ t ∷ [] = only_touch (quiet g.F.Function.behaviour) c.args.stage.now c.args.whole c.args.functions.now no_touch c.lawful_stage_has_owners.ensures c.requires.ready c.requires.one ∙ ap (λ (ts : List Touch). get_or ts 0 no_touch ∷ []) (sym c.as_slice.ensures) in
    stage_counted c.args.stage.now c.args.whole _ _ (stage_modes _ _ c.args.stage.now c.requires.ready.1.lawful) (subst (λ (ts : List Touch). RaisesByDue ts (packet_parts c.args.whole) c.args.tally.now c.deal_whole.new.tally) (sym touches) c.in_ok-version.ensures.counted)

pub returns-clause-noted : goal.returns-clause-noted
returns-clause-noted g c =
    let t : Touch = get_or c.as_slice.result.now 0 no_touch in
    let touches : c.args.stage.now.parts.touches ≡ t ∷ [] = only_touch (quiet g.F.Function.behaviour) c.args.stage.now c.args.whole c.args.functions.now no_touch c.lawful_stage_has_owners.ensures c.requires.ready c.requires.one ∙ ap (λ (ts : List Touch). get_or ts 0 no_touch ∷ []) (sym c.as_slice.ensures) in
    let at = c.as_slice-positions.ensures ∙ ap (λ (l : List Branch). (get_or l 0 c.index-as_slice-0.result).positions) c.as_slice-2.ensures in
    only_noted (quiet g.F.Function.behaviour) g.F.Function.notes c.args.stage.now c.args.whole c.args.functions.now t c.in_ok-version.version c.index-as_slice-0.result c.as_slice-positions.result.now _ _ c.requires.one touches c.in_ok-version.ensures.version at c.in_ok-arrival.ensures.noted
