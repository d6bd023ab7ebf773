use Rattle.std.proofs.Common.{◌∙◌, List, length, map, sym, ap, refl, subst, eqb-true}
use Rattle.chain_walk.specs.Counting.{quiet}
use Rattle.burst_law.specs.Copies.{chain_copies}
use Rattle.graph_run.specs.Running.{IsRunning}
use Rattle.packet_function.specs.declared.note.FlowNote.{FlowNote}
use Rattle.stream_law.specs.Messages.{as_message}
use Rattle.stage_nodes.specs.Flows.{MayPassAll}
use Rattle.stage_nodes.specs.Streams.{PlainStage, of_merged, copies_along}
use Rattle.node_run.specs.Stages.{plain_stage}
use Rattle.stream_law.specs.Owned.{PlainOwned, owned_kit, owned_may}
use Rattle.piped_run.specs.Frames.{apart_from}
use Rattle.piped_run.proofs.Passing.{works_for, left_by, same_length, each_stands, runs_on, begun_works, burst_keeps, gone_back, copies_alike, counts_rise, none_passed, none_ends, ended_as}
use Rattle.piped_run.proofs.pipe.pipe_frames.Goals as goal

pub returns-then-is_empty-clause-functions : goal.returns-then-is_empty-clause-functions
returns-then-is_empty-clause-functions g c = (none_passed g.F.Function.behaviour c.args.graph.now c.args.functions.items (apart_from c.args.frames) c.args.tally.now (sym c.requires.numbers ∙ eqb-true _ _ (sym c.is_empty.ensures ∙ c.if-is_empty.true))).functions_are

pub returns-then-is_empty-clause-fates : goal.returns-then-is_empty-clause-fates
returns-then-is_empty-clause-fates g c = none_ends g.F.Function.behaviour c.args.graph.now c.args.functions.items (apart_from c.args.frames) c.args.tally.now _ (sym c.requires.numbers ∙ eqb-true _ _ (sym c.is_empty.ensures ∙ c.if-is_empty.true)) c.new.ensures.items

pub returns-then-is_empty-clause-counted : goal.returns-then-is_empty-clause-counted
returns-then-is_empty-clause-counted g c = (none_passed g.F.Function.behaviour c.args.graph.now c.args.functions.items (apart_from c.args.frames) c.args.tally.now (sym c.requires.numbers ∙ eqb-true _ _ (sym c.is_empty.ensures ∙ c.if-is_empty.true))).counted

pub begin_works-requires : goal.begin_works-requires
begin_works-requires g c = each_stands g.F.Function.behaviour c.args.graph.now c.args.functions.items c.as_slice-stages.result.now (length c.args.functions.items) c.requires.running c.as_slice-stages.ensures refl

pub run_nodes-requires-clause-pass : goal.run_nodes-requires-clause-pass
run_nodes-requires-clause-pass g c κs within = subst (λ (l : List (PlainStage (PlainOwned g.row.F.Denot FlowNote))). MayPassAll (owned_kit (quiet g.F.Function.behaviour) g.F.Function.notes) (owned_may (quiet g.F.Function.behaviour)) l (map of_merged (apart_from c.args.frames))) (sym (begun_works (quiet g.F.Function.behaviour) c.args.graph.now c.as_slice-stages.result.now c.args.functions.items (map plain_stage c.in_ok-works.works.items) (length c.args.numbers.now) (length (apart_from c.args.frames)) c.as_slice-stages.ensures c.requires.numbers c.in_ok-works.ensures)) (c.nodes_walk_the_chain.ensures.pass c.args.graph.now c.args.functions.items (apart_from c.args.frames) (record { running = record { few = c.requires.running.few; lawful = c.requires.running.lawful; full = c.requires.running.full }; enter = c.requires.enter; fits = c.requires.fits; few = c.requires.few }))

pub put_together-requires-clause-stands : goal.put_together-requires-clause-stands
put_together-requires-clause-stands g c = each_stands g.F.Function.behaviour c.args.graph.now c.args.functions.items c.as_slice-stages.result.now c.len-owners.result c.requires.running c.as_slice-stages.ensures (c.len-owners.ensures ∙ c.args.functions.ok.0)

pub put_together-requires-clause-owned : goal.put_together-requires-clause-owned
put_together-requires-clause-owned g c = (
  (left_by g.F.Function.behaviour c.args.functions.items (apart_from c.args.frames)),
  (same_length g.F.Function.behaviour (left_by g.F.Function.behaviour c.args.functions.items (apart_from c.args.frames)) c.args.functions.items (burst_keeps g.F.Function.behaviour c.args.functions.items (map as_message (apart_from c.args.frames)) c.functions_keep_to_profiles.ensures) ∙ (sym c.args.functions.ok.0 ∙ sym c.len-owners.ensures)),
  (gone_back (λ own. map (λ v. v.items) own.items) g.F.Function.behaviour g.F.Function.notes c.args.graph.now c.as_slice-stages.result.now c.args.functions.items (apart_from c.args.frames) (map plain_stage c.in_ok-works.works.items) (works_for (quiet g.F.Function.behaviour) c.args.graph.now c.args.functions.items (length (apart_from c.args.frames))) c.in_ok-works-2.works.items c.in_ok-works-2.fates.items c.deref.result.now c.in_ok-owned.owned.items (record { listed = c.notes_are_settled_as_listed.ensures; count = c.packets_merge_apart.ensures.count; chain = c.burst_is_chain.ensures.chain; behind = c.notes_are_settled_behind_bursts.ensures.functions; ends = c.notes_are_settled_behind_bursts.ensures.ends; owns = c.owned_is_whole.ensures.count }) c.functions_keep_to_profiles.ensures (c.quiet_functions_keep_to_profiles.ensures.keeps g.F.Function.behaviour c.functions_keep_to_profiles.ensures) (c.quiet_functions_keep_to_profiles.ensures.still g.F.Function.behaviour) c.functions_count_by_notes.ensures c.requires.running c.as_slice-stages.ensures (begun_works (quiet g.F.Function.behaviour) c.args.graph.now c.as_slice-stages.result.now c.args.functions.items (map plain_stage c.in_ok-works.works.items) (length c.args.numbers.now) (length (apart_from c.args.frames)) c.as_slice-stages.ensures c.requires.numbers c.in_ok-works.ensures)
      (ended_as g.F.Function.behaviour g.F.Function.notes (map plain_stage c.in_ok-works.works.items) (works_for (quiet g.F.Function.behaviour) c.args.graph.now c.args.functions.items (length (apart_from c.args.frames))) c.args.functions.items (apart_from c.args.frames) c.in_ok-works-2.fates.items c.notes_are_settled_behind_bursts.ensures.ends c.functions_keep_to_profiles.ensures c.functions_count_by_notes.ensures (begun_works (quiet g.F.Function.behaviour) c.args.graph.now c.as_slice-stages.result.now c.args.functions.items (map plain_stage c.in_ok-works.works.items) (length c.args.numbers.now) (length (apart_from c.args.frames)) c.as_slice-stages.ensures c.requires.numbers c.in_ok-works.ensures) c.in_ok-works-2.ensures.fates
      (c.nodes_walk_the_chain.ensures.packets c.args.graph.now c.args.functions.items (apart_from c.args.frames) (record { running = record { few = c.requires.running.few; lawful = c.requires.running.lawful; full = c.requires.running.full }; enter = c.requires.enter; fits = c.requires.fits; few = c.requires.few }))
      (c.nodes_walk_the_chain.ensures.rests c.args.graph.now c.args.functions.items (apart_from c.args.frames) (record { running = record { few = c.requires.running.few; lawful = c.requires.running.lawful; full = c.requires.running.full }; enter = c.requires.enter; fits = c.requires.fits; few = c.requires.few }))) (record { functions_are = (c.nodes_walk_the_chain.ensures.functions c.args.graph.now c.args.functions.items (apart_from c.args.frames) (record { running = record { few = c.requires.running.few; lawful = c.requires.running.lawful; full = c.requires.running.full }; enter = c.requires.enter; fits = c.requires.fits; few = c.requires.few })); listed = (c.nodes_walk_the_chain.ensures.listed c.args.graph.now c.args.functions.items (apart_from c.args.frames) (record { running = record { few = c.requires.running.few; lawful = c.requires.running.lawful; full = c.requires.running.full }; enter = c.requires.enter; fits = c.requires.fits; few = c.requires.few })); positions = (c.nodes_walk_the_chain.ensures.positions c.args.graph.now c.args.functions.items (apart_from c.args.frames) (record { running = record { few = c.requires.running.few; lawful = c.requires.running.lawful; full = c.requires.running.full }; enter = c.requires.enter; fits = c.requires.fits; few = c.requires.few })) }) c.in_ok-works-2.ensures.functions c.deref.ensures.value c.in_ok-owned.ensures),
)

pub returns-clause-functions : goal.returns-clause-functions
returns-clause-functions g c = c.in_ok-functions.ensures (left_by g.F.Function.behaviour c.args.functions.items (apart_from c.args.frames)) (same_length g.F.Function.behaviour (left_by g.F.Function.behaviour c.args.functions.items (apart_from c.args.frames)) c.args.functions.items (burst_keeps g.F.Function.behaviour c.args.functions.items (map as_message (apart_from c.args.frames)) c.functions_keep_to_profiles.ensures) ∙ (sym c.args.functions.ok.0 ∙ sym c.len-owners.ensures)) (gone_back (λ own. map (λ v. v.items) own.items) g.F.Function.behaviour g.F.Function.notes c.args.graph.now c.as_slice-stages.result.now c.args.functions.items (apart_from c.args.frames) (map plain_stage c.in_ok-works.works.items) (works_for (quiet g.F.Function.behaviour) c.args.graph.now c.args.functions.items (length (apart_from c.args.frames))) c.in_ok-works-2.works.items c.in_ok-works-2.fates.items c.deref.result.now c.in_ok-owned.owned.items (record { listed = c.notes_are_settled_as_listed.ensures; count = c.packets_merge_apart.ensures.count; chain = c.burst_is_chain.ensures.chain; behind = c.notes_are_settled_behind_bursts.ensures.functions; ends = c.notes_are_settled_behind_bursts.ensures.ends; owns = c.owned_is_whole.ensures.count }) c.functions_keep_to_profiles.ensures (c.quiet_functions_keep_to_profiles.ensures.keeps g.F.Function.behaviour c.functions_keep_to_profiles.ensures) (c.quiet_functions_keep_to_profiles.ensures.still g.F.Function.behaviour) c.functions_count_by_notes.ensures c.requires.running c.as_slice-stages.ensures (begun_works (quiet g.F.Function.behaviour) c.args.graph.now c.as_slice-stages.result.now c.args.functions.items (map plain_stage c.in_ok-works.works.items) (length c.args.numbers.now) (length (apart_from c.args.frames)) c.as_slice-stages.ensures c.requires.numbers c.in_ok-works.ensures)
    (ended_as g.F.Function.behaviour g.F.Function.notes (map plain_stage c.in_ok-works.works.items) (works_for (quiet g.F.Function.behaviour) c.args.graph.now c.args.functions.items (length (apart_from c.args.frames))) c.args.functions.items (apart_from c.args.frames) c.in_ok-works-2.fates.items c.notes_are_settled_behind_bursts.ensures.ends c.functions_keep_to_profiles.ensures c.functions_count_by_notes.ensures (begun_works (quiet g.F.Function.behaviour) c.args.graph.now c.as_slice-stages.result.now c.args.functions.items (map plain_stage c.in_ok-works.works.items) (length c.args.numbers.now) (length (apart_from c.args.frames)) c.as_slice-stages.ensures c.requires.numbers c.in_ok-works.ensures) c.in_ok-works-2.ensures.fates
    (c.nodes_walk_the_chain.ensures.packets c.args.graph.now c.args.functions.items (apart_from c.args.frames) (record { running = record { few = c.requires.running.few; lawful = c.requires.running.lawful; full = c.requires.running.full }; enter = c.requires.enter; fits = c.requires.fits; few = c.requires.few }))
    (c.nodes_walk_the_chain.ensures.rests c.args.graph.now c.args.functions.items (apart_from c.args.frames) (record { running = record { few = c.requires.running.few; lawful = c.requires.running.lawful; full = c.requires.running.full }; enter = c.requires.enter; fits = c.requires.fits; few = c.requires.few }))) (record { functions_are = (c.nodes_walk_the_chain.ensures.functions c.args.graph.now c.args.functions.items (apart_from c.args.frames) (record { running = record { few = c.requires.running.few; lawful = c.requires.running.lawful; full = c.requires.running.full }; enter = c.requires.enter; fits = c.requires.fits; few = c.requires.few })); listed = (c.nodes_walk_the_chain.ensures.listed c.args.graph.now c.args.functions.items (apart_from c.args.frames) (record { running = record { few = c.requires.running.few; lawful = c.requires.running.lawful; full = c.requires.running.full }; enter = c.requires.enter; fits = c.requires.fits; few = c.requires.few })); positions = (c.nodes_walk_the_chain.ensures.positions c.args.graph.now c.args.functions.items (apart_from c.args.frames) (record { running = record { few = c.requires.running.few; lawful = c.requires.running.lawful; full = c.requires.running.full }; enter = c.requires.enter; fits = c.requires.fits; few = c.requires.few })) }) c.in_ok-works-2.ensures.functions c.deref.ensures.value c.in_ok-owned.ensures)

pub returns-clause-fates : goal.returns-clause-fates
returns-clause-fates g c = (ended_as g.F.Function.behaviour g.F.Function.notes (map plain_stage c.in_ok-works.works.items) (works_for (quiet g.F.Function.behaviour) c.args.graph.now c.args.functions.items (length (apart_from c.args.frames))) c.args.functions.items (apart_from c.args.frames) c.in_ok-works-2.fates.items c.notes_are_settled_behind_bursts.ensures.ends c.functions_keep_to_profiles.ensures c.functions_count_by_notes.ensures (begun_works (quiet g.F.Function.behaviour) c.args.graph.now c.as_slice-stages.result.now c.args.functions.items (map plain_stage c.in_ok-works.works.items) (length c.args.numbers.now) (length (apart_from c.args.frames)) c.as_slice-stages.ensures c.requires.numbers c.in_ok-works.ensures) c.in_ok-works-2.ensures.fates
    (c.nodes_walk_the_chain.ensures.packets c.args.graph.now c.args.functions.items (apart_from c.args.frames) (record { running = record { few = c.requires.running.few; lawful = c.requires.running.lawful; full = c.requires.running.full }; enter = c.requires.enter; fits = c.requires.fits; few = c.requires.few }))
    (c.nodes_walk_the_chain.ensures.rests c.args.graph.now c.args.functions.items (apart_from c.args.frames) (record { running = record { few = c.requires.running.few; lawful = c.requires.running.lawful; full = c.requires.running.full }; enter = c.requires.enter; fits = c.requires.fits; few = c.requires.few })))

pub returns-clause-running : goal.returns-clause-running
returns-clause-running g c = subst (λ (l : List g.row.F.Denot). IsRunning g.F.Function.behaviour l c.args.graph.now) (sym (c.in_ok-functions.ensures (left_by g.F.Function.behaviour c.args.functions.items (apart_from c.args.frames)) (same_length g.F.Function.behaviour (left_by g.F.Function.behaviour c.args.functions.items (apart_from c.args.frames)) c.args.functions.items (burst_keeps g.F.Function.behaviour c.args.functions.items (map as_message (apart_from c.args.frames)) c.functions_keep_to_profiles.ensures) ∙ (sym c.args.functions.ok.0 ∙ sym c.len-owners.ensures)) (gone_back (λ own. map (λ v. v.items) own.items) g.F.Function.behaviour g.F.Function.notes c.args.graph.now c.as_slice-stages.result.now c.args.functions.items (apart_from c.args.frames) (map plain_stage c.in_ok-works.works.items) (works_for (quiet g.F.Function.behaviour) c.args.graph.now c.args.functions.items (length (apart_from c.args.frames))) c.in_ok-works-2.works.items c.in_ok-works-2.fates.items c.deref.result.now c.in_ok-owned.owned.items (record { listed = c.notes_are_settled_as_listed.ensures; count = c.packets_merge_apart.ensures.count; chain = c.burst_is_chain.ensures.chain; behind = c.notes_are_settled_behind_bursts.ensures.functions; ends = c.notes_are_settled_behind_bursts.ensures.ends; owns = c.owned_is_whole.ensures.count }) c.functions_keep_to_profiles.ensures (c.quiet_functions_keep_to_profiles.ensures.keeps g.F.Function.behaviour c.functions_keep_to_profiles.ensures) (c.quiet_functions_keep_to_profiles.ensures.still g.F.Function.behaviour) c.functions_count_by_notes.ensures c.requires.running c.as_slice-stages.ensures (begun_works (quiet g.F.Function.behaviour) c.args.graph.now c.as_slice-stages.result.now c.args.functions.items (map plain_stage c.in_ok-works.works.items) (length c.args.numbers.now) (length (apart_from c.args.frames)) c.as_slice-stages.ensures c.requires.numbers c.in_ok-works.ensures)
    (ended_as g.F.Function.behaviour g.F.Function.notes (map plain_stage c.in_ok-works.works.items) (works_for (quiet g.F.Function.behaviour) c.args.graph.now c.args.functions.items (length (apart_from c.args.frames))) c.args.functions.items (apart_from c.args.frames) c.in_ok-works-2.fates.items c.notes_are_settled_behind_bursts.ensures.ends c.functions_keep_to_profiles.ensures c.functions_count_by_notes.ensures (begun_works (quiet g.F.Function.behaviour) c.args.graph.now c.as_slice-stages.result.now c.args.functions.items (map plain_stage c.in_ok-works.works.items) (length c.args.numbers.now) (length (apart_from c.args.frames)) c.as_slice-stages.ensures c.requires.numbers c.in_ok-works.ensures) c.in_ok-works-2.ensures.fates
    (c.nodes_walk_the_chain.ensures.packets c.args.graph.now c.args.functions.items (apart_from c.args.frames) (record { running = record { few = c.requires.running.few; lawful = c.requires.running.lawful; full = c.requires.running.full }; enter = c.requires.enter; fits = c.requires.fits; few = c.requires.few }))
    (c.nodes_walk_the_chain.ensures.rests c.args.graph.now c.args.functions.items (apart_from c.args.frames) (record { running = record { few = c.requires.running.few; lawful = c.requires.running.lawful; full = c.requires.running.full }; enter = c.requires.enter; fits = c.requires.fits; few = c.requires.few }))) (record { functions_are = (c.nodes_walk_the_chain.ensures.functions c.args.graph.now c.args.functions.items (apart_from c.args.frames) (record { running = record { few = c.requires.running.few; lawful = c.requires.running.lawful; full = c.requires.running.full }; enter = c.requires.enter; fits = c.requires.fits; few = c.requires.few })); listed = (c.nodes_walk_the_chain.ensures.listed c.args.graph.now c.args.functions.items (apart_from c.args.frames) (record { running = record { few = c.requires.running.few; lawful = c.requires.running.lawful; full = c.requires.running.full }; enter = c.requires.enter; fits = c.requires.fits; few = c.requires.few })); positions = (c.nodes_walk_the_chain.ensures.positions c.args.graph.now c.args.functions.items (apart_from c.args.frames) (record { running = record { few = c.requires.running.few; lawful = c.requires.running.lawful; full = c.requires.running.full }; enter = c.requires.enter; fits = c.requires.fits; few = c.requires.few })) }) c.in_ok-works-2.ensures.functions c.deref.ensures.value c.in_ok-owned.ensures))) (runs_on g.F.Function.behaviour c.args.graph.now c.args.functions.items (left_by g.F.Function.behaviour c.args.functions.items (apart_from c.args.frames)) c.requires.running (burst_keeps g.F.Function.behaviour c.args.functions.items (map as_message (apart_from c.args.frames)) c.functions_keep_to_profiles.ensures))

pub returns-clause-counted : goal.returns-clause-counted
returns-clause-counted g c = counts_rise c.args.tally.now c.in_ok-works-2.made c.add.new.self (λ f. copies_along (owned_kit (quiet g.F.Function.behaviour) g.F.Function.notes) (map plain_stage c.in_ok-works.works.items) (map of_merged (apart_from c.args.frames)) f) (λ f. chain_copies g.F.Function.behaviour c.args.graph.now.stages f c.args.functions.items (map as_message (apart_from c.args.frames))) c.in_ok-works-2.ensures.counted c.add.ensures
    (λ f. ap (λ (l : List (PlainStage (PlainOwned g.row.F.Denot FlowNote))). copies_along (owned_kit (quiet g.F.Function.behaviour) g.F.Function.notes) l (map of_merged (apart_from c.args.frames)) f) (begun_works (quiet g.F.Function.behaviour) c.args.graph.now c.as_slice-stages.result.now c.args.functions.items (map plain_stage c.in_ok-works.works.items) (length c.args.numbers.now) (length (apart_from c.args.frames)) c.as_slice-stages.ensures c.requires.numbers c.in_ok-works.ensures) ∙ c.nodes_walk_the_chain.ensures.counted c.args.graph.now c.args.functions.items (apart_from c.args.frames) f (record { running = record { few = c.requires.running.few; lawful = c.requires.running.lawful; full = c.requires.running.full }; enter = c.requires.enter; fits = c.requires.fits; few = c.requires.few }) ∙ copies_alike g.F.Function.behaviour g.F.Function.notes c.args.graph.now c.args.functions.items (map as_message (apart_from c.args.frames)) f c.notes_are_settled_behind_bursts.ensures.ends c.functions_keep_to_profiles.ensures c.functions_count_by_notes.ensures)
