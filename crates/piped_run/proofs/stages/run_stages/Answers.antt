use Rattle.std.proofs.Common.{rules, ◌∙◌, List, All, ap, arith, map, length, refl, subst, sym}
use Rattle.std.proofs.lemmas.List.{length-map}
use Rattle.burst_law.specs.Copies.{chain_copies}
use Rattle.merge_ops.specs.declared.merging.Merged.{Merged}
use Rattle.graph_run.specs.Counting.{RaisesUpTo}
use Rattle.graph_run.specs.Packets.{packets_taken}
use Rattle.graph_run.specs.Running.{profiles_of}
use Rattle.stream_law.specs.Apart.{apart_of}
use Rattle.stream_law.specs.Ended.{HasEnded}
use Rattle.stream_law.specs.Messages.{as_message}
use Rattle.stream_law.specs.Ready.{AllEnter, Fits}
use Rattle.piped_run.proofs.Leading.{frames_same, taken_few, same_run, led_so, refused_so}
use Rattle.piped_run.proofs.stages.run_stages.Goals as goal

pub pipe_frames-requires-clause-enter : goal.pipe_frames-requires-clause-enter
pipe_frames-requires-clause-enter g c κs within =
    subst (AllEnter (profiles_of g.F.Function.behaviour c.into_parts-functions.result.0.items) 1) (frames_same g.F.Function.behaviour c.into_parts-functions.result.0.items _ c.count_adders-taggers.result c.args.unit c.args.chain c.args.items.now _ c.new-frames.result c.count_adders-taggers.ensures c.deref.ensures.value refl c.new-frames.ensures)
    (c.bursts_in_parts_lead.ensures.enter c.into_parts-functions.result.0.items (packets_taken c.args.unit c.args.chain c.args.items.now))

pub pipe_frames-requires-clause-fits : goal.pipe_frames-requires-clause-fits
pipe_frames-requires-clause-fits g c κs within = subst (All Fits) (frames_same g.F.Function.behaviour c.into_parts-functions.result.0.items _ c.count_adders-taggers.result c.args.unit c.args.chain c.args.items.now _ c.new-frames.result c.count_adders-taggers.ensures c.deref.ensures.value refl c.new-frames.ensures) (c.bursts_in_parts_lead.ensures.fits _ (packets_taken c.args.unit c.args.chain c.args.items.now))

pub pipe_frames-requires-clause-few : goal.pipe_frames-requires-clause-few
pipe_frames-requires-clause-few g c κs within =
    let count = sym (ap length (frames_same g.F.Function.behaviour c.into_parts-functions.result.0.items _ c.count_adders-taggers.result c.args.unit c.args.chain c.args.items.now _ c.new-frames.result c.count_adders-taggers.ensures c.deref.ensures.value refl c.new-frames.ensures)) ∙ length-map (packets_taken c.args.unit c.args.chain c.args.items.now) (apart_of _) in
    let few = taken_few c.args.unit c.args.chain c.args.items.now in
    let most = c.requires.few in omega arith

pub returns-in_err-functions-clause-refused : goal.returns-in_err-functions-clause-refused
returns-in_err-functions-clause-refused g c =
    let up = refused_so g.F.Function.behaviour c.args.run (record { functions = c.into_parts-functions.result.0.items; graph = c.into_parts-functions.result.1 }) (packets_taken c.args.unit c.args.chain c.args.items.now) c.args.tally.now c.pipe_frames.new.tally
    (same_run c.args.run c.into_parts-functions.result.0.items c.into_parts-functions.result.1 c.into_parts-functions.ensures.functions c.into_parts-functions.ensures.graph)
    (c.bursts_in_parts_lead.ensures.refused (record { functions = c.into_parts-functions.result.0.items; graph = c.into_parts-functions.result.1 }) (packets_taken c.args.unit c.args.chain c.args.items.now) c.args.tally.now c.pipe_frames.new.tally
    (subst (λ (l : List Merged). RaisesUpTo (λ f. chain_copies g.F.Function.behaviour c.into_parts-functions.result.1.stages f c.into_parts-functions.result.0.items (map as_message l)) c.args.tally.now c.pipe_frames.new.tally) (sym (frames_same g.F.Function.behaviour c.into_parts-functions.result.0.items _ c.count_adders-taggers.result c.args.unit c.args.chain c.args.items.now _ c.new-frames.result c.count_adders-taggers.ensures c.deref.ensures.value refl c.new-frames.ensures)) c.in_err-functions.ensures.refused)) in search rules

pub returns-clause-leads : goal.returns-clause-leads
returns-clause-leads g c =
    led_so g.F.Function.behaviour c.args.run (record { functions = c.into_parts-functions.result.0.items; graph = c.into_parts-functions.result.1 }) (packets_taken c.args.unit c.args.chain c.args.items.now) c.args.tally.now c.pipe_frames.new.tally c.new.result c.in_ok-functions.fates.items
    (same_run c.args.run c.into_parts-functions.result.0.items c.into_parts-functions.result.1 c.into_parts-functions.ensures.functions c.into_parts-functions.ensures.graph)
    (c.bursts_in_parts_lead.ensures.leads (record { functions = c.into_parts-functions.result.0.items; graph = c.into_parts-functions.result.1 }) c.new.result (packets_taken c.args.unit c.args.chain c.args.items.now) c.in_ok-functions.ensures.fates.behind c.in_ok-functions.fates.items c.args.tally.now c.pipe_frames.new.tally
    (subst (λ (l : List Merged). HasEnded g.F.Function.behaviour (record { functions = c.into_parts-functions.result.0.items; graph = c.into_parts-functions.result.1 }) l c.new.result.functions c.in_ok-functions.ensures.fates.behind c.args.tally.now c.pipe_frames.new.tally) (sym (frames_same g.F.Function.behaviour c.into_parts-functions.result.0.items _ c.count_adders-taggers.result c.args.unit c.args.chain c.args.items.now _ c.new-frames.result c.count_adders-taggers.ensures c.deref.ensures.value refl c.new-frames.ensures))
    (record { functions_are = ap (λ r. r.functions) c.new.ensures ∙ c.in_ok-functions.ensures.functions; packets_are = c.in_ok-functions.ensures.fates.packets_are; rests = c.in_ok-functions.ensures.fates.rests; counted = c.in_ok-functions.ensures.counted }))
    (ap (λ r. r.graph) c.new.ensures) c.in_ok-functions.ensures.fates.fated)
