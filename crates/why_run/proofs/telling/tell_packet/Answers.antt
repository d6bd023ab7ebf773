use Rattle.std.proofs.Common.{ap, ◌∙◌}
use Rattle.plain_chains.specs.Plain.{way_next}
use Rattle.traced_run.specs.Telling.{with_acts}
use Rattle.traced_run.specs.declared.acts.Trace.{Trace}
use Rattle.traced_walk.specs.Ways.{Way}
use Rattle.why_run.specs.Telling.{IsWay}
use Rattle.why_run.proofs.Chains.{on_ok}
use Rattle.why_run.proofs.Told.{moved_on}
use Rattle.why_run.proofs.telling.tell_packet.Goals as goal

pub returns-clause-told : goal.returns-clause-told
returns-clause-told g c =
    let way : Way = way_next c.args.telling.now.service c.args.unit c.args.packet.now in
    let went : IsWay c.is_asked-keeps.result c.in_ok-led.led c.as_slice.result.now way = record {
      class = c.in_ok-led.ensures.class;
      fate = c.in_ok-led.ensures.fate;
      are = c.as_slice.ensures ∙ ap (λ (t : Trace). t.acts) c.in_ok-led.ensures.acts ∙ ap (λ (t : Trace). (with_acts t way.acts).acts) c.new-trace.ensures;
    } in
    on_ok c.tell_led.result _ _
    (λ tells chains asked done told. tells way went chains asked done (moved_on c.args.unit c.args.packet.now c.args.telling.now c.lead.new.self chains asked done c.in_ok-led.ensures.chains told))
    c.tell_led.ensures.told

pub returns-clause-text : goal.returns-clause-text
returns-clause-text g c =
    let way : Way = way_next c.args.telling.now.service c.args.unit c.args.packet.now in
    let went : IsWay c.is_asked-keeps.result c.in_ok-led.led c.as_slice.result.now way = record {
      class = c.in_ok-led.ensures.class;
      fate = c.in_ok-led.ensures.fate;
      are = c.as_slice.ensures ∙ ap (λ (t : Trace). t.acts) c.in_ok-led.ensures.acts ∙ ap (λ (t : Trace). (with_acts t way.acts).acts) c.new-trace.ensures;
    } in
    on_ok c.tell_led.result _ _
    (λ adds chains asked done told. adds way went chains asked done (moved_on c.args.unit c.args.packet.now c.args.telling.now c.lead.new.self chains asked done c.in_ok-led.ensures.chains told))
    c.tell_led.ensures.text
