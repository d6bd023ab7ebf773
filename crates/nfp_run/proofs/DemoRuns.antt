-- A demo gives the numbers of its summary.
use Rattle.std.proofs.Common.{◌≡◌, ◌≤◌, ◌∙◌, ◌-◌, ℕ, List, [], length, refl, ap, sym, subst, arith}
use Rattle.std.specs.Prelude.{map, Option, None, Some, Ok}
use Rattle.std.specs.Option.{option_map}
use Rattle.nfp_outside.specs.declared.slot.Slot.{Slot}
use Rattle.nfp_outside.specs.declared.slot.Slot.TheVariants as slots
use Rattle.nfp_outside.specs.declared.weight.Weight.{Weight}
use Rattle.nfp_outside.specs.Outside.{SlotView}
use Rattle.nfp_outside.specs.Weights.{weight_of, no_weight, heavier}
use Rattle.pcap_io.specs.Written.{head_bytes}
use Rattle.pcap_io.specs.declared.capture.CaptureHead.{CaptureHead}
use Rattle.capture_bytes.specs.declared.order.Endian.{Endian}
use Rattle.capture_bytes.specs.declared.packet.PcapRecord.{PcapRecord}
use Rattle.graph_compile.specs.declared.graph.Graph.{Graph}
use Rattle.graph_text.specs.Graphs.{no_graph}
use Rattle.policy_judge.specs.declared.judged.Judged.{Judged}
use Rattle.policy_judge.specs.Judging.{judged}
use Rattle.command_words.specs.declared.requests.DemoInput.{DemoInput}
use Rattle.capture_run.specs.ChainService.{Chains, service_among, service_of}
use Rattle.demo_capture.specs.declared.summary.Summary.{Summary}
use Rattle.demo_capture.specs.DemoCapture.{policy_text, policy_lines, demo_head, demo_records, whole_body}
use Rattle.capture_run.specs.BurstWalk.{fates_of}
use Rattle.capture_run.specs.CaptureReportProofs.{Ended}
use Rattle.capture_items.specs.Formats.{pcap_spelled, pcap_stream}
use Rattle.capture_run.specs.Running.{Counts, WritesAll}
use Rattle.capture_items.specs.Slots.{Puts}
use Rattle.nfp_run.specs.DemoNote.{demo_summary}
use Rattle.nfp_run.specs.Heads.{written_head}
use Rattle.nfp_run.specs.Closing.{LedWhole}
use Rattle.nfp_run.specs.Written.{led_pcap, written_of}
use Rattle.nfp_run.proofs.Formats.{pcap_whole}

pub served_demo : (policy : Judged) (graphs : List (Option Graph)) (chains : Chains) → judged policy_text ≡ Ok policy → graphs ≡ map no_graph policy.policy.chains →
    chains ≡ service_among policy.policy.chains policy.orders graphs → service_of (judged policy_text) ≡ Some chains
served_demo policy graphs chains good none is = ap service_of good ∙ ap Some (sym (is ∙ ap (service_among policy.policy.chains policy.orders) none))

-- the policy is short
pub policy_short : length policy_text ≤ 1048576
unfolding policy_text policy_lines
policy_short = let is : length policy_text ≡ 480 = refl in omega (arith, is)

pub demo_put : (chains : Chains) (head : CaptureHead) (order : Endian) (records : List PcapRecord) (input : DemoInput) (old mid new : Slot → SlotView) (ended : Ended) →
    head ≡ demo_head → records ≡ demo_records input.seed input.count → order ≡ head.order → Puts (head_bytes (written_head chains head)) [] old mid →
    WritesAll (pcap_spelled order) chains head.unit (Some (pcap_stream (whole_body records))) mid new ended →
    LedWhole (Some (led_pcap chains demo_head (whole_body (demo_records input.seed input.count)))) old new ended
demo_put chains head order records input old mid new ended head_is records_are is first rest =
    subst (λ h. LedWhole (Some (led_pcap chains h (whole_body (demo_records input.seed input.count)))) old new ended) head_is
    (subst (λ r. LedWhole (Some (led_pcap chains head (whole_body r))) old new ended) records_are
    (pcap_whole chains head order (Some (whole_body records)) old mid new ended is first rest))

-- what was put has the weight of its bytes
put_weighs : (bytes : List ℕ) (old new : SlotView) (w : Weight) → ((b : List ℕ) → heavier b no_weight ≡ weight_of b) → new.weight ≡ option_map (heavier bytes) old.weight →
    old.weight ≡ Some no_weight → new.weight ≡ Some w → w ≡ weight_of bytes
put_weighs bytes old new w whole put none is = same (sym is ∙ put ∙ ap (option_map (heavier bytes)) none) ∙ whole bytes
  where
    same : Some w ≡ Some (heavier bytes no_weight) → w ≡ heavier bytes no_weight
    same e = cc

pub summed_demo : (input : DemoInput) (chains : Chains) (ended : Ended) (out report : Weight) (old new : Slot → SlotView) (summary : Summary) →
    ((b : List ℕ) → heavier b no_weight ≡ weight_of b) →
    Counts None (fates_of chains demo_head.unit (demo_records input.seed input.count)) ended →
    Puts (written_of chains demo_head (whole_body (demo_records input.seed input.count))).out (written_of chains demo_head (whole_body (demo_records input.seed input.count))).report old new →
    (old slots.Out).weight ≡ Some no_weight → (old slots.Report).weight ≡ Some no_weight →
    (new slots.Out).weight ≡ Some out → (new slots.Report).weight ≡ Some report →
    summary ≡ record {
      seed = input.seed;
      count = input.count;
      records = ended.totals.records;
      emitted = ended.totals.records - ended.totals.dropped;
      dropped = ended.totals.dropped;
      out = record { bytes = out.bytes; weight = out.sum };
      report = record { bytes = report.bytes; weight = report.sum };
    } → summary ≡ demo_summary input chains
summed_demo input chains ended out report old new summary whole counts puts none_out none_report out_is report_is is =
    let written = written_of chains demo_head (whole_body (demo_records input.seed input.count)) in
    let heavy_out : out ≡ weight_of written.out = put_weighs written.out (old slots.Out) (new slots.Out) out whole puts.in_out.weighs none_out out_is in
    let heavy_report : report ≡ weight_of written.report = put_weighs written.report (old slots.Report) (new slots.Report) report whole puts.in_report.weighs none_report report_is in
    let read = counts.read in
    let dropped = counts.dropped in
    cc (is, heavy_out, heavy_report, read, dropped)
