-- For proofs: chains that are ready, and what is left when a capture was led through them.
use Rattle.std.specs.Prelude.{◌≡◌, ℕ, List, length, count_by, Option, Some, IfSome, Result, Ok, Err}
use Rattle.std.specs.Option.{option_map}
use Rattle.nfp_outside.specs.Outside.{SlotView}
use Rattle.capture_bytes.specs.declared.packet.PcapRecord.{PcapRecord}
use Rattle.capture_bytes.specs.declared.packet.Unit.{Unit as TimeUnit}
use Rattle.capture_bytes.specs.declared.packet.Unit.TheVariants.{Nano}
use Rattle.capture_items.specs.Formats.{ng_left, pcap_left}
use Rattle.capture_items.specs.Streams.{Stream, records_in}
use Rattle.capture_items.specs.declared.fault.FormatFault.{FormatFault}
use Rattle.capture_items.specs.declared.fault.RunFault.{RunFault}
use Rattle.policy_judge.specs.Judging.{judged}
use Rattle.policy_judge.specs.declared.fault.Refusal.{Refusal}
use Rattle.policy_judge.specs.declared.judged.Judged.{Judged}
use Rattle.plain_chains.specs.PacketWays.{ways_of}
use Rattle.plain_chains.specs.Plain.{chains_of}
use Rattle.plain_chains.specs.declared.chain.PlainChain.{PlainChain}
use Rattle.traced_walk.specs.Ways.{Way}
use Rattle.why_report.specs.Report.{all_in_order, is_gone, report_bytes}
use Rattle.why_run.specs.Running.{ordered_of}
use Rattle.why_run.specs.Why.{asked_trace}
use Rattle.why_run.specs.declared.run.WhyEnded.{WhyEnded}
use Rattle.call_ending.specs.Left.{Holds, LeavesPrefix}
use Rattle.call_ending.specs.declared.read.Opened.{Opened}
use Rattle.call_ending.specs.declared.read.Opened.TheVariants.{Pcap, Ng}
use Rattle.why_call.specs.Due.{chains_judged}

-- these chains are those of a policy without fault
abbrev pub IsReadyOf : List PlainChain → Result Judged Refusal → Type 0
IsReadyOf chains (Ok policy) = (chains_of chains ≡ chains_judged policy) × (ordered_of chains ≡ all_in_order policy.policy.chains policy.orders)
IsReadyOf chains (Err refusal) = ⊥

-- the chains of the policy are ready, if the desk shows it
abbrev pub IsReady : SlotView → List PlainChain → Type 0
IsReady old chains = IfSome old.bytes (λ bytes. IsReadyOf chains (judged bytes))

-- The packets of a capture, the unit of their times, and its fault, if it has one.
pub record Packets : Type 0 where
  pub unit : TimeUnit
  pub packets : List PcapRecord
  pub fault : Option FormatFault

-- those that a source gives
abbrev pub packets_of : {X B : Type 0} → TimeUnit → Stream X B → Packets
packets_of unit stream = record { unit = unit; packets = records_in stream.given; fault = stream.fault }

-- those that are left of an opened capture
abbrev pub packets_left : Opened → SlotView → Option Packets
packets_left (Pcap head reader) slot = option_map (packets_of head.unit) (pcap_left reader slot)
packets_left (Ng source) slot = option_map (packets_of Nano) (ng_left source slot)

-- their ways through these chains, and the report of these
abbrev pub ways_led : List PlainChain → Packets → List Way
ways_led chains p = ways_of (chains_of chains) p.unit p.packets

abbrev pub report_led : List PlainChain → Packets → List ℕ
report_led chains p = report_bytes (ordered_of chains) (ways_led chains p) p.fault

-- What is told of packets that were led through these chains.
pub record Tells (chains : List PlainChain) (asked : Option ℕ) (p : Packets) (ended : WhyEnded) : Type 0 where
  pub read : ended.totals.records ≡ length (ways_led chains p)
  pub dropped : ended.totals.dropped ≡ count_by (λ way. is_gone way.fate) (ways_led chains p)
  pub same_fault : ended.fault ≡ p.fault
  pub trace : ended.trace ≡ asked_trace (ordered_of chains) (ways_led chains p) asked

-- what is left of known packets that were led through these chains, by how that ended
abbrev pub Left : List PlainChain → Option ℕ → SlotView → SlotView → Result WhyEnded RunFault → Packets → Type 0
Left chains asked old new (Ok ended) p = Holds (report_led chains p) old new × Tells chains asked p ended
Left chains asked old new (Err fault) p = LeavesPrefix (Some (report_led chains p)) old new
