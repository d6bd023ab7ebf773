-- Believed: the result of `why`: the answer to its words, a policy and a capture.
use Rattle.std.specs.Prelude.{ℕ, List, length, map, filter_map, count_by, Bool, true, false, Option, Some, None, Result, Ok, Err}
use Rattle.std.specs.Option.{option_map}
use Rattle.capture_bytes.specs.declared.packet.PcapRecord.{PcapRecord}
use Rattle.capture_bytes.specs.declared.packet.Unit.{Unit as TimeUnit}
use Rattle.capture_bytes.specs.declared.packet.Unit.TheVariants.{Nano}
use Rattle.pcap_io.specs.Capture.{Body, capture_of}
use Rattle.pcap_io.specs.declared.capture.CaptureHead.{CaptureHead}
use Rattle.pcap_io.specs.declared.capture.CaptureFault.{CaptureFault}
use Rattle.pcapng_io.specs.Blocks.{Blocks, blocks_of, next_of, start}
use Rattle.pcapng_io.specs.declared.fault.NgFault.{NgFault}
use Rattle.pcapng_io.specs.declared.item.NgItem.{NgItem}
use Rattle.pcapng_io.specs.declared.item.NgItem.TheVariants as items
use Rattle.pcapng_io.specs.declared.place.Place.{Place}
use Rattle.capture_items.specs.FaultLines.{capture_text, fault_text, ng_text}
use Rattle.capture_items.specs.declared.fault.FormatFault.{FormatFault}
use Rattle.capture_items.specs.declared.fault.FormatFault.TheVariants.{Ng, Pcap}
use Rattle.graph_text.specs.Graphs.{no_graph}
use Rattle.policy_judge.specs.Judging.{judged}
use Rattle.policy_judge.specs.declared.fault.Refusal.{Refusal}
use Rattle.policy_judge.specs.declared.judged.Judged.{Judged}
use Rattle.policy_chains.specs.Services.{Chains, service_among}
use Rattle.plain_chains.specs.PacketWays.{ways_of}
use Rattle.traced_walk.specs.Ways.{Way}
use Rattle.why_report.specs.Report.{OrderedChain, all_in_order, is_gone, report_bytes}
use Rattle.trace_text.specs.Trace.{missing_line}
use Rattle.why_run.specs.Why.{asked_trace}
use Rattle.command_words.specs.WhyWords.{WhyAsked, why_of}
use Rattle.command_words.specs.declared.usage.UsageFault.{UsageFault}
use Rattle.call_ending.specs.Notes.{done_text, usage_text}
use Rattle.call_ending.specs.Results.{outcome_of}
use Rattle.call_ending.specs.Told.{is_ng}
use Rattle.call_ending.specs.declared.outcome.Outcome.{Outcome}
use Rattle.call_ending.specs.declared.outcome.Outcome.TheVariants as outcomes

-- The outcome; what Report has to hold, none if it isn't attached; and what is put into Note.
pub record WhyDue : Type 0 where
  pub outcome : Outcome
  pub report : Option (List ℕ)
  pub note : List ℕ

-- an outcome that writes nothing but its line
abbrev pub nothing_but : Outcome → List ℕ → WhyDue
nothing_but outcome note = record { outcome = outcome; report = None; note = note }

-- ---- packets that went their ways

-- what is put into Note: the trace of the record that was asked for, if the capture has it; or else the fault of the
-- capture, or that it has no such record, or the totals
abbrev pub note_by : List Way → Option ℕ → Option FormatFault → Option (List ℕ) → List ℕ
note_by ways asked fault (Some trace) = trace
note_by ways asked (Some fault) None = fault_text fault
note_by ways (Some number) None None = missing_line number
note_by ways None None None = done_text (length ways) (count_by (λ way. is_gone way.fate) ways)

abbrev pub note_of : List OrderedChain → List Way → Option FormatFault → Option ℕ → List ℕ
note_of chains ways fault asked = note_by ways asked fault (asked_trace chains ways asked)

-- the ways of the packets of a capture with this fault, if it has one, where this record is asked for
abbrev pub due_of_ways : List OrderedChain → List Way → Option FormatFault → Option ℕ → WhyDue
due_of_ways chains ways fault asked = record { outcome = outcome_of fault; report = Some (report_bytes chains ways fault); note = note_of chains ways fault asked }

-- ---- a capture

-- the packets of a pcapng capture
abbrev pub packet_of : NgItem → Option PcapRecord
packet_of (items.Packet p) = Some p.packet
packet_of (items.Section block) = None
packet_of (items.Interface order block) = None
packet_of (items.Carried block) = None

-- the chains of a policy, which run in no hand-written graph
abbrev pub chains_judged : Judged → Chains
chains_judged policy = service_among policy.policy.chains policy.orders (map no_graph policy.policy.chains)

-- the packets of a capture, and its fault, if it has one
abbrev pub due_of_packets : Judged → Option ℕ → TimeUnit → List PcapRecord → Option FormatFault → WhyDue
due_of_packets policy asked unit packets fault = due_of_ways (all_in_order policy.policy.chains policy.orders) (ways_of (chains_judged policy) unit packets) fault asked

-- a classic capture: a refused head leaves nothing to write
abbrev pub due_of_pcap : Judged → Option ℕ → Result (CaptureHead × Body) CaptureFault → WhyDue
due_of_pcap policy asked (Err fault) = nothing_but (outcomes.Capture fault) (capture_text fault)
due_of_pcap policy asked (Ok capture) = due_of_packets policy asked capture.0.unit capture.1.records (option_map Pcap capture.1.fault)

-- the blocks of a pcapng capture, whose times count nanoseconds
abbrev pub due_of_blocks : Judged → Option ℕ → Blocks → WhyDue
due_of_blocks policy asked blocks = due_of_packets policy asked Nano (filter_map packet_of blocks.items) (option_map Ng blocks.fault)

-- a pcapng capture: a refused first block leaves nothing to write
abbrev pub due_of_ng : Judged → Option ℕ → List ℕ → Result (Option (NgItem × Place × List ℕ)) NgFault → WhyDue
due_of_ng policy asked capture (Err fault) = nothing_but (outcomes.CaptureNg fault) (ng_text fault)
due_of_ng policy asked capture (Ok first) = due_of_blocks policy asked (blocks_of start capture)

-- a capture by its format
abbrev pub due_by_format : Bool → Judged → Option ℕ → List ℕ → WhyDue
due_by_format false policy asked capture = due_of_pcap policy asked (capture_of capture)
due_by_format true policy asked capture = due_of_ng policy asked capture (next_of start capture)

abbrev pub due_of_capture : Judged → Option ℕ → List ℕ → WhyDue
due_of_capture policy asked capture = due_by_format (is_ng capture) policy asked capture

-- ---- the words

-- a policy with a fault is answered with it
abbrev pub due_of_judged : Option ℕ → Result Judged Refusal → List ℕ → WhyDue
due_of_judged asked (Err refusal) capture = nothing_but (outcomes.Policy refusal.fault) refusal.line
due_of_judged asked (Ok policy) capture = due_of_capture policy asked capture

abbrev pub due_of_why : Result WhyAsked UsageFault → List ℕ → List ℕ → WhyDue
due_of_why (Err fault) policy capture = nothing_but (outcomes.Usage fault) (usage_text fault)
due_of_why (Ok asked) policy capture = due_of_judged asked.record_number (judged policy) capture

-- the result of a call with these words behind `why`, if the policy and the capture have these bytes
abbrev pub why_due : List (List ℕ) → List ℕ → List ℕ → WhyDue
why_due words policy capture = due_of_why (why_of words) policy capture
