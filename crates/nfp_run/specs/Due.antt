-- Believed: the result: the answer to words, a policy, graphs and a capture.
use Rattle.std.specs.Prelude.{ℕ, List, length, count_by, Bool, true, false, Option, Some, None, Result, Ok, Err}
use Rattle.std.specs.Option.{option_map}
use Rattle.capture_bytes.specs.declared.packet.Unit.{Unit as TimeUnit}
use Rattle.flow_run.specs.FlowsOut.{flow_lines, flows_out}
use Rattle.pcap_io.specs.Capture.{Body, capture_of}
use Rattle.pcap_io.specs.declared.capture.CaptureHead.{CaptureHead}
use Rattle.pcap_io.specs.declared.capture.CaptureFault.{CaptureFault}
use Rattle.pcapng_io.specs.Blocks.{blocks_of, next_of, start}
use Rattle.pcapng_io.specs.declared.fault.NgFault.{NgFault}
use Rattle.pcapng_io.specs.declared.item.NgItem.{NgItem}
use Rattle.pcapng_io.specs.declared.place.Place.{Place}
use Rattle.chain_walk.specs.declared.walk.Fate.{Fate}
use Rattle.call_ending.specs.declared.outcome.Outcome.{Outcome}
use Rattle.call_ending.specs.declared.outcome.Outcome.TheVariants as outcomes
pub use Rattle.call_ending.specs.Results.{outcome_of}
use Rattle.command_words.specs.declared.usage.UsageFault.{UsageFault}
use Rattle.command_words.specs.Words.{Command, Run, Plan, Demo, Flows, command_of}
use Rattle.capture_run.specs.ChainService.{Chains}
use Rattle.capture_run.specs.CaptureReport.{is_gone}
use Rattle.capture_items.specs.FaultLines.{capture_text, fault_text, ng_text}
use Rattle.capture_items.specs.declared.fault.FormatFault.{FormatFault}
use Rattle.capture_items.specs.declared.fault.FormatFault.TheVariants.{Ng, Pcap}
use Rattle.nfp_run.specs.Written.{Files, Led, both, led_ng, led_pcap, neither, out_alone}
use Rattle.nfp_run.specs.DemoNote.{demo_text}
use Rattle.call_ending.specs.Told.{is_ng}
use Rattle.call_ending.specs.Notes.{usage_text, done_text}
use Rattle.nfp_run.specs.Notes.{flows_text}
use Rattle.nfp_run.specs.Plan.{plan_text}
use Rattle.nfp_run.specs.Preparing.{Unprepared, ByPolicy, ByGraph, chains_prepared, prepared}
use Rattle.nfp_run.specs.declared.prepared.Prepared.{Prepared}

-- The outcome, what is written, and the line in Note.
pub record Due : Type 0 where
  pub outcome : Outcome
  pub written : Files
  pub note : List ℕ

-- an outcome that writes nothing but its line
abbrev pub nothing_but : Outcome → List ℕ → Due
nothing_but outcome note = record { outcome = outcome; written = neither; note = note }

-- the line of a capture that goes through chains
abbrev pub note_of : Option FormatFault → List Fate → List ℕ
note_of None fates = done_text (length fates) (count_by is_gone fates)
note_of (Some fault) fates = fault_text fault

-- a capture that goes through chains, up to its fault
abbrev pub due_of_led : Led → Due
due_of_led led = record { outcome = outcome_of led.fault; written = both led.written; note = note_of led.fault led.fates }

-- a classic capture: a refused head leaves nothing to write
abbrev pub due_of_pcap : Chains → Result (CaptureHead × Body) CaptureFault → Due
due_of_pcap chains (Err fault) = nothing_but (outcomes.Capture fault) (capture_text fault)
due_of_pcap chains (Ok capture) = due_of_led (led_pcap chains capture.0 capture.1)

-- a pcapng capture: a refused first block leaves nothing to write
abbrev pub due_of_ng : Chains → List ℕ → Result (Option (NgItem × Place × List ℕ)) NgFault → Due
due_of_ng chains capture (Err fault) = nothing_but (outcomes.CaptureNg fault) (ng_text fault)
due_of_ng chains capture (Ok first) = due_of_led (led_ng chains (blocks_of start capture))

-- a capture by its format
abbrev pub due_by_format : Bool → Chains → List ℕ → Due
due_by_format false chains capture = due_of_pcap chains (capture_of capture)
due_by_format true chains capture = due_of_ng chains capture (next_of start capture)

abbrev pub due_of_capture : Chains → List ℕ → Due
due_of_capture chains capture = due_by_format (is_ng capture) chains capture

-- the flows of a capture's records, up to its fault: their export is in Out, and their numbers are reported
abbrev pub flows_note : TimeUnit → Body → Option CaptureFault → List ℕ
flows_note unit body None = flows_text (length body.records) (flow_lines unit body.records)
flows_note unit body (Some fault) = capture_text fault

abbrev pub due_of_body : TimeUnit → Body → Due
due_of_body unit body = record {
  outcome = outcome_of (option_map Pcap body.fault);
  written = out_alone (flows_out unit body.records);
  note = flows_note unit body body.fault;
}

-- the flows of a classic capture, for any number of workers and any burst size: a refused head leaves nothing to write
abbrev pub due_of_flows : Result (CaptureHead × Body) CaptureFault → Due
due_of_flows (Err fault) = nothing_but (outcomes.Capture fault) (capture_text fault)
due_of_flows (Ok capture) = due_of_body capture.0.unit capture.1

-- a policy with a fault is answered with it, whatever is asked for, and so are graphs
abbrev pub due_of_fault : Unprepared → Due
due_of_fault (ByPolicy refusal) = nothing_but (outcomes.Policy refusal.fault) refusal.line
due_of_fault (ByGraph refusal) = nothing_but (outcomes.Graph refusal.fault) refusal.line

abbrev pub due_of_run : Result Prepared Unprepared → List ℕ → Due
due_of_run (Err fault) capture = due_of_fault fault
due_of_run (Ok p) capture = due_of_capture (chains_prepared p) capture

-- a plan doesn't look at the capture
abbrev pub due_of_plan : Result Prepared Unprepared → Due
due_of_plan (Err fault) = due_of_fault fault
due_of_plan (Ok p) = nothing_but outcomes.Done (plan_text p)

-- Graphs are looked at if the words name them. A demo looks at nothing, flows are those of the capture, and no other
-- option changes what is due.
abbrev pub due_of_command : Result Command UsageFault → List ℕ → List ℕ → List ℕ → Due
due_of_command (Err fault) policy graph capture = nothing_but (outcomes.Usage fault) (usage_text fault)
due_of_command (Ok (Run names options)) policy graph capture = due_of_run (prepared names.graph policy graph) capture
due_of_command (Ok (Plan names)) policy graph capture = due_of_plan (prepared names.graph policy graph)
due_of_command (Ok (Demo input options)) policy graph capture = nothing_but outcomes.Done (demo_text input)
due_of_command (Ok (Flows names options)) policy graph capture = due_of_flows (capture_of capture)

-- the result of a call with these words, if the policy, the graphs and the capture have these bytes
abbrev pub due : List (List ℕ) → List ℕ → List ℕ → List ℕ → Due
due words policy graph capture = due_of_command (command_of words) policy graph capture
