-- For proofs: how reading the policy and the graphs, a demo, and opening the capture end.
use Rattle.std.specs.Prelude.{◌≡◌, ◌≤◌, ◌⊎◌, ℕ, List, length, Option, Some, None, IfSome, Result, Ok, Err}
use Rattle.std.specs.Option.{option_map}
use Rattle.nfp_outside.specs.declared.slot.Slot.{Slot}
use Rattle.nfp_outside.specs.declared.slot.Slot.TheVariants as slots
use Rattle.nfp_outside.specs.Outside.{SlotView, IsRisen}
use Rattle.nfp_outside.specs.declared.slot.DeskFault.TheVariants as desk
use Rattle.capture_bytes.specs.declared.packet.Unit.TheVariants.{Nano}
use Rattle.pcap_io.specs.Reader.{body_left}
use Rattle.pcapng_io.specs.declared.item.NgItem.{NgItem}
use Rattle.capture_run.specs.ChainService.{Chains}
use Rattle.capture_run.specs.BurstWalk.{fates_of}
use Rattle.capture_run.specs.CaptureReport.{report_of}
use Rattle.capture_items.specs.Formats.{PacketBeside, ng_left, ng_spelled}
use Rattle.capture_items.specs.Streams.{Stream, records_in}
use Rattle.capture_run.specs.Streams.{emitted_among}
use Rattle.policy_judge.specs.declared.fault.JudgeFault.TheVariants as faults
use Rattle.policy_judge.specs.Judging.{judged, told}
use Rattle.policy_judge.specs.declared.fault.PolicyFault.TheVariants as policies
use Rattle.call_ending.specs.declared.ending.Ending.{Ending}
use Rattle.call_ending.specs.declared.ending.Ending.TheVariants.{Completed, Shown, Refused, GraphRefused, Stopped}
use Rattle.command_words.specs.declared.requests.DemoInput.{DemoInput}
use Rattle.nfp_run.specs.DemoNote.{demo_text}
use Rattle.nfp_run.specs.Heads.{growth_of}
use Rattle.nfp_run.specs.Written.{Led, led_pcap}
use Rattle.call_ending.specs.declared.read.Opened.{Opened}
use Rattle.call_ending.specs.declared.read.Opened.TheVariants.{Pcap, Ng}
use Rattle.nfp_run.specs.Plan.{plan_text}
use Rattle.std.specs.List.{AllZip, zip}
use Rattle.graph_compile.specs.declared.graph.Graph.{Graph as StagedGraph}
use Rattle.graph_text.specs.Graphs.{graphs_of}
use Rattle.graph_text.specs.declared.fault.GraphFault.{GraphFault}
use Rattle.graph_text.specs.declared.fault.GraphFault.TheVariants as graphs
use Rattle.plan_text.specs.Putting.{IsShownFor}
use Rattle.policy_check.specs.declared.fault.Order.{Order}
use Rattle.policy_judge.specs.Making.{functions_made}
use Rattle.policy_judge.specs.Orders.{IsOrdered}
use Rattle.policy_text.specs.declared.policy.ChainPolicy.{ChainPolicy}
use Rattle.capture_run.specs.ChainServiceProofs.{FitAll}
use Rattle.nfp_run.specs.Answers.{HasPolicy, WhereTexts}
use Rattle.call_ending.specs.Told.{OfBytes}
use Rattle.nfp_run.specs.GraphLines.{graph_line}
use Rattle.nfp_run.specs.Preparing.{ByGraph, Unprepared, chains_prepared, prepared, prepared_with}
use Rattle.call_ending.specs.declared.ending.GraphRefusal.{GraphRefusal}
use Rattle.nfp_run.specs.declared.prepared.Prepared.{Prepared}
use Rattle.policy_judge.specs.declared.judged.Judged.{Judged}
use Rattle.call_ending.specs.declared.outcome.Outcome.TheVariants.{Done, Usage, Policy, Graph, Capture, CaptureNg, ReadFault, WriteFault, OutOfMemory}
use Rattle.call_ending.specs.declared.read.Unread.{Unread}
use Rattle.call_ending.specs.declared.read.Unread.TheVariants.{TooLong, Failed, NoMemory}

-- how a call ends if the graphs of a policy without fault have this fault
abbrev pub GraphRefusedBy : Judged → GraphFault → Ending → Type 0
GraphRefusedBy policy fault ending =
    (ending ≡ GraphRefused (record { fault = fault; line = graph_line policy.policy.chains fault })) ⊎ (ending ≡ Stopped OutOfMemory)

-- how a call ends if its graphs weren't read
abbrev pub UnreadGraphEnds : Judged → Unread → Ending → Type 0
UnreadGraphEnds policy TooLong ending = GraphRefusedBy policy graphs.TooLong ending
UnreadGraphEnds policy Failed ending = ending ≡ Stopped (ReadFault slots.Graph)
UnreadGraphEnds policy NoMemory ending = ending ≡ Stopped OutOfMemory

-- Why a call ends at the graphs of a policy without fault: they have a fault, their count rose, or it ran out of
-- memory.
abbrev pub EndsAtGraph : Judged → SlotView → SlotView → Ending → Type 0
EndsAtGraph policy old new (GraphRefused refusal) =
    IfSome old.bytes (λ text. prepared_with policy (graphs_of text policy.policy.chains policy.orders) ≡ Err (ByGraph refusal))
EndsAtGraph policy old new (Stopped (ReadFault s)) = (s ≡ slots.Graph) × IsRisen old.faults new.faults
EndsAtGraph policy old new (Stopped OutOfMemory) = Unit {0}
EndsAtGraph policy old new (Stopped Done) = ⊥
EndsAtGraph policy old new (Stopped (Usage fault)) = ⊥
EndsAtGraph policy old new (Stopped (Policy fault)) = ⊥
EndsAtGraph policy old new (Stopped (Graph fault)) = ⊥
EndsAtGraph policy old new (Stopped (Capture fault)) = ⊥
EndsAtGraph policy old new (Stopped (CaptureNg fault)) = ⊥
EndsAtGraph policy old new (Stopped (WriteFault s)) = ⊥
EndsAtGraph policy old new (Refused refusal) = ⊥
EndsAtGraph policy old new (Completed totals) = ⊥
EndsAtGraph policy old new (Shown text) = ⊥

-- the graphs that have a name among the words have this fault, after a policy without fault
pub record GraphFails (named : Option (List ℕ)) (old : Slot → SlotView) (refusal : GraphRefusal) : Type 0 where
  pub name : List ℕ
  pub is : named ≡ Some name
  pub policy : HasPolicy old
  pub told : WhereTexts named old (λ policy text. prepared named policy text ≡ Err (ByGraph refusal))

-- they couldn't be read
pub record GraphUnread (named : Option (List ℕ)) (old new : Slot → SlotView) : Type 0 where
  pub name : List ℕ
  pub is : named ≡ Some name
  pub policy : HasPolicy old
  pub risen : IsRisen (old slots.Graph).faults (new slots.Graph).faults

-- a slot that is read before the capture couldn't be read
abbrev pub TextUnread : Option (List ℕ) → (Slot → SlotView) → (Slot → SlotView) → Slot → Type 0
TextUnread named old new slots.Policy = IsRisen (old slots.Policy).faults (new slots.Policy).faults
TextUnread named old new slots.Graph = GraphUnread named old new
TextUnread named old new slots.Capture = ⊥
TextUnread named old new slots.Out = ⊥
TextUnread named old new slots.Report = ⊥
TextUnread named old new slots.Note = ⊥

-- Why a call ends at the policy or at the graphs.
abbrev pub EndsAtTexts : Option (List ℕ) → (Slot → SlotView) → (Slot → SlotView) → Ending → Type 0
EndsAtTexts named old new (Refused refusal) = OfBytes (old slots.Policy).bytes (λ bytes. judged bytes ≡ Err refusal)
EndsAtTexts named old new (GraphRefused refusal) = GraphFails named old refusal
EndsAtTexts named old new (Stopped (ReadFault s)) = TextUnread named old new s
EndsAtTexts named old new (Stopped OutOfMemory) = Unit {0}
EndsAtTexts named old new (Stopped Done) = ⊥
EndsAtTexts named old new (Stopped (Usage fault)) = ⊥
EndsAtTexts named old new (Stopped (Policy fault)) = ⊥
EndsAtTexts named old new (Stopped (Graph fault)) = ⊥
EndsAtTexts named old new (Stopped (Capture fault)) = ⊥
EndsAtTexts named old new (Stopped (CaptureNg fault)) = ⊥
EndsAtTexts named old new (Stopped (WriteFault s)) = ⊥
EndsAtTexts named old new (Completed totals) = ⊥
EndsAtTexts named old new (Shown text) = ⊥

-- the graph of a chain may be shown
abbrev pub IsShownIn : ChainPolicy × Order → Option StagedGraph → Type 0
IsShownIn x graph = IsShownFor x.0.functions x.1.positions graph

-- A policy and its graphs have no fault, and give this.
pub record Prepares (named : Option (List ℕ)) (old : Slot → SlotView) (p : Prepared) : Type 0 where
  pub policy : HasPolicy old
  pub told : WhereTexts named old (λ policy text. prepared named policy text ≡ Ok p)

-- the part of it that may be run and shown
pub record IsReady (p : Prepared) : Type 0 where
  pub ordered : AllZip IsOrdered p.judged.policy.chains p.judged.orders
  pub made : p.judged.functions ≡ functions_made p.judged.policy.chains
  pub few : length p.judged.policy.chains ≤ 16
  pub fit : FitAll p.judged.policy.chains p.judged.orders p.graphs
  pub shown : AllZip IsShownIn (zip p.judged.policy.chains p.judged.orders) p.graphs

-- the chains that run, if nothing has a fault
abbrev pub chains_run : Result Prepared Unprepared → Option Chains
chains_run (Ok p) = Some (chains_prepared p)
chains_run (Err fault) = None

-- A policy and its graphs have no fault, and these chains run.
pub record Serves (named : Option (List ℕ)) (old : Slot → SlotView) (chains : Chains) : Type 0 where
  pub policy : HasPolicy old
  pub runs : WhereTexts named old (λ policy text. chains_run (prepared named policy text) ≡ Some chains)

-- this is the plan of a policy and graphs that gave this
abbrev pub IsPlanOf : List ℕ → Result Prepared Unprepared → Type 0
IsPlanOf text (Ok p) = text ≡ plan_text p
IsPlanOf text (Err fault) = ⊥

-- A policy and its graphs have no fault, and this is their plan.
pub record ShowsPlan (named : Option (List ℕ)) (old : Slot → SlotView) (text : List ℕ) : Type 0 where
  pub policy : HasPolicy old
  pub plan : WhereTexts named old (λ policy graph. IsPlanOf text (prepared named policy graph))

-- How a call that shows a plan ends: with the plan, or at the policy or the graphs.
abbrev pub PlanEnds : Option (List ℕ) → (Slot → SlotView) → (Slot → SlotView) → Ending → Type 0
PlanEnds named old new (Shown text) = ShowsPlan named old text
PlanEnds named old new ending = EndsAtTexts named old new ending

-- How a demo ends: with its text, or because it ran out of memory.
abbrev pub DemoEnds : DemoInput → Ending → Type 0
DemoEnds input (Shown text) = text ≡ demo_text input
DemoEnds input (Stopped OutOfMemory) = Unit {0}
DemoEnds input (Stopped Done) = ⊥
DemoEnds input (Stopped (Usage fault)) = ⊥
DemoEnds input (Stopped (Policy fault)) = ⊥
DemoEnds input (Stopped (Graph fault)) = ⊥
DemoEnds input (Stopped (Capture fault)) = ⊥
DemoEnds input (Stopped (CaptureNg fault)) = ⊥
DemoEnds input (Stopped (ReadFault s)) = ⊥
DemoEnds input (Stopped (WriteFault s)) = ⊥
DemoEnds input (Refused refusal) = ⊥
DemoEnds input (GraphRefused refusal) = ⊥
DemoEnds input (Completed totals) = ⊥

-- what chains make of what a source gives for a pcapng capture
abbrev pub led_stream : Chains → Stream PacketBeside NgItem → Led
led_stream chains stream = record {
  written = record {
    out = emitted_among (ng_spelled (growth_of chains)) stream.given (fates_of chains Nano (records_in stream.given));
    report = report_of chains Nano (records_in stream.given) stream.fault;
  };
  fates = fates_of chains Nano (records_in stream.given);
  fault = stream.fault;
}

-- what is due for the rest of an opened capture, after its head or its first block
abbrev pub opened_led : Chains → Opened → SlotView → Option Led
opened_led chains (Pcap head reader) slot = option_map (led_pcap chains head) (body_left reader slot)
opened_led chains (Ng source) slot = option_map (led_stream chains) (ng_left source slot)
