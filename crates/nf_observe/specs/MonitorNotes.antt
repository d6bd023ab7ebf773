-- For proofs: what a monitor notes about a packet, and how it settles a note; its step is both at once.
use Rattle.std.specs.Prelude.{◌≡◌, ℕ, Option, Some, None, refl}
use Rattle.std.proofs.Common.{ap}
use Rattle.action_profile.specs.Profiles.{profile_of}
use Rattle.action_profile.specs.declared.kind.Kind.TheVariants as kinds
use Rattle.chain_walk.specs.Notes.{Notes, settled, CountsByNotes}
use Rattle.chain_walk.specs.Shown.{Shown, shown_by}
use Rattle.chain_walk.specs.Step.{nothing}
use Rattle.chain_walk.specs.declared.verdict.Verdict.TheVariants.{Pass}
use Rattle.nf_observe.specs.Flows.{counted}
use Rattle.nf_observe.specs.Monitors.{flow_of, flows_after, monitor_behaviour}
use Rattle.packet_function.specs.declared.flow.FiveTuple.{FiveTuple}
use Rattle.nf_observe.specs.declared.monitor.Monitor.{Monitor}
use Rattle.packet_function.specs.declared.note.FlowNote.{FlowNote}

-- a note, if flow and length are known
abbrev pub note_by : Option FiveTuple → Option ℕ → Option FlowNote
note_by (Some flow) (Some bytes) = Some (record { flow = flow; bytes = bytes })
note_by flow bytes = None

-- the note about a packet that shows this
abbrev pub note_of : Shown → Option FlowNote
note_of shown = note_by (flow_of shown.values shown.fixed.proto) shown.fixed.ip_len

-- a monitor after a note is settled: the flow has one more packet
abbrev pub settled_note : Monitor → FlowNote → Monitor
settled_note m note = record { flows = counted m.flows note.flow note.bytes }

abbrev pub monitor_notes : Notes Monitor FlowNote
monitor_notes = record { look = λ m shown. note_of shown; settle = settled_note }

noted_and_settled : (m : Monitor) (flow : Option FiveTuple) (bytes : Option ℕ) → ◌≡◌ {A = Monitor} (record { flows = flows_after m.flows flow bytes }) (settled monitor_notes m (note_by flow bytes))
noted_and_settled m (Some flow) (Some bytes) = refl
noted_and_settled m (Some flow) None = refl
noted_and_settled m None bytes = refl

pub monitor_counts : CountsByNotes monitor_behaviour monitor_notes
monitor_counts = record {
  step = λ fixed m v h.
      let shown : Shown = shown_by (profile_of kinds.Monitor) fixed v in
      ap (λ (after : Monitor). record { after = after; verdict = Pass; written = nothing }) (noted_and_settled m (flow_of shown.values fixed.proto) fixed.ip_len);
  stays = λ m note. refl;
  looks = λ m note shown. refl;
}
