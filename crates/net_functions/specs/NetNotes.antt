-- For proofs: what functions of any kind note about counted packets, and how a note is settled; only a monitor counts.
use Rattle.std.specs.Prelude.{◌≡◌, false, true, Option, Some, None, refl}
use Rattle.std.proofs.Common.{◌∙◌, ap}
use Rattle.chain_walk.specs.Notes.{Notes, noted, settled, CountsByNotes}
use Rattle.chain_walk.specs.Shown.{Values, Shown}
use Rattle.chain_walk.specs.Step.{Behaviour, Step, stepped, nothing}
use Rattle.chain_walk.specs.declared.fixed.Fixed.{Fixed}
use Rattle.chain_walk.specs.declared.verdict.Verdict.TheVariants as verdicts
use Rattle.nf_observe.specs.Monitors.{monitor_behaviour}
use Rattle.nf_observe.specs.MonitorNotes.{note_of, settled_note, monitor_notes, monitor_counts}
use Rattle.nf_observe.specs.declared.monitor.Monitor as monitors
use Rattle.packet_function.specs.declared.note.FlowNote.{FlowNote}
use Rattle.net_functions.specs.NetFunctions.{as_any, net_behaviour, profile_by, step_by}
use Rattle.net_functions.specs.declared.net_function.NetFunction.{NetFunction}
use Rattle.net_functions.specs.declared.net_function.NetFunction.TheVariants.{Firewall, Nat, Balancer, Monitor, Limiter, Marker, Hop, Tagger, Untagger, Signature, Nexthop, Redactor}

-- a note, which only a monitor makes
unfoldable pub look_by : NetFunction → Shown → Option FlowNote
look_by (Monitor m) shown = note_of shown
look_by f shown = None

-- a function after a note is settled: a monitor has counted it, and every other is the same
unfoldable pub settle_by : NetFunction → FlowNote → NetFunction
settle_by (Monitor m) note = Monitor (settled_note m note)
settle_by f note = f

abbrev pub net_notes : Notes NetFunction FlowNote
net_notes = record { look = look_by; settle = settle_by }

-- a monitor among all functions settles as it does by itself
settled_monitor : (m : monitors.Monitor) (note : Option FlowNote) → Monitor (settled monitor_notes m note) ≡ settled net_notes (Monitor m) note
unfolding settle_by
settled_monitor m None = refl
settled_monitor m (Some note) = refl

step_counts : (fixed : Fixed) (f : NetFunction) (v : Values) → (net_behaviour.profile f).counts ≡ true →
    stepped net_behaviour fixed f v ≡ record { after = settled net_notes f (noted net_behaviour net_notes fixed f v); verdict = verdicts.Pass; written = nothing }
unfolding profile_by step_by look_by
step_counts fixed (Monitor m) v h = ap (as_any Monitor) (monitor_counts.step fixed m v refl) ∙ ap (λ (after : NetFunction). record { after = after; verdict = verdicts.Pass; written = nothing }) (settled_monitor m (noted monitor_behaviour monitor_notes fixed m v))
step_counts fixed (Firewall f) v h = absurd cc
step_counts fixed (Nat f) v h = absurd cc
step_counts fixed (Balancer f) v h = absurd cc
step_counts fixed (Limiter f) v h = absurd cc
step_counts fixed (Marker f) v h = absurd cc
step_counts fixed (Hop f) v h = absurd cc
step_counts fixed (Tagger f) v h = absurd cc
step_counts fixed (Untagger f) v h = absurd cc
step_counts fixed (Signature f) v h = absurd cc
step_counts fixed (Nexthop f) v h = absurd cc
step_counts fixed (Redactor f) v h = absurd cc

stays_by : (f : NetFunction) (note : FlowNote) → net_behaviour.profile (settle_by f note) ≡ net_behaviour.profile f
unfolding profile_by settle_by
stays_by (Monitor m) note = refl
stays_by (Firewall f) note = refl
stays_by (Nat f) note = refl
stays_by (Balancer f) note = refl
stays_by (Limiter f) note = refl
stays_by (Marker f) note = refl
stays_by (Hop f) note = refl
stays_by (Tagger f) note = refl
stays_by (Untagger f) note = refl
stays_by (Signature f) note = refl
stays_by (Nexthop f) note = refl
stays_by (Redactor f) note = refl

looks_by : (f : NetFunction) (note : FlowNote) (shown : Shown) → look_by (settle_by f note) shown ≡ look_by f shown
unfolding look_by settle_by
looks_by (Monitor m) note shown = refl
looks_by (Firewall f) note shown = refl
looks_by (Nat f) note shown = refl
looks_by (Balancer f) note shown = refl
looks_by (Limiter f) note shown = refl
looks_by (Marker f) note shown = refl
looks_by (Hop f) note shown = refl
looks_by (Tagger f) note shown = refl
looks_by (Untagger f) note shown = refl
looks_by (Signature f) note shown = refl
looks_by (Nexthop f) note shown = refl
looks_by (Redactor f) note shown = refl

pub net_counts : CountsByNotes net_behaviour net_notes
net_counts = record { step = step_counts; stays = stays_by; looks = looks_by }
