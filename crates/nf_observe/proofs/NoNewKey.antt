-- A state that has no line more has no key more.
use Rattle.std.proofs.Common.{◌≡◌, ◌∙◌, ℕ, length, sym}
use Rattle.std.specs.Map.{keys_of}
use Rattle.std.specs.declared.net.ip_addr.IpAddr.{IpAddr}
use Rattle.first_sight.specs.FirstSight.{seen_with}
use Rattle.first_sight.specs.SameAddress.{is_same_address}
use Rattle.first_sight.proofs.Telling.{entries_counted, noted_counted}
use Rattle.nf_observe.specs.Limiters.{limited}
use Rattle.nf_observe.specs.MonitorNotes.{settled_note}
use Rattle.packet_function.specs.SameFlow.{is_same_flow}
use Rattle.nf_observe.specs.StateRows.{limiter_rows, monitor_rows}
use Rattle.nf_observe.specs.declared.limiter.Limiter.{Limiter}
use Rattle.nf_observe.specs.declared.monitor.Monitor.{Monitor}
use Rattle.packet_function.specs.declared.note.FlowNote.{FlowNote}

pub no_new_source : (l : Limiter) (source : IpAddr) (bytes time : ℕ) → length (limiter_rows (limited l source bytes time).after) ≡ length (limiter_rows l) →
    length (seen_with is_same_address (keys_of l.sources) source) ≡ length (keys_of l.sources)
no_new_source l source bytes time as_many = sym (noted_counted _ is_same_address l.sources source _) ∙ as_many ∙ entries_counted _ l.sources

pub no_new_flow : (m : Monitor) (note : FlowNote) → length (monitor_rows (settled_note m note)) ≡ length (monitor_rows m) →
    length (seen_with is_same_flow (keys_of m.flows) note.flow) ≡ length (keys_of m.flows)
no_new_flow m note as_many = sym (noted_counted _ is_same_flow m.flows note.flow _) ∙ as_many ∙ entries_counted _ m.flows
