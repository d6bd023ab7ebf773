-- For proofs: functions with their names note and settle what their functions do.
use Rattle.std.specs.Prelude.{◌≡◌, Option, Some, None, refl}
use Rattle.std.proofs.Common.{◌∙◌, ap}
use Rattle.chain_walk.specs.Notes.{Notes, settled, noted, CountsByNotes}
use Rattle.chain_walk.specs.Step.{Step, nothing}
use Rattle.chain_walk.specs.declared.verdict.Verdict.TheVariants as verdicts
use Rattle.packet_function.specs.declared.note.FlowNote.{FlowNote}
use Rattle.net_functions.specs.NetFunctions.{net_behaviour}
use Rattle.net_functions.specs.NetNotes.{net_counts, net_notes}
use Rattle.policy_chains.specs.NamedFunctions.{named_behaviour}
use Rattle.policy_chains.specs.declared.named.NamedFunction.{NamedFunction}

abbrev pub named_notes : Notes NamedFunction FlowNote
named_notes = record {
  look = λ f shown. net_notes.look f.function shown;
  settle = λ f note. record f { function = net_notes.settle f.function note };
}

settled_named : (f : NamedFunction) (note : Option FlowNote) → ◌≡◌ {A = NamedFunction} (record f { function = settled net_notes f.function note }) (settled named_notes f note)
settled_named f None = refl
settled_named f (Some note) = refl

pub named_counts : CountsByNotes named_behaviour named_notes
named_counts = record {
  step = λ fixed f v h.
      ap (λ t. record { after = record f { function = t.after }; verdict = t.verdict; written = t.written }) (net_counts.step fixed f.function v h)
      ∙ ap (λ (after : NamedFunction). record { after = after; verdict = verdicts.Pass; written = nothing }) (settled_named f (noted net_behaviour net_notes fixed f.function v));
  stays = λ f note. net_counts.stays f.function note;
  looks = λ f note shown. net_counts.looks f.function note shown;
}
