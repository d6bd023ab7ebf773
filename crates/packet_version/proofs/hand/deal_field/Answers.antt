use Rattle.std.proofs.Common.{◌∙◌, ℕ, ap, subst}
use Rattle.std.specs.Prelude.{OnOk, OnErr, Option}
use Rattle.action_profile.specs.declared.parts.Mode.TheVariants.{Copied}
use Rattle.packet_version.specs.Parts.{as_map}
use Rattle.packet_version.specs.Raising.{RaisesBy, RaisesAtMost}
use Rattle.packet_version.proofs.Dealt.{shared_alone, moved_first, moved_due, copied_first, copied_due, lent_due}
use Rattle.packet_version.proofs.hand.deal_field.Goals as goal

pub move_out-requires-clause-first : goal.move_out-requires-clause-first
move_out-requires-clause-first c = moved_first c.args.field c.args.versions.now c.args.mode c.in-Moved.first c.in-Moved.is c.requires.mode

pub move_out-requires-in-Some-clause-first : goal.move_out-requires-in-Some-clause-first
move_out-requires-in-Some-clause-first c = copied_first c.args.field c.args.versions.now c.args.mode c.in-Some.first (c.in-Copied.is ∙ ap (λ (o : Option ℕ). Copied o) c.in-Some.is) c.requires.mode

pub returns-in-Shared-clause-given : goal.returns-in-Shared-clause-given
returns-in-Shared-clause-given c = shared_alone c.args.field (as_map c.args.held.now.parts c.args.field) c.args.versions.now c.args.mode c.in-Shared.is c.requires.mode

pub returns-in-Moved-clause-counted : goal.returns-in-Moved-clause-counted
returns-in-Moved-clause-counted c = subst (λ (n : ℕ). OnOk c.move_out.result (RaisesBy n c.args.field c.args.tally.now c.move_out.new.tally)) (moved_due c.args.field (as_map c.args.held.now.parts c.args.field) c.args.versions.now c.args.mode c.in-Moved.first c.in-Moved.is c.requires.mode) c.move_out.ensures.counted

pub returns-in-Moved-clause-refused : goal.returns-in-Moved-clause-refused
returns-in-Moved-clause-refused c = subst (λ (n : ℕ). OnErr c.move_out.result (RaisesAtMost n c.args.field c.args.tally.now c.move_out.new.tally)) (moved_due c.args.field (as_map c.args.held.now.parts c.args.field) c.args.versions.now c.args.mode c.in-Moved.first c.in-Moved.is c.requires.mode) c.move_out.ensures.refused

pub returns-in-Some-clause-counted : goal.returns-in-Some-clause-counted
returns-in-Some-clause-counted c = subst (λ (n : ℕ). OnOk c.move_out-in-Some.result (RaisesBy n c.args.field c.args.tally.now c.move_out-in-Some.new.tally)) (copied_due c.args.field (as_map c.args.held.now.parts c.args.field) c.args.versions.now c.args.mode c.in-Some.first (c.in-Copied.is ∙ ap (λ (o : Option ℕ). Copied o) c.in-Some.is) c.requires.mode) c.move_out-in-Some.ensures.counted

pub returns-in-Some-clause-refused : goal.returns-in-Some-clause-refused
returns-in-Some-clause-refused c = subst (λ (n : ℕ). OnErr c.move_out-in-Some.result (RaisesAtMost n c.args.field c.args.tally.now c.move_out-in-Some.new.tally)) (copied_due c.args.field (as_map c.args.held.now.parts c.args.field) c.args.versions.now c.args.mode c.in-Some.first (c.in-Copied.is ∙ ap (λ (o : Option ℕ). Copied o) c.in-Some.is) c.requires.mode) c.move_out-in-Some.ensures.refused

pub returns-in-None-clause-counted : goal.returns-in-None-clause-counted
returns-in-None-clause-counted c = subst (λ (n : ℕ). OnOk c.copy_out.result (RaisesBy n c.args.field c.args.tally.now c.copy_out.new.tally)) (lent_due c.args.field (as_map c.args.held.now.parts c.args.field) c.args.versions.now c.args.mode (c.in-Copied.is ∙ ap (λ (o : Option ℕ). Copied o) c.in-None.is) c.requires.mode) c.copy_out.ensures.counted

pub returns-in-None-clause-refused : goal.returns-in-None-clause-refused
returns-in-None-clause-refused c = subst (λ (n : ℕ). OnErr c.copy_out.result (RaisesAtMost n c.args.field c.args.tally.now c.copy_out.new.tally)) (lent_due c.args.field (as_map c.args.held.now.parts c.args.field) c.args.versions.now c.args.mode (c.in-Copied.is ∙ ap (λ (o : Option ℕ). Copied o) c.in-None.is) c.requires.mode) c.copy_out.ensures.refused
