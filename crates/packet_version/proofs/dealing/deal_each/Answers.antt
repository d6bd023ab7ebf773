use Rattle.std.proofs.Common.{◌≡◌, ◌∙◌, ℕ, List, sym, ap, subst, get_or, length, arith}
use Rattle.std.specs.Prelude.{Option}
use Rattle.packet_fields.specs.Fields.{number_of}
use Rattle.packet_fields.specs.declared.field.Field.{Field}
use Rattle.packet_fields.specs.declared.field.Field.TheVariants.{LinkDst}
use Rattle.action_profile.specs.Modes.{mode_of}
use Rattle.action_profile.specs.declared.parts.Mode.TheVariants.{Shared}
use Rattle.action_profile.specs.declared.parts.Touch.{Touch}
use Rattle.packet_version.specs.Parts.{PlainPart, PlainHeld, as_map, as_list, changed, IsPartOf}
use Rattle.packet_version.specs.Dealing.{kept_part, kept_parts, copies_due}
use Rattle.packet_version.specs.Handing.{touches_in}
use Rattle.packet_version.proofs.Handing.{on_err}
use Rattle.packet_version.proofs.Maps.{as_map-listed, as_list-again}
use Rattle.packet_version.proofs.DealtByField.{number_at, mode_read, touches_stay, part_next, kept_next, kept_over, versions_next, versions_over, counted_next, counted_refused}
use Rattle.packet_version.proofs.dealing.deal_each.Goals as goal

pub deal_field-requires-clause-mode : goal.deal_field-requires-clause-mode
deal_field-requires-clause-mode c =
    let field = get_or c.all_fields-fields.result.now c.loop-field.field-index LinkDst in
    mode_read (touches_in c.args.versions.now) c.args.modes.now field c.number.result Shared c.requires.modes c.number.ensures.number
    ∙ ap (λ (ts : List Touch). mode_of ts field) (sym (touches_stay c.loop-field.field-index (as_map c.args.held.now.parts) c.args.versions.now c.loop-field.versions c.loop-field.invariant.given))

pub deal_field-requires-clause-formed : goal.deal_field-requires-clause-formed
deal_field-requires-clause-formed c =
    let field = get_or c.all_fields-fields.result.now c.loop-field.field-index LinkDst in
    let parts = as_map c.args.held.now.parts in
    let ts = touches_in c.args.versions.now in
    let at : number_of field ≡ c.loop-field.field-index = number_at c.all_fields-fields.result.now c.loop-field.field-index c.loop-field.invariant.fields c.loop-field-test.true in
    let own : as_map c.loop-field.held.parts field ≡ parts field = part_next field c.loop-field.field-index ts parts (as_map c.loop-field.held.parts) at c.loop-field.invariant.kept in
    subst (IsPartOf field) (sym own) (c.requires.formed field)

pub returns-in_err-deal_field-clause-refused : goal.returns-in_err-deal_field-clause-refused
returns-in_err-deal_field-clause-refused c =
    let field = get_or c.all_fields-fields.result.now c.loop-field.field-index LinkDst in
    let parts = as_map c.args.held.now.parts in
    let ts = touches_in c.args.versions.now in
    let at : number_of field ≡ c.loop-field.field-index = number_at c.all_fields-fields.result.now c.loop-field.field-index c.loop-field.invariant.fields c.loop-field-test.true in
    let own : as_map c.loop-field.held.parts field ≡ parts field = part_next field c.loop-field.field-index ts parts (as_map c.loop-field.held.parts) at c.loop-field.invariant.kept in
    let all : copies_due (touches_in c.loop-field.versions) field (as_map c.loop-field.held.parts field) ≡ copies_due ts field (parts field) =
    ap (λ (us : List Touch). copies_due us field (as_map c.loop-field.held.parts field)) (touches_stay c.loop-field.field-index parts c.args.versions.now c.loop-field.versions c.loop-field.invariant.given) ∙ ap (λ (o : Option PlainPart). copies_due ts field o) own in
    on_err c.from_residual.result _ (counted_refused (λ g. copies_due ts g (parts g)) field c.loop-field.field-index (copies_due (touches_in c.loop-field.versions) field (as_map c.loop-field.held.parts field)) c.args.tally.now c.loop-field.tally c.deal_field.new.tally at all c.loop-field.invariant.counted c.in_err-deal_field.ensures.refused)

pub loop-field-preserved : goal.loop-field-preserved
loop-field-preserved c =
    let field = get_or c.all_fields-fields.result.now c.loop-field.field-index LinkDst in
    let parts = as_map c.args.held.now.parts in
    let ts = touches_in c.args.versions.now in
    let at : number_of field ≡ c.loop-field.field-index = number_at c.all_fields-fields.result.now c.loop-field.field-index c.loop-field.invariant.fields c.loop-field-test.true in
    let own : as_map c.loop-field.held.parts field ≡ parts field = part_next field c.loop-field.field-index ts parts (as_map c.loop-field.held.parts) at c.loop-field.invariant.kept in
    let all : copies_due (touches_in c.loop-field.versions) field (as_map c.loop-field.held.parts field) ≡ copies_due ts field (parts field) =
    ap (λ (us : List Touch). copies_due us field (as_map c.loop-field.held.parts field)) (touches_stay c.loop-field.field-index parts c.args.versions.now c.loop-field.versions c.loop-field.invariant.given) ∙ ap (λ (o : Option PlainPart). copies_due ts field o) own in
    let mode = mode_read ts c.args.modes.now field c.number.result Shared c.requires.modes c.number.ensures.number in
    let kept = kept_part (get_or c.args.modes.now c.number.result Shared) (as_map c.loop-field.held.parts field) in
    record {
      fields = c.loop-field.invariant.fields;
      ten = ap (λ (h : PlainHeld). length h.parts) c.in_ok-deal_field.ensures.left;
      frame = ap (λ (h : PlainHeld). h.frame) c.in_ok-deal_field.ensures.left ∙ c.loop-field.invariant.frame;
      kept = kept_next field c.loop-field.field-index ts (get_or c.args.modes.now c.number.result Shared) parts (as_map c.loop-field.held.parts) (as_map c.deal_field.new.held.parts) at mode c.loop-field.invariant.kept (ap (λ (h : PlainHeld). as_map h.parts) c.in_ok-deal_field.ensures.left ∙ as_map-listed (changed field kept (as_map c.loop-field.held.parts)));
      given = versions_next field c.loop-field.field-index parts (as_map c.loop-field.held.parts field) c.args.versions.now c.loop-field.versions c.deal_field.new.versions at own c.loop-field.invariant.given c.in_ok-deal_field.ensures.given;
      counted = counted_next (λ g. copies_due ts g (parts g)) field c.loop-field.field-index (copies_due (touches_in c.loop-field.versions) field (as_map c.loop-field.held.parts field)) c.args.tally.now c.loop-field.tally c.deal_field.new.tally at all c.loop-field.invariant.counted c.in_ok-deal_field.ensures.counted;
    }

pub returns-clause-given : goal.returns-clause-given
returns-clause-given c =
    let len : length c.all_fields-fields.result.now ≡ 10 = ap (λ (fs : List Field). length fs) c.loop-field.invariant.fields in
    versions_over c.loop-field.field-index (as_map c.args.held.now.parts) c.args.versions.now c.loop-field.versions (omega (arith, c.loop-field.auto.field-index-end)) c.loop-field.invariant.given

pub returns-clause-kept : goal.returns-clause-kept
returns-clause-kept c =
    let len : length c.all_fields-fields.result.now ≡ 10 = ap (λ (fs : List Field). length fs) c.loop-field.invariant.fields in
    let parts = as_map c.args.held.now.parts in
    let ts = touches_in c.args.versions.now in
    ap (λ (ps : List (Option PlainPart)). let h : PlainHeld = record { parts = ps; frame = c.loop-field.held.frame } in h)
    (sym (as_list-again c.loop-field.held.parts c.loop-field.invariant.ten)
    ∙ ap as_list (kept_over c.loop-field.field-index ts parts (as_map c.loop-field.held.parts) (omega (arith, c.loop-field.auto.field-index-end)) c.loop-field.invariant.kept))
    ∙ ap (λ (frame : List ℕ). let h : PlainHeld = record { parts = as_list (kept_parts ts parts); frame = frame } in h) c.loop-field.invariant.frame
