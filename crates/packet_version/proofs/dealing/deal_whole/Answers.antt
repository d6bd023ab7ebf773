use Rattle.std.proofs.Common.{◌≡◌, ◌∙◌, List, [], ◌∷◌, map, sym, ap, subst}
use Rattle.std.specs.Prelude.{slice_index_or}
use Rattle.packet_fields.specs.declared.field.Field.{Field}
use Rattle.action_profile.specs.declared.parts.Touch.{Touch}
use Rattle.packet_version.specs.Parts.{PlainHeld, Parts, as_map, as_list, writer_in, IsPartOf}
use Rattle.packet_version.specs.Splitting.{PlainApart, IsWhole, packet_parts}
use Rattle.packet_version.specs.Versions.{PlainVersion, nothing}
use Rattle.packet_version.specs.Dealing.{dealt_whole, kept_parts, RaisesByDue, RaisesWithinDue}
use Rattle.packet_version.specs.Handing.{touches_in, with_own}
use Rattle.packet_version.proofs.Dealt.{whole_dealt, kept_unwritten, kept_formed}
use Rattle.packet_version.proofs.Forming.{whole_formed}
use Rattle.packet_version.proofs.Handing.{on_err}
use Rattle.packet_version.proofs.InPacket.{packet_dealt, packet_unwritten, packet_formed, one_counted}
use Rattle.packet_version.proofs.Maps.{as_map-listed}
use Rattle.packet_version.proofs.PartsFitRest.{whole_to}
use Rattle.packet_version.proofs.DealtByField.{touches_begin}
use Rattle.packet_version.proofs.dealing.deal_whole.Goals as goal

pub returns-in_err-version-clause-fits : goal.returns-in_err-version-clause-fits
returns-in_err-version-clause-fits c = subst (λ (w : PlainApart). IsWhole (packet_parts w) w.rest) c.whole.view_is (whole_to (as_map c.whole.inside.held.parts) c.whole.inside.held.frame c.whole.invariant)

pub deal_parts-requires-clause-formed : goal.deal_parts-requires-clause-formed
deal_parts-requires-clause-formed c = whole_formed (as_map c.whole.inside.held.parts) c.whole.inside.held.frame c.whole.invariant

pub returns-in_err-deal_parts-clause-refused : goal.returns-in_err-deal_parts-clause-refused
returns-in_err-deal_parts-clause-refused c =
    let parts = as_map c.whole.inside.held.parts in
    let t = c.args.touch in
    let fixed = c.whole.inside.fixed in
    let made : c.from_mut-only.result.now ≡ map (λ u. nothing u fixed) (t ∷ []) = c.from_mut-only.ensures.value ∙ ap (λ (v : PlainVersion). v ∷ []) c.in_ok-version.ensures in
    on_err c.from_residual-in_err-deal_parts.result _
    (subst (λ (w : PlainApart). RaisesWithinDue (t ∷ []) (packet_parts w) c.args.tally.now c.deal_parts.new.tally) c.whole.view_is
    (subst (λ (us : List Touch). RaisesWithinDue us parts c.args.tally.now c.deal_parts.new.tally) (touches_begin (t ∷ []) fixed c.from_mut-only.result.now made) c.in_err-deal_parts.ensures.refused))

pub returns-in_err-deal_parts-clause-fits : goal.returns-in_err-deal_parts-clause-fits
returns-in_err-deal_parts-clause-fits c = subst (λ (w : PlainApart). IsWhole (packet_parts w) w.rest) c.whole.view_is (whole_to (as_map c.whole.inside.held.parts) c.whole.inside.held.frame c.whole.invariant)

pub keep-requires-clause-apart : goal.keep-requires-clause-apart
keep-requires-clause-apart c =
    let parts = as_map c.whole.inside.held.parts in
    let t = c.args.touch in
    let fixed = c.whole.inside.fixed in
    let made : c.from_mut-only.result.now ≡ map (λ u. nothing u fixed) (t ∷ []) = c.from_mut-only.ensures.value ∙ ap (λ (v : PlainVersion). v ∷ []) c.in_ok-version.ensures in
    let own : slice_index_or c.deal_parts.new.versions 0 c.in_ok-version.version ≡ with_own parts (nothing t fixed) = ap (λ (xs : List PlainVersion). slice_index_or xs 0 c.in_ok-version.version) (c.in_ok-deal_parts.ensures.given ∙ ap (λ (xs : List PlainVersion). map (with_own parts) xs) made) in
    ap (λ (v : PlainVersion). v.kept) own

pub keep-requires-clause-unwritten : goal.keep-requires-clause-unwritten
keep-requires-clause-unwritten c =
    let parts = as_map c.whole.inside.held.parts in
    let t = c.args.touch in
    let fixed = c.whole.inside.fixed in
    let made : c.from_mut-only.result.now ≡ map (λ u. nothing u fixed) (t ∷ []) = c.from_mut-only.ensures.value ∙ ap (λ (v : PlainVersion). v ∷ []) c.in_ok-version.ensures in
    let kept : as_map c.deal_parts.new.held.parts ≡ kept_parts (t ∷ []) parts = ap (λ (h : PlainHeld). as_map h.parts) c.in_ok-deal_parts.ensures.kept ∙ (as_map-listed (kept_parts (touches_in c.from_mut-only.result.now) parts) ∙ ap (λ (us : List Touch). kept_parts us parts) (touches_begin (t ∷ []) fixed c.from_mut-only.result.now made)) in
    λ f. ap (λ (m : Parts). writer_in (m f)) kept ∙ kept_unwritten (t ∷ []) parts f

pub keep-requires-clause-formed : goal.keep-requires-clause-formed
keep-requires-clause-formed c =
    let parts = as_map c.whole.inside.held.parts in
    let t = c.args.touch in
    let fixed = c.whole.inside.fixed in
    let made : c.from_mut-only.result.now ≡ map (λ u. nothing u fixed) (t ∷ []) = c.from_mut-only.ensures.value ∙ ap (λ (v : PlainVersion). v ∷ []) c.in_ok-version.ensures in
    let kept : as_map c.deal_parts.new.held.parts ≡ kept_parts (t ∷ []) parts = ap (λ (h : PlainHeld). as_map h.parts) c.in_ok-deal_parts.ensures.kept ∙ (as_map-listed (kept_parts (touches_in c.from_mut-only.result.now) parts) ∙ ap (λ (us : List Touch). kept_parts us parts) (touches_begin (t ∷ []) fixed c.from_mut-only.result.now made)) in
    subst (λ (m : Parts). (f : Field) → IsPartOf f (m f)) (sym kept) (λ f. kept_formed (t ∷ []) parts f (whole_formed parts c.whole.inside.held.frame c.whole.invariant f))

pub returns-clause-version : goal.returns-clause-version
returns-clause-version c =
    let parts = as_map c.whole.inside.held.parts in
    let t = c.args.touch in
    let fixed = c.whole.inside.fixed in
    let made : c.from_mut-only.result.now ≡ map (λ u. nothing u fixed) (t ∷ []) = c.from_mut-only.ensures.value ∙ ap (λ (v : PlainVersion). v ∷ []) c.in_ok-version.ensures in
    let own : slice_index_or c.deal_parts.new.versions 0 c.in_ok-version.version ≡ with_own parts (nothing t fixed) = ap (λ (xs : List PlainVersion). slice_index_or xs 0 c.in_ok-version.version) (c.in_ok-deal_parts.ensures.given ∙ ap (λ (xs : List PlainVersion). map (with_own parts) xs) made) in
    let held : c.deal_parts.new.held ≡ record { parts = as_list (kept_parts (t ∷ []) parts); frame = c.whole.inside.held.frame } =
    c.in_ok-deal_parts.ensures.kept ∙ ap (λ (us : List Touch). let h : PlainHeld = record { parts = as_list (kept_parts us parts); frame = c.whole.inside.held.frame } in h) (touches_begin (t ∷ []) fixed c.from_mut-only.result.now made) in
    c.keep.ensures
    ∙ whole_dealt t parts c.whole.inside.held.frame fixed (slice_index_or c.deal_parts.new.versions 0 c.in_ok-version.version) c.deal_parts.new.held own held
    ∙ ap (λ (w : PlainApart). dealt_whole w t) c.whole.view_is

pub returns-clause-counted : goal.returns-clause-counted
returns-clause-counted c =
    let parts = as_map c.whole.inside.held.parts in
    let t = c.args.touch in
    let fixed = c.whole.inside.fixed in
    let made : c.from_mut-only.result.now ≡ map (λ u. nothing u fixed) (t ∷ []) = c.from_mut-only.ensures.value ∙ ap (λ (v : PlainVersion). v ∷ []) c.in_ok-version.ensures in
    subst (λ (w : PlainApart). RaisesByDue (t ∷ []) (packet_parts w) c.args.tally.now c.deal_parts.new.tally) c.whole.view_is
    (subst (λ (us : List Touch). RaisesByDue us parts c.args.tally.now c.deal_parts.new.tally) (touches_begin (t ∷ []) fixed c.from_mut-only.result.now made) c.in_ok-deal_parts.ensures.counted)

pub returns-clause-fits : goal.returns-clause-fits
returns-clause-fits c = subst (λ (w : PlainApart). IsWhole (packet_parts w) w.rest) c.whole.view_is (whole_to (as_map c.whole.inside.held.parts) c.whole.inside.held.frame c.whole.invariant)

pub in_packet-requires-clause-unwritten : goal.in_packet-requires-clause-unwritten
in_packet-requires-clause-unwritten c = packet_unwritten (as_map c.whole.inside.held.parts) c.whole.inside.held.frame c.forget_writers.new.self c.forget_writers.ensures

pub in_packet-requires-clause-formed : goal.in_packet-requires-clause-formed
in_packet-requires-clause-formed c = packet_formed (as_map c.whole.inside.held.parts) c.whole.inside.held.frame c.forget_writers.new.self c.forget_writers.ensures (whole_formed (as_map c.whole.inside.held.parts) c.whole.inside.held.frame c.whole.invariant)

pub returns-then-is_few-clause-version : goal.returns-then-is_few-clause-version
returns-then-is_few-clause-version c =
    c.in_packet.ensures
    ∙ (packet_dealt c.args.touch (as_map c.whole.inside.held.parts) c.whole.inside.held.frame c.whole.inside.fixed c.forget_writers.new.self c.forget_writers.ensures
    ∙ ap (λ (w : PlainApart). dealt_whole w c.args.touch) c.whole.view_is)

pub returns-then-is_few-clause-counted : goal.returns-then-is_few-clause-counted
returns-then-is_few-clause-counted c = one_counted c.args.touch (packet_parts c.args.whole) c.args.tally.now

pub returns-then-is_few-clause-fits : goal.returns-then-is_few-clause-fits
returns-then-is_few-clause-fits c = subst (λ (w : PlainApart). IsWhole (packet_parts w) w.rest) c.whole.view_is (whole_to (as_map c.whole.inside.held.parts) c.whole.inside.held.frame c.whole.invariant)
