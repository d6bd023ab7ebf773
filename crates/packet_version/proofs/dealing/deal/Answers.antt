use Rattle.std.proofs.Common.{◌≡◌, ◌∙◌, List, map, sym, ap, subst, length, arith}
use Rattle.std.proofs.lemmas.List.{take_at}
use Rattle.packet_fields.specs.Writing.{rest_of}
use Rattle.packet_fields.specs.declared.field.Field.{Field}
use Rattle.action_profile.specs.Modes.{modes_of}
use Rattle.action_profile.specs.declared.parts.Touch.{Touch}
use Rattle.packet_version.specs.Parts.{PlainHeld, Parts, as_map, as_list, writer_in, IsPartOf}
use Rattle.packet_version.specs.Splitting.{PlainApart, IsWhole, packet_parts}
use Rattle.packet_version.specs.Versions.{PlainVersion, nothing}
use Rattle.packet_version.specs.Dealing.{dealt, based, kept_parts, copies_due, RaisesByDue, RaisesWithinDue}
use Rattle.packet_version.specs.Handing.{touches_in, lent_to}
use Rattle.packet_version.proofs.Dealt.{stage_dealt, owned_apart, kept_unwritten, kept_formed}
use Rattle.packet_version.proofs.Forming.{whole_formed}
use Rattle.packet_version.proofs.Handing.{on_err}
use Rattle.packet_version.proofs.Maps.{as_map-listed}
use Rattle.packet_version.proofs.PartsFitRest.{whole_to}
use Rattle.packet_version.proofs.DealtByField.{touches_begin, empty_begin, raised_within}
use Rattle.packet_version.proofs.dealing.deal.Goals as goal

pub returns-in_err-versions-clause-fits : goal.returns-in_err-versions-clause-fits
returns-in_err-versions-clause-fits c = subst (λ (w : PlainApart). IsWhole (packet_parts w) w.rest) c.whole.view_is (whole_to (as_map c.whole.inside.held.parts) c.whole.inside.held.frame c.whole.invariant)

pub deal_parts-requires-clause-modes : goal.deal_parts-requires-clause-modes
deal_parts-requires-clause-modes c =
    let parts = as_map c.whole.inside.held.parts in
    let fixed = c.whole.inside.fixed in
    let touches = c.args.parts.now.touches in
    let made : c.deref_mut.result.now ≡ map (λ t. nothing t fixed) touches = c.deref_mut.ensures.value ∙ (c.in_ok-versions.ensures ∙ ap (λ (ts : List Touch). map (λ t. nothing t fixed) ts) c.as_slice.ensures) in
    c.requires.modes ∙ ap (λ (us : List Touch). modes_of us) (sym (touches_begin touches fixed c.deref_mut.result.now made))

pub deal_parts-requires-clause-formed : goal.deal_parts-requires-clause-formed
deal_parts-requires-clause-formed c = whole_formed (as_map c.whole.inside.held.parts) c.whole.inside.held.frame c.whole.invariant

pub deal_parts-requires-clause-empty : goal.deal_parts-requires-clause-empty
deal_parts-requires-clause-empty c =
    let parts = as_map c.whole.inside.held.parts in
    let fixed = c.whole.inside.fixed in
    let touches = c.args.parts.now.touches in
    let made : c.deref_mut.result.now ≡ map (λ t. nothing t fixed) touches = c.deref_mut.ensures.value ∙ (c.in_ok-versions.ensures ∙ ap (λ (ts : List Touch). map (λ t. nothing t fixed) ts) c.as_slice.ensures) in
    empty_begin touches fixed c.deref_mut.result.now made

pub returns-in_err-deal_parts-clause-refused : goal.returns-in_err-deal_parts-clause-refused
returns-in_err-deal_parts-clause-refused c =
    let parts = as_map c.whole.inside.held.parts in
    let fixed = c.whole.inside.fixed in
    let touches = c.args.parts.now.touches in
    let made : c.deref_mut.result.now ≡ map (λ t. nothing t fixed) touches = c.deref_mut.ensures.value ∙ (c.in_ok-versions.ensures ∙ ap (λ (ts : List Touch). map (λ t. nothing t fixed) ts) c.as_slice.ensures) in
    let ts = touches_begin touches fixed c.deref_mut.result.now made in
    on_err c.from_residual-in_err-deal_parts.result _
    (subst (λ (w : PlainApart). RaisesWithinDue touches (packet_parts w) c.args.tally.now c.deal_parts.new.tally) c.whole.view_is
    (subst (λ (us : List Touch). RaisesWithinDue us parts c.args.tally.now c.deal_parts.new.tally) ts c.in_err-deal_parts.ensures.refused))

pub returns-in_err-deal_parts-clause-fits : goal.returns-in_err-deal_parts-clause-fits
returns-in_err-deal_parts-clause-fits c = subst (λ (w : PlainApart). IsWhole (packet_parts w) w.rest) c.whole.view_is (whole_to (as_map c.whole.inside.held.parts) c.whole.inside.held.frame c.whole.invariant)

pub share_out-requires-clause-apart : goal.share_out-requires-clause-apart
share_out-requires-clause-apart c =
    let parts = as_map c.whole.inside.held.parts in
    let fixed = c.whole.inside.fixed in
    let touches = c.args.parts.now.touches in
    let made : c.deref_mut.result.now ≡ map (λ t. nothing t fixed) touches = c.deref_mut.ensures.value ∙ (c.in_ok-versions.ensures ∙ ap (λ (ts : List Touch). map (λ t. nothing t fixed) ts) c.as_slice.ensures) in
    let same : length c.deref_mut.result.now ≡ length c.in_ok-versions.versions.items = ap (λ (xs : List PlainVersion). length xs) c.deref_mut.ensures.value in
    let owned : c.deref_mut-2.result.now ≡ c.deal_parts.new.versions = c.deref_mut-2.ensures.value ∙ take_at c.deal_parts.new.versions _ c.in_ok-versions.versions.len (omega (arith, c.in_ok-versions.versions.ok.0, c.deal_parts.auto.versions)) in
    owned_apart touches parts fixed c.deref_mut.result.now c.deref_mut-2.result.now made (owned ∙ c.in_ok-deal_parts.ensures.given)

pub share_out-requires-clause-unwritten : goal.share_out-requires-clause-unwritten
share_out-requires-clause-unwritten c =
    let parts = as_map c.whole.inside.held.parts in
    let fixed = c.whole.inside.fixed in
    let touches = c.args.parts.now.touches in
    let made : c.deref_mut.result.now ≡ map (λ t. nothing t fixed) touches = c.deref_mut.ensures.value ∙ (c.in_ok-versions.ensures ∙ ap (λ (ts : List Touch). map (λ t. nothing t fixed) ts) c.as_slice.ensures) in
    let ts = touches_begin touches fixed c.deref_mut.result.now made in
    let kept : as_map c.deal_parts.new.held.parts ≡ kept_parts touches parts = ap (λ (h : PlainHeld). as_map h.parts) c.in_ok-deal_parts.ensures.kept ∙ (as_map-listed (kept_parts (touches_in c.deref_mut.result.now) parts) ∙ ap (λ (us : List Touch). kept_parts us parts) ts) in
    λ f. ap (λ (m : Parts). writer_in (m f)) kept ∙ kept_unwritten touches parts f

pub share_out-requires-clause-formed : goal.share_out-requires-clause-formed
share_out-requires-clause-formed c =
    let parts = as_map c.whole.inside.held.parts in
    let fixed = c.whole.inside.fixed in
    let touches = c.args.parts.now.touches in
    let made : c.deref_mut.result.now ≡ map (λ t. nothing t fixed) touches = c.deref_mut.ensures.value ∙ (c.in_ok-versions.ensures ∙ ap (λ (ts : List Touch). map (λ t. nothing t fixed) ts) c.as_slice.ensures) in
    let ts = touches_begin touches fixed c.deref_mut.result.now made in
    let kept : as_map c.deal_parts.new.held.parts ≡ kept_parts touches parts = ap (λ (h : PlainHeld). as_map h.parts) c.in_ok-deal_parts.ensures.kept ∙ (as_map-listed (kept_parts (touches_in c.deref_mut.result.now) parts) ∙ ap (λ (us : List Touch). kept_parts us parts) ts) in
    subst (λ (m : Parts). (f : Field) → IsPartOf f (m f)) (sym kept) (λ f. kept_formed touches parts f (whole_formed parts c.whole.inside.held.frame c.whole.invariant f))

pub returns-in_err-kept-clause-refused : goal.returns-in_err-kept-clause-refused
returns-in_err-kept-clause-refused c =
    let parts = as_map c.whole.inside.held.parts in
    let fixed = c.whole.inside.fixed in
    let touches = c.args.parts.now.touches in
    let made : c.deref_mut.result.now ≡ map (λ t. nothing t fixed) touches = c.deref_mut.ensures.value ∙ (c.in_ok-versions.ensures ∙ ap (λ (ts : List Touch). map (λ t. nothing t fixed) ts) c.as_slice.ensures) in
    let ts = touches_begin touches fixed c.deref_mut.result.now made in
    on_err c.from_residual-in_err-kept.result _
    (subst (λ (w : PlainApart). RaisesWithinDue touches (packet_parts w) c.args.tally.now c.deal_parts.new.tally) c.whole.view_is
    (subst (λ (us : List Touch). RaisesWithinDue us parts c.args.tally.now c.deal_parts.new.tally) ts
    (raised_within (λ g. copies_due (touches_in c.deref_mut.result.now) g (parts g)) c.args.tally.now c.deal_parts.new.tally c.in_ok-deal_parts.ensures.counted)))

pub returns-in_err-kept-clause-fits : goal.returns-in_err-kept-clause-fits
returns-in_err-kept-clause-fits c = subst (λ (w : PlainApart). IsWhole (packet_parts w) w.rest) c.whole.view_is (whole_to (as_map c.whole.inside.held.parts) c.whole.inside.held.frame c.whole.invariant)

pub returns-clause-versions : goal.returns-clause-versions
returns-clause-versions c =
    let parts = as_map c.whole.inside.held.parts in
    let fixed = c.whole.inside.fixed in
    let touches = c.args.parts.now.touches in
    let made : c.deref_mut.result.now ≡ map (λ t. nothing t fixed) touches = c.deref_mut.ensures.value ∙ (c.in_ok-versions.ensures ∙ ap (λ (ts : List Touch). map (λ t. nothing t fixed) ts) c.as_slice.ensures) in
    let ts = touches_begin touches fixed c.deref_mut.result.now made in
    let kept : as_map c.deal_parts.new.held.parts ≡ kept_parts touches parts = ap (λ (h : PlainHeld). as_map h.parts) c.in_ok-deal_parts.ensures.kept ∙ (as_map-listed (kept_parts (touches_in c.deref_mut.result.now) parts) ∙ ap (λ (us : List Touch). kept_parts us parts) ts) in
    let same : length c.deref_mut.result.now ≡ length c.in_ok-versions.versions.items = ap (λ (xs : List PlainVersion). length xs) c.deref_mut.ensures.value in
    let owned : c.deref_mut-2.result.now ≡ c.deal_parts.new.versions = c.deref_mut-2.ensures.value ∙ take_at c.deal_parts.new.versions _ c.in_ok-versions.versions.len (omega (arith, c.in_ok-versions.versions.ok.0, c.deal_parts.auto.versions)) in
    let long : length c.deref_mut-2.result.now ≡ length c.deal_parts.new.versions = ap (λ (xs : List PlainVersion). length xs) owned in
    take_at c.share_out.new.versions _ c.in_ok-versions.versions.len (omega (arith, c.in_ok-versions.versions.ok.0, c.deal_parts.auto.versions, c.share_out.auto.versions))
    ∙ (stage_dealt touches parts fixed c.deref_mut.result.now c.deref_mut-2.result.now c.share_out.new.versions made (owned ∙ c.in_ok-deal_parts.ensures.given) (c.in_ok-kept.ensures.lent ∙ ap (λ (m : Parts). map (lent_to m) c.deref_mut-2.result.now) kept)
    ∙ ap (λ (w : PlainApart). map (dealt w) touches) c.whole.view_is)

pub returns-clause-base : goal.returns-clause-base
returns-clause-base c =
    let parts = as_map c.whole.inside.held.parts in
    let fixed = c.whole.inside.fixed in
    let touches = c.args.parts.now.touches in
    let made : c.deref_mut.result.now ≡ map (λ t. nothing t fixed) touches = c.deref_mut.ensures.value ∙ (c.in_ok-versions.ensures ∙ ap (λ (ts : List Touch). map (λ t. nothing t fixed) ts) c.as_slice.ensures) in
    let ts = touches_begin touches fixed c.deref_mut.result.now made in
    ap (λ (h : PlainHeld). let w : PlainApart = record { parts = h.parts; rest = rest_of h.frame; fixed = fixed } in w) (c.in_ok-kept.ensures.kept ∙ c.in_ok-deal_parts.ensures.kept)
    ∙ (ap (λ (us : List Touch). let w : PlainApart = record { parts = as_list (kept_parts us parts); rest = rest_of c.whole.inside.held.frame; fixed = fixed } in w) ts
    ∙ ap (λ (w : PlainApart). based touches w) c.whole.view_is)

pub returns-clause-counted : goal.returns-clause-counted
returns-clause-counted c =
    let parts = as_map c.whole.inside.held.parts in
    let fixed = c.whole.inside.fixed in
    let touches = c.args.parts.now.touches in
    let made : c.deref_mut.result.now ≡ map (λ t. nothing t fixed) touches = c.deref_mut.ensures.value ∙ (c.in_ok-versions.ensures ∙ ap (λ (ts : List Touch). map (λ t. nothing t fixed) ts) c.as_slice.ensures) in
    let ts = touches_begin touches fixed c.deref_mut.result.now made in
    subst (λ (w : PlainApart). RaisesByDue touches (packet_parts w) c.args.tally.now c.deal_parts.new.tally) c.whole.view_is
    (subst (λ (us : List Touch). RaisesByDue us parts c.args.tally.now c.deal_parts.new.tally) ts c.in_ok-deal_parts.ensures.counted)

pub returns-clause-fits : goal.returns-clause-fits
returns-clause-fits c = subst (λ (w : PlainApart). IsWhole (packet_parts w) w.rest) c.whole.view_is (whole_to (as_map c.whole.inside.held.parts) c.whole.inside.held.frame c.whole.invariant)
