use Rattle.packet_fields.proofs.Spans.{found, found_inside}
use Rattle.std.proofs.Common.{◌∙◌, List, ℕ, sym, ap}
use Rattle.packet_fields.specs.Writing.{rest_of}
use Rattle.packet_fields.proofs.Puts.{is_put, fits_len, put_is}
use Rattle.packet_fields.proofs.Rest.{rest_of-put}
use Rattle.packet_fields.proofs.access.put.Goals as goal

pub overwrite-requires-clause-inside : goal.overwrite-requires-clause-inside
overwrite-requires-clause-inside c =
    let at_span = found c.args.field c.args.frame.now c.args.plan.now c.number.result c.in-Some.span c.requires.own c.number.ensures.number c.in-Some.is in
    found_inside c.args.field c.args.frame.now c.in-Some.span at_span

pub overwrite-requires-clause-len : goal.overwrite-requires-clause-len
overwrite-requires-clause-len c =
    let at_span = found c.args.field c.args.frame.now c.args.plan.now c.number.result c.in-Some.span c.requires.own c.number.ensures.number c.in-Some.is in
    fits_len c.args.field c.args.value.now c.args.frame.now c.in-Some.span c.requires.not_tag c.requires.fits at_span

pub returns-in-Some-clause-written : goal.returns-in-Some-clause-written
returns-in-Some-clause-written c =
    let at_span = found c.args.field c.args.frame.now c.args.plan.now c.number.result c.in-Some.span c.requires.own c.number.ensures.number c.in-Some.is in
    (is_put c.args.field c.args.value.now c.args.frame.now c.overwrite.new.bytes c.in-Some.span c.requires.not_tag c.requires.fits at_span c.overwrite.ensures).written

pub returns-in-Some-clause-others : goal.returns-in-Some-clause-others
returns-in-Some-clause-others c =
    let at_span = found c.args.field c.args.frame.now c.args.plan.now c.number.result c.in-Some.span c.requires.own c.number.ensures.number c.in-Some.is in
    (is_put c.args.field c.args.value.now c.args.frame.now c.overwrite.new.bytes c.in-Some.span c.requires.not_tag c.requires.fits at_span c.overwrite.ensures).others

pub returns-in-Some-clause-layout : goal.returns-in-Some-clause-layout
returns-in-Some-clause-layout c =
    let at_span = found c.args.field c.args.frame.now c.args.plan.now c.number.result c.in-Some.span c.requires.own c.number.ensures.number c.in-Some.is in
    (is_put c.args.field c.args.value.now c.args.frame.now c.overwrite.new.bytes c.in-Some.span c.requires.not_tag c.requires.fits at_span c.overwrite.ensures).layout

pub returns-in-Some-clause-rest : goal.returns-in-Some-clause-rest
returns-in-Some-clause-rest c =
    let at_span = found c.args.field c.args.frame.now c.args.plan.now c.number.result c.in-Some.span c.requires.own c.number.ensures.number c.in-Some.is in
    ap (λ (xs : List ℕ). rest_of xs) (c.overwrite.ensures ∙ sym (put_is c.args.field c.args.value.now c.args.frame.now c.in-Some.span c.requires.not_tag at_span)) ∙ rest_of-put c.args.field c.args.value.now c.args.frame.now c.requires.fits
