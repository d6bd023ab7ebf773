use Rattle.std.proofs.Common.{◌∙◌, List, subst, sym, ap, ℕ, Some}
use Rattle.std.specs.Prelude.{Option, option_map}
use Rattle.packet_fields.specs.Fields.{IsLengthOf, bytes_at}
use Rattle.packet_fields.specs.declared.plan.Span.{Span}
use Rattle.packet_fields.proofs.Spans.{found, found_inside, value-len}
use Rattle.packet_fields.proofs.access.get.Goals as goal

pub part-requires : goal.part-requires
part-requires c =
    let at_span = found c.args.field c.args.frame.now c.args.plan.now c.number.result c.in_ok-span.span c.requires c.number.ensures.number c.in_ok-span.was in
    found_inside c.args.field c.args.frame.now c.in_ok-span.span at_span

pub returns-clause-value : goal.returns-clause-value
returns-clause-value c =
    let at_span = found c.args.field c.args.frame.now c.args.plan.now c.number.result c.in_ok-span.span c.requires c.number.ensures.number c.in_ok-span.was in
    ap (λ (bytes : List ℕ). Some bytes) c.part.ensures.part ∙ ap (λ (o : Option Span). option_map (bytes_at c.args.frame.now) o) (sym at_span)

pub returns-clause-length : goal.returns-clause-length
returns-clause-length c =
    let at_span = found c.args.field c.args.frame.now c.args.plan.now c.number.result c.in_ok-span.span c.requires c.number.ensures.number c.in_ok-span.was in
    subst (IsLengthOf c.args.field) (sym c.part.ensures.len) (value-len c.args.field c.args.frame.now c.in_ok-span.span at_span)
