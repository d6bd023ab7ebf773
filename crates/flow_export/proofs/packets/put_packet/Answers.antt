use Rattle.std.proofs.Common.{◌≡◌, ◌+◌, ◌∙◌, false, refl, ap, sym, length, arith}
use Rattle.std.specs.Prelude.{None}
use Rattle.std.proofs.lemmas.List.{append-nil}
use Rattle.flow_line.specs.declared.line.FlowLine.{FlowLine}
use Rattle.flow_export.specs.declared.layout.Header.{Header}
use Rattle.flow_export.specs.Exports.{header_of, exported}
use Rattle.flow_export.specs.Layouts.{header_bytes, header_fields, spelled}
use Rattle.flow_export.proofs.Splitting.{room_for_next}
use Rattle.flow_export.proofs.packets.put_packet.Goals as goal

abbrev unseen : FlowLine
unseen = record { key = record { wide = false; proto = 0; src = 0; sport = None; dst = 0; dport = None }; packets = 0; bytes = 0; first = 0; begun = 0; last = 0; flags = 0 }

size : (h : Header) → 0 + length (spelled (header_fields h)) ≡ 24
size h = refl

pub lines-init : goal.lines-init
unfolding header_bytes
lines-init c =
    let header = c.header-header.ensures ∙ ap (header_of c.args.span.now c.args.before) c.exported_count.ensures.count in
    let fields = c.fields.ensures ∙ ap header_fields header in (
      c.put_fields-end.ensures.end ∙ ap (λ f. 0 + length (spelled f)) fields ∙ size (header_of c.args.span.now c.args.before (length (exported c.args.lines.now))),
      c.put_fields-end.ensures.written ∙ ap spelled fields ∙ sym (append-nil (header_bytes (header_of c.args.span.now c.args.before (length (exported c.args.lines.now))))),
    )

pub put_line-end-requires-clause-room : goal.put_line-end-requires-clause-room
put_line-end-requires-clause-room c =
    let next = room_for_next c.args.lines.now c.lines.line-index unseen c.lines-test.true in
    omega (arith, next, c.lines.invariant.0, c.requires.few, c.requires.room, c.lines.auto.buffer, c.put_fields-end.auto.bytes)
