use Rattle.std.proofs.Common.{◌∙◌, ap, arith, sym, ℕ}
use Rattle.packet_fields.specs.Changes.{applied}
use Rattle.packet_fields.proofs.ChecksumSteps.{header_sum_is, header_is_sealed}
use Rattle.packet_fields.proofs.sealing.seal_header.Goals as goal

pub header_change-requires-clause-room : goal.header_change-requires-clause-room
header_change-requires-clause-room c =
    let long = (header_sum_is c.args.old.now c.in-Some.at (sym c.in-Some.ensures.place)).1 in
    omega (arith, long, c.header_len.ensures.least, c.min-end.ensures)

pub returns-in-Some : goal.returns-in-Some
returns-in-Some c =
    header_is_sealed c.args.old.now c.args.new.now c.write_word.new.bytes c.in-Some.at c.header_len.result c.min-end.result c.applied-checksum.result c.header_change.result (sym c.in-Some.ensures.place) c.requires.same_len c.requires.same_header
    c.header_len.ensures.len c.min-end.ensures c.header_change.ensures (c.applied-checksum.ensures ∙ ap (λ (n : ℕ). applied n c.header_change.result) c.word.ensures) c.write_word.ensures
