use Rattle.std.proofs.Common.{◌≡◌, ◌+◌, ◌*◌, ◌++◌, length, take}
use Rattle.std.specs.List.{flat_map}
use Rattle.flow_export.specs.Layouts.{header_bytes, record_bytes}
use Rattle.flow_export.specs.Exports.{exported, header_of, record_of}
use Rattle.flow_export.proofs.packets.put_packet.Given as goal

-- the header, and the records so far
abbrev pub invariant-lines : goal.invariant-lines
invariant-lines l =
    (l.end ≡ 24 + 48 * length (exported (take l.line-index l.lines)))
    × (take l.end l.buffer ≡ header_bytes (header_of l.span l.before (length (exported l.lines))) ++ flat_map (λ x. record_bytes (record_of l.span x)) (exported (take l.line-index l.lines)))
