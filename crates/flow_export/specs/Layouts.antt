-- Believed: the export packets of Cisco's NetFlow version 5: their fields, each with its width, in their order.
use Rattle.std.specs.Prelude.{ℕ, List, [], ◌∷◌}
use Rattle.std.specs.List.{flat_map}
use Rattle.byteorder.specs.Endian.{big_bytes}
use Rattle.flow_export.specs.declared.field.Field.{Field}
use Rattle.flow_export.specs.declared.field.Field.TheVariants.{Byte, Short, Long}
use Rattle.flow_export.specs.declared.layout.Header.{Header}
use Rattle.flow_export.specs.declared.layout.Record.{Record}

-- the one, two or four bytes of a field, most significant byte first
abbrev pub field_bytes : Field → List ℕ
field_bytes (Byte x) = x ∷ []
field_bytes (Short x) = big_bytes 2 x
field_bytes (Long x) = big_bytes 4 x

-- fields one after the other
abbrev pub spelled : List Field → List ℕ
spelled fields = flat_map field_bytes fields

-- the 24 bytes of a header
abbrev pub header_fields : Header → List Field
header_fields h =
    Short h.version ∷ Short h.count ∷ Long h.sys_uptime ∷ Long h.unix_secs ∷ Long h.unix_nsecs
    ∷ Long h.flow_sequence ∷ Byte h.engine_type ∷ Byte h.engine_id ∷ Short h.sampling_interval ∷ []

-- the 48 bytes of a record
abbrev pub record_fields : Record → List Field
record_fields r =
    Long r.srcaddr ∷ Long r.dstaddr ∷ Long r.nexthop ∷ Short r.input ∷ Short r.output
    ∷ Long r.d_pkts ∷ Long r.d_octets ∷ Long r.first ∷ Long r.last
    ∷ Short r.srcport ∷ Short r.dstport ∷ Byte r.pad1 ∷ Byte r.tcp_flags ∷ Byte r.prot ∷ Byte r.tos
    ∷ Short r.src_as ∷ Short r.dst_as ∷ Byte r.src_mask ∷ Byte r.dst_mask ∷ Short r.pad2 ∷ []

unfoldable pub header_bytes : Header → List ℕ
header_bytes h = spelled (header_fields h)

unfoldable pub record_bytes : Record → List ℕ
record_bytes r = spelled (record_fields r)
