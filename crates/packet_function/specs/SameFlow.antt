-- Believed: when two packets are of one flow.
use Rattle.std.specs.Prelude.{Bool, ◌==◌, ◌&&◌}
use Rattle.std.specs.Option.{option_eq}
use Rattle.first_sight.specs.SameAddress.{is_same_address}
use Rattle.packet_function.specs.declared.flow.Endpoint.{Endpoint}
use Rattle.packet_function.specs.declared.flow.FiveTuple.{FiveTuple}

-- Addresses and ports are the same. An address of one version of IP never equals one of the other, and an absent port
-- never equals a number.
abbrev pub is_same_endpoint : Endpoint → Endpoint → Bool
is_same_endpoint a b = is_same_address a.address b.address && option_eq ◌==◌ a.port b.port

-- protocol, source and destination are the same
abbrev pub is_same_flow : FiveTuple → FiveTuple → Bool
is_same_flow a b = a.proto == b.proto && is_same_endpoint a.source b.source && is_same_endpoint a.destination b.destination
