-- Believed: the lines that report a state.
use Rattle.std.specs.Prelude.{ℕ, List, [], ◌∷◌, Option, codes}
use Rattle.std.specs.Fmt.{decimal}
use Rattle.std.specs.Option.{option_map_or}
use Rattle.std.specs.declared.net.ip_addr.IpAddr.{IpAddr}
use Rattle.text_lines.specs.Texts.{joined, line_of}
use Rattle.first_sight.specs.Addresses.{address_text}
use Rattle.nf_observe.specs.declared.bucket.TokenBucket.{TokenBucket}
use Rattle.packet_function.specs.declared.flow.Endpoint.{Endpoint}
use Rattle.packet_function.specs.declared.flow.FiveTuple.{FiveTuple}
use Rattle.nf_observe.specs.declared.flow.FlowCounts.{FlowCounts}

-- a port, and `-` if it is absent
abbrev pub port_text : Option ℕ → List ℕ
port_text port = option_map_or decimal port (codes "-")

-- `ADDRESS PORT`
unfoldable pub endpoint_text : Endpoint → List ℕ
endpoint_text e = joined (address_text e.address ∷ codes " " ∷ port_text e.port ∷ [])

-- `  flow PROTO SOURCE PORT DESTINATION PORT packets N bytes N`
unfoldable pub flow_line : FiveTuple → FlowCounts → List ℕ
flow_line flow counts = line_of
    (codes "  flow " ∷ decimal flow.proto ∷ codes " " ∷ endpoint_text flow.source ∷ codes " " ∷ endpoint_text flow.destination
    ∷ codes " packets " ∷ decimal counts.packets ∷ codes " bytes " ∷ decimal counts.bytes ∷ [])

-- `  source ADDRESS tokens N at MOMENT`
unfoldable pub source_line : IpAddr → TokenBucket → List ℕ
source_line source bucket = line_of (codes "  source " ∷ address_text source ∷ codes " tokens " ∷ decimal bucket.tokens ∷ codes " at " ∷ decimal bucket.moment ∷ [])
