-- Believed: endpoints of IPv4 flows, and the order in which they were first seen.
use Rattle.std.specs.Prelude.{ℕ, List, Bool, ◌==◌, ◌&&◌, Option, Some, None}
use Rattle.std.specs.Option.{option_map, option_and_then}
use Rattle.first_sight.specs.FirstSight as sight
use Rattle.policy_text.specs.declared.seen.Seen.{Seen}
use Rattle.nf_translate.specs.declared.endpoint.Endpoint.{Endpoint}

-- the same protocol, address and port
abbrev pub is_same : Endpoint → Endpoint → Bool
is_same a b = a.proto == b.proto && (a.address == b.address && a.port == b.port)

-- the place of an endpoint, counted from 0; one that isn't known goes after the others
abbrev pub place_of : List Endpoint → Endpoint → ℕ
place_of known endpoint = sight.place_of is_same known endpoint

-- the endpoint is among these
abbrev pub is_known : List Endpoint → Endpoint → Bool
is_known known endpoint = sight.is_seen is_same known endpoint

-- the endpoints that are known after this one was seen
abbrev pub with_endpoint : List Endpoint → Endpoint → List Endpoint
with_endpoint known endpoint = sight.seen_with is_same known endpoint

-- an endpoint, if its protocol, its address and its port are present
abbrev pub endpoint_of : Option ℕ → Option ℕ → Option ℕ → Option Endpoint
endpoint_of (Some proto) (Some address) (Some port) = Some (record { proto = proto; address = address; port = port })
endpoint_of proto address port = None

-- where a packet comes from
abbrev pub source_of : Seen → Option Endpoint
source_of seen = endpoint_of seen.proto seen.src seen.sport

-- where a packet goes
abbrev pub destination_of : Seen → Option Endpoint
destination_of seen = endpoint_of seen.proto seen.dst seen.dport

-- both, if both are present
abbrev pub ends_of : Seen → Option (Endpoint × Endpoint)
ends_of seen = option_and_then (λ source. option_map (λ destination. (source, destination)) (destination_of seen)) (source_of seen)
