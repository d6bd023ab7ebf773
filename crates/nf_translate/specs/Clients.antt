-- Believed: clients of a virtual address, and the order in which they were first seen.
use Rattle.std.specs.Prelude.{ℕ, List, Bool, ◌==◌, ◌&&◌, Option, Some, None}
use Rattle.std.specs.declared.net.ip_addr.IpAddr.{IpAddr}
use Rattle.first_sight.specs.FirstSight as sight
use Rattle.first_sight.specs.SameAddress.{is_same_address}
use Rattle.frame_seen.specs.Seeing.{seen_by, source_address}
use Rattle.chain_walk.specs.Shown.{Values}
use Rattle.nf_translate.specs.declared.client.Client.{Client}

-- the same protocol, address and port
abbrev pub is_same : Client → Client → Bool
is_same a b = a.proto == b.proto && (is_same_address a.address b.address && a.port == b.port)

-- the place of a client, counted from 0; one that isn't known goes after the others
abbrev pub place_of : List Client → Client → ℕ
place_of known client = sight.place_of is_same known client

-- the client is among these
abbrev pub is_known : List Client → Client → Bool
is_known known client = sight.is_seen is_same known client

-- the clients that are known after this one was seen
abbrev pub with_client : List Client → Client → List Client
with_client known client = sight.seen_with is_same known client

-- a client, if its protocol, its address and its port are present
abbrev pub client_of : Option ℕ → Option IpAddr → Option ℕ → Option Client
client_of (Some proto) (Some address) (Some port) = Some (record { proto = proto; address = address; port = port })
client_of proto address port = None

-- where a packet comes from, by the values of its fields and its protocol
abbrev pub source_of : Values → Option ℕ → Option Client
source_of values proto = client_of proto (source_address values) (seen_by values proto).sport
