-- Believed: a translation of IPv4 addresses and ports (RFC 3022): its declaration, its step and the lines of its state.
use Rattle.std.specs.Prelude.{ℕ, ◌+◌, ◌-◌, List, [], ◌∷◌, slice_get, ◌==◌, nat_le, if◌then◌else◌, Option, Some, None, fold, codes}
use Rattle.std.specs.Option.{option_and_then}
use Rattle.std.specs.Fmt.{decimal}
use Rattle.packet_fields.specs.declared.field.Field.TheVariants.{SrcIp, DstIp, SrcPort, DstPort}
use Rattle.policy_text.specs.declared.policy.FunctionDecl.{FunctionDecl}
use Rattle.policy_text.specs.Meeting.{is_within}
use Rattle.frame_seen.specs.Seeing.{seen_by}
use Rattle.action_profile.specs.Profiles.{profile_of}
use Rattle.action_profile.specs.declared.kind.Kind.TheVariants as kinds
use Rattle.chain_walk.specs.Shown.{Shown, Values}
use Rattle.chain_walk.specs.Step.{Step, Behaviour, nothing}
use Rattle.chain_walk.specs.declared.verdict.Verdict.TheVariants.{Pass, Drop}
use Rattle.packet_function.specs.Deciding.{Deciding}
use Rattle.packet_function.specs.declared.deciding.DecidingLine.{DecidingLine}
use Rattle.packet_function.specs.declared.deciding.DecidingLine.TheVariants as deciding
use Rattle.packet_function.specs.declared.deciding.SettingKey.TheVariants as keys
use Rattle.function_lines.specs.KindLines.{said_by}
use Rattle.text_lines.specs.Texts.{line_of}
use Rattle.first_sight.specs.Addresses.{dotted}
use Rattle.first_sight.specs.FirstSight.{lines_by}
use Rattle.nf_translate.specs.declared.endpoint.Endpoint.{Endpoint}
use Rattle.nf_translate.specs.declared.nat.NatSettings.{NatSettings}
use Rattle.nf_translate.specs.declared.nat_lines.NatLine.{NatLine}
use Rattle.nf_translate.specs.declared.nat_lines.NatLine.TheVariants as lines
use Rattle.nf_translate.specs.Addresses.{address_bytes, port_bytes}
use Rattle.nf_translate.specs.Endpoints.{place_of, with_endpoint, ends_of}
use Rattle.nf_translate.specs.NatLines.{nat_lines}

-- How a translation is configured, and the endpoints inside that have a public port, in the order of first sight.
pub record PlainNat : Type 0 where
  pub settings : NatSettings
  pub mappings : List Endpoint

-- before any line
abbrev pub no_settings : NatSettings
no_settings = record { inside = 0; inside_bits = 0; public_address = 0; low = 0; high = 0 }

-- the settings with the content of one more line
abbrev pub with_line : NatSettings → NatLine → NatSettings
with_line s (lines.Inside prefix bits) = record s { inside = prefix; inside_bits = bits }
with_line s (lines.Public address) = record s { public_address = address }
with_line s (lines.Ports low high) = record s { low = low; high = high }

-- what these lines say, one after another
abbrev pub settings_by : List NatLine → NatSettings
settings_by said = fold with_line no_settings said

-- a translation without a mapping
abbrev pub nat_by : List NatLine → PlainNat
nat_by said = record { settings = settings_by said; mappings = [] }

-- the translation that is declared
abbrev pub nat_of : FunctionDecl → PlainNat
nat_of decl = nat_by (said_by nat_lines decl.settings)

-- the public port of the mapping at a place, counted from 0
abbrev pub public_port : NatSettings → ℕ → ℕ
public_port s place = s.low + place

-- the same, if it is one of the ports that are set; past the last of them no port remains for a new mapping
abbrev pub port_at : NatSettings → ℕ → Option ℕ
port_at s place = if nat_le (public_port s place) s.high then Some (public_port s place) else None

-- the place of the mapping that has this public port
abbrev pub place_at : NatSettings → ℕ → Option ℕ
place_at s port = if nat_le s.low port then Some (port - s.low) else None

-- the endpoint, if its protocol is this
abbrev pub of_protocol : ℕ → Endpoint → Option Endpoint
of_protocol proto inside = if inside.proto == proto then Some inside else None

-- the endpoint inside whose public port is this, if its protocol is this too
abbrev pub mapped : PlainNat → Endpoint → Option Endpoint
mapped n public = option_and_then (of_protocol public.proto) (option_and_then (slice_get n.mappings) (place_at n.settings public.port))

-- this address and this port are written as the source, and nothing else
abbrev pub from : ℕ → ℕ → Values
from address port SrcIp = Some (address_bytes address)
from address port SrcPort = Some (port_bytes port)
from address port f = None

-- this address and this port are written as the destination, and nothing else
abbrev pub to : ℕ → ℕ → Values
to address port DstIp = Some (address_bytes address)
to address port DstPort = Some (port_bytes port)
to address port f = None

abbrev pub passed : PlainNat → Step PlainNat
passed n = record { after = n; verdict = Pass; written = nothing }

abbrev pub dropped : PlainNat → Step PlainNat
dropped n = record { after = n; verdict = Drop; written = nothing }

-- a packet from inside leaves from the public address and its source's port; a new mapping is noted
abbrev pub leaving : PlainNat → Endpoint → Option ℕ → Step PlainNat
leaving n source (Some port) = record { after = record n { mappings = with_endpoint n.mappings source }; verdict = Pass; written = from n.settings.public_address port }
leaving n source None = dropped n

-- a packet to the public address goes to the endpoint that has the port
abbrev pub coming : PlainNat → Option Endpoint → Step PlainNat
coming n (Some inside) = record { after = n; verdict = Pass; written = to inside.address inside.port }
coming n None = dropped n

-- a packet by where it comes from and where it goes
abbrev pub translated : PlainNat → Option (Endpoint × Endpoint) → Step PlainNat
translated n (Some ends) =
    if is_within n.settings.inside n.settings.inside_bits ends.0.address then leaving n ends.0 (port_at n.settings (place_of n.mappings ends.0)) else
    if ends.1.address == n.settings.public_address then coming n (mapped n ends.1) else passed n
translated n None = passed n

-- a packet of IPv6 has no such ends, so it passes
abbrev pub nat_step : PlainNat → Shown → Step PlainNat
nat_step n shown = translated n (ends_of (seen_by shown.values shown.fixed.proto))

-- a packet from inside: `set inside` lets it out, and `set ports` drops it if no port is left
abbrev pub out_by : Option ℕ → DecidingLine
out_by (Some port) = deciding.Set keys.Inside
out_by None = deciding.Set keys.Ports

-- a packet to the public address: `set public` lets it in, and the declaration drops it if nobody has the port
abbrev pub in_by : Option Endpoint → DecidingLine
in_by (Some inside) = deciding.Set keys.Public
in_by None = deciding.Declaration

-- no line decides on any other packet
abbrev pub translated_by : PlainNat → Option (Endpoint × Endpoint) → List DecidingLine
translated_by n (Some ends) =
    if is_within n.settings.inside n.settings.inside_bits ends.0.address then out_by (port_at n.settings (place_of n.mappings ends.0)) ∷ [] else
    if ends.1.address == n.settings.public_address then in_by (mapped n ends.1) ∷ [] else []
translated_by n None = []

abbrev pub nat_decides : Deciding PlainNat
nat_decides n shown = translated_by n (ends_of (seen_by shown.values shown.fixed.proto))

-- how translations behave
abbrev pub nat_behaviour : Behaviour PlainNat
nat_behaviour = record { profile = λ n. profile_of kinds.Nat; step = nat_step }

-- the line of the mapping at a place
unfoldable pub mapping_line : NatSettings → ℕ → Endpoint → List ℕ
mapping_line s place inside = line_of (codes "  map " ∷ decimal inside.proto ∷ codes " " ∷ dotted inside.address ∷ codes " " ∷ decimal inside.port ∷ codes " port " ∷ decimal (public_port s place) ∷ [])

-- the lines in which a translation reports its mappings
abbrev pub mapping_lines : PlainNat → List ℕ
mapping_lines n = lines_by (mapping_line n.settings) n.mappings
