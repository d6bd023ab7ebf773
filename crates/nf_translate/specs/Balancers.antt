-- Believed: a balancer: how it is declared, what it does as a function of a chain, and the lines of its state.
use Rattle.std.specs.Prelude.{ℕ, ◌%◌, List, [], ◌∷◌, length, slice_index_or, ◌==◌, if◌then◌else◌, Option, Some, None, is_some, filter_map, codes}
use Rattle.std.specs.Option.{option_and_then, unwrap_or}
use Rattle.std.specs.Fmt.{decimal}
use Rattle.std.specs.declared.net.ip_addr.IpAddr.{IpAddr}
use Rattle.packet_fields.specs.declared.field.Field.TheVariants.{DstIp}
use Rattle.policy_text.specs.declared.policy.FunctionDecl.{FunctionDecl}
use Rattle.frame_seen.specs.Seeing.{destination_address}
use Rattle.action_profile.specs.Profiles.{profile_of}
use Rattle.action_profile.specs.declared.kind.Kind.TheVariants as kinds
use Rattle.chain_walk.specs.Shown.{Shown, Values}
use Rattle.chain_walk.specs.Step.{Step, Behaviour, nothing}
use Rattle.chain_walk.specs.declared.verdict.Verdict.TheVariants.{Pass}
use Rattle.packet_function.specs.Deciding.{Deciding}
use Rattle.packet_function.specs.declared.deciding.DecidingLine.{DecidingLine}
use Rattle.packet_function.specs.declared.deciding.DecidingLine.TheVariants.{Rule}
use Rattle.function_lines.specs.KindLines.{said_by}
use Rattle.text_lines.specs.Texts.{line_of}
use Rattle.first_sight.specs.Addresses.{address_text}
use Rattle.first_sight.specs.FirstSight.{lines_by}
use Rattle.first_sight.specs.SameAddress.{is_same_address}
use Rattle.nf_translate.specs.declared.client.Client.{Client}
use Rattle.nf_translate.specs.declared.balancer.BalancerSettings.{BalancerSettings}
use Rattle.nf_translate.specs.declared.balancer_lines.BalancerLine.{BalancerLine}
use Rattle.nf_translate.specs.Addresses.{ip_address_bytes, ipv4_address}
use Rattle.nf_translate.specs.BalancerLines.{balancer_lines, virtual_address_by, backend_in}
use Rattle.nf_translate.specs.Clients.{place_of, with_client, source_of}

-- How a balancer is configured, and the clients whose flows it has seen, in the order of first sight.
pub record PlainBalancer : Type 0 where
  pub settings : BalancerSettings
  pub flows : List Client

-- what these lines say: 0.0.0.0 if no line sets the virtual address, which every declaration has to set
abbrev pub settings_by : List BalancerLine → BalancerSettings
settings_by said = record { virtual_address = unwrap_or (virtual_address_by said) (ipv4_address 0); backends = filter_map backend_in said }

-- a balancer that has seen no flow
abbrev pub balancer_by : List BalancerLine → PlainBalancer
balancer_by said = record { settings = settings_by said; flows = [] }

-- the balancer that is declared
abbrev pub balancer_of : FunctionDecl → PlainBalancer
balancer_of decl = balancer_by (said_by balancer_lines decl.settings)

-- the backend of the flow at a place, both counted from 0: the backends take turns, as listed
abbrev pub backend_at : BalancerSettings → ℕ → IpAddr
backend_at s place = slice_index_or s.backends (place % length s.backends) s.virtual_address

-- the flow of a packet that is sent to the virtual address
abbrev pub flow_of : BalancerSettings → Values → Option ℕ → Option Client
flow_of s values proto = option_and_then (λ address. if is_same_address address s.virtual_address then source_of values proto else None) (destination_address values)

-- new bytes in place of those of a field, if they are as many
abbrev pub in_place_of : Option (List ℕ) → List ℕ → Option (List ℕ)
in_place_of (Some old) new = if length new == length old then Some new else None
in_place_of None new = None

-- this address is written in place of this destination, and nothing else
abbrev pub to_address : IpAddr → Option (List ℕ) → Values
to_address address destination DstIp = in_place_of destination (ip_address_bytes address)
to_address address destination f = None

-- a packet of a flow goes to the flow's backend, and any other goes on unchanged
abbrev pub balanced : PlainBalancer → Option (List ℕ) → Option Client → Step PlainBalancer
balanced b destination (Some flow) = record { after = record b { flows = with_client b.flows flow }; verdict = Pass; written = to_address (backend_at b.settings (place_of b.flows flow)) destination }
balanced b destination None = record { after = b; verdict = Pass; written = nothing }

abbrev pub balancer_step : PlainBalancer → Shown → Step PlainBalancer
balancer_step b shown = balanced b (shown.values DstIp) (flow_of b.settings shown.values shown.fixed.proto)

-- the line of the flow's backend decides if the backend's address is written, and no line decides on any other packet
abbrev pub balanced_by : PlainBalancer → Option (List ℕ) → Option Client → List DecidingLine
balanced_by b destination (Some flow) =
    if is_some (in_place_of destination (ip_address_bytes (backend_at b.settings (place_of b.flows flow)))) then Rule (place_of b.flows flow % length b.settings.backends) ∷ [] else []
balanced_by b destination None = []

abbrev pub balancer_decides : Deciding PlainBalancer
balancer_decides b shown = balanced_by b (shown.values DstIp) (flow_of b.settings shown.values shown.fixed.proto)

-- how balancers behave
abbrev pub balancer_behaviour : Behaviour PlainBalancer
balancer_behaviour = record { profile = λ b. profile_of kinds.Balancer; step = balancer_step }

-- the line of the flow at a place
unfoldable pub flow_line : BalancerSettings → ℕ → Client → List ℕ
flow_line s place flow = line_of (codes "  flow " ∷ decimal flow.proto ∷ codes " " ∷ address_text flow.address ∷ codes " " ∷ decimal flow.port ∷ codes " backend " ∷ address_text (backend_at s place) ∷ [])

-- the lines in which a balancer reports its flows
abbrev pub flow_lines : PlainBalancer → List ℕ
flow_lines b = lines_by (flow_line b.settings) b.flows
