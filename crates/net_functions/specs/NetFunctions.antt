-- Believed: network functions of any kind: what each may do, what it does, and the lines of its state.
use Rattle.std.specs.Prelude.{ℕ, List, []}
use Rattle.action_profile.specs.declared.rights.Profile.{Profile}
use Rattle.chain_walk.specs.Shown.{Shown}
use Rattle.chain_walk.specs.Step.{Step, Behaviour}
use Rattle.packet_function.specs.Deciding.{Deciding}
use Rattle.nf_filter.specs.Firewalls.{firewall_behaviour, firewall_decides}
use Rattle.nf_translate.specs.Nats.{nat_behaviour, nat_decides, mapping_lines}
use Rattle.nf_translate.specs.Balancers.{balancer_behaviour, balancer_decides, flow_lines}
use Rattle.nf_observe.specs.Monitors.{monitor_behaviour, monitor_decides, monitor_text}
use Rattle.nf_observe.specs.Limiters.{limiter_behaviour, limiter_decides, limiter_text}
use Rattle.nf_mark.specs.Markers.{marker_behaviour, marker_decides}
use Rattle.nf_mark.specs.Hops.{hop_behaviour, hop_decides}
use Rattle.nf_mark.specs.Taggers.{tagger_behaviour, tagger_decides}
use Rattle.nf_mark.specs.Untaggers.{untagger_behaviour, untagger_decides}
use Rattle.nf_filter.specs.Signatures.{signature_behaviour, signature_decides}
use Rattle.nf_mark.specs.Nexthops.{nexthop_behaviour, nexthop_decides}
use Rattle.nf_mark.specs.Redactors.{redactor_behaviour, redactor_decides}
use Rattle.net_functions.specs.declared.net_function.NetFunction.{NetFunction}
use Rattle.net_functions.specs.declared.net_function.NetFunction.TheVariants.{Firewall, Nat, Balancer, Monitor, Limiter, Marker, Hop, Tagger, Untagger, Signature, Nexthop, Redactor}

-- the step of a function of one kind, as that of a function of any
abbrev pub as_any : {F G : Type 0} → (F → G) → Step F → Step G
as_any make told = record { after = make told.after; verdict = told.verdict; written = told.written }

unfoldable pub profile_by : NetFunction → Profile
profile_by (Firewall f) = firewall_behaviour.profile f
profile_by (Nat n) = nat_behaviour.profile n
profile_by (Balancer b) = balancer_behaviour.profile b
profile_by (Monitor m) = monitor_behaviour.profile m
profile_by (Limiter l) = limiter_behaviour.profile l
profile_by (Marker f) = marker_behaviour.profile f
profile_by (Hop f) = hop_behaviour.profile f
profile_by (Tagger f) = tagger_behaviour.profile f
profile_by (Untagger f) = untagger_behaviour.profile f
profile_by (Signature f) = signature_behaviour.profile f
profile_by (Nexthop f) = nexthop_behaviour.profile f
profile_by (Redactor f) = redactor_behaviour.profile f

unfoldable pub step_by : NetFunction → Shown → Step NetFunction
step_by (Firewall f) shown = as_any Firewall (firewall_behaviour.step f shown)
step_by (Nat n) shown = as_any Nat (nat_behaviour.step n shown)
step_by (Balancer b) shown = as_any Balancer (balancer_behaviour.step b shown)
step_by (Monitor m) shown = as_any Monitor (monitor_behaviour.step m shown)
step_by (Limiter l) shown = as_any Limiter (limiter_behaviour.step l shown)
step_by (Marker f) shown = as_any Marker (marker_behaviour.step f shown)
step_by (Hop f) shown = as_any Hop (hop_behaviour.step f shown)
step_by (Tagger f) shown = as_any Tagger (tagger_behaviour.step f shown)
step_by (Untagger f) shown = as_any Untagger (untagger_behaviour.step f shown)
step_by (Signature f) shown = as_any Signature (signature_behaviour.step f shown)
step_by (Nexthop f) shown = as_any Nexthop (nexthop_behaviour.step f shown)
step_by (Redactor f) shown = as_any Redactor (redactor_behaviour.step f shown)

-- how functions of any kind behave
abbrev pub net_behaviour : Behaviour NetFunction
net_behaviour = record { profile = profile_by; step = step_by }

-- the lines of its declaration that decide what a function does to a packet
unfoldable pub net_decides : Deciding NetFunction
net_decides (Firewall f) shown = firewall_decides f shown
net_decides (Nat n) shown = nat_decides n shown
net_decides (Balancer b) shown = balancer_decides b shown
net_decides (Monitor m) shown = monitor_decides m shown
net_decides (Limiter l) shown = limiter_decides l shown
net_decides (Marker f) shown = marker_decides f shown
net_decides (Hop f) shown = hop_decides f shown
net_decides (Tagger f) shown = tagger_decides f shown
net_decides (Untagger f) shown = untagger_decides f shown
net_decides (Signature f) shown = signature_decides f shown
net_decides (Nexthop f) shown = nexthop_decides f shown
net_decides (Redactor f) shown = redactor_decides f shown

-- the lines in which a function reports its state
unfoldable pub lines_of : NetFunction → List ℕ
lines_of (Firewall f) = []
lines_of (Nat n) = mapping_lines n
lines_of (Balancer b) = flow_lines b
lines_of (Monitor m) = monitor_text m
lines_of (Limiter l) = limiter_text l
lines_of (Marker f) = []
lines_of (Hop f) = []
lines_of (Tagger f) = []
lines_of (Untagger f) = []
lines_of (Signature f) = []
lines_of (Nexthop f) = []
lines_of (Redactor f) = []
