-- Believed: which function a policy declares, and the result of making it.
use Rattle.std.specs.Prelude.{◌≡◌, ℕ, List, Option, Some, None, Result, Ok, Err}
use Rattle.action_profile.specs.declared.kind.Kind.{Kind}
use Rattle.action_profile.specs.declared.kind.Kind.TheVariants as kinds
use Rattle.policy_text.specs.declared.fault.BuildFault.{BuildFault}
use Rattle.policy_text.specs.declared.fault.BuildFault.TheVariants.{BadSetting, OutOfMemory}
use Rattle.policy_text.specs.declared.policy.FunctionDecl.{FunctionDecl}
use Rattle.function_lines.specs.KindLines.{KindLines, said_by, refused_line as refused_line_of}
use Rattle.nf_filter.specs.Lines.{firewall_lines}
use Rattle.nf_filter.specs.Firewalls.{firewall_by}
use Rattle.nf_translate.specs.NatLines.{nat_lines}
use Rattle.nf_translate.specs.Nats.{nat_by}
use Rattle.nf_translate.specs.BalancerLines.{balancer_lines}
use Rattle.nf_translate.specs.Balancers.{balancer_by}
use Rattle.nf_observe.specs.Monitors.{monitor_lines, monitor_by}
use Rattle.nf_observe.specs.LimiterLines.{limiter_lines}
use Rattle.nf_observe.specs.Limiters.{limiter_by}
use Rattle.nf_mark.specs.NoLines.{no_lines}
use Rattle.nf_mark.specs.MarkerLines.{marker_lines}
use Rattle.nf_mark.specs.Markers.{marker_by}
use Rattle.nf_mark.specs.Hops.{hop_by}
use Rattle.nf_mark.specs.TaggerLines.{tagger_lines}
use Rattle.nf_mark.specs.Taggers.{tagger_by}
use Rattle.nf_mark.specs.Untaggers.{untagger_by}
use Rattle.patterns.specs.Lines.{pattern_lines}
use Rattle.nf_filter.specs.Signatures.{signature_by}
use Rattle.nf_mark.specs.NexthopLines.{nexthop_lines}
use Rattle.nf_mark.specs.Nexthops.{nexthop_by}
use Rattle.nf_mark.specs.Redactors.{redactor_by}
use Rattle.nf_tunnel.specs.TunnelLines.{entry_lines, exit_lines}
use Rattle.nf_tunnel.specs.Ends.{encap_by, decap_by}
use Rattle.net_functions.specs.declared.net_function.NetFunction.{NetFunction}
use Rattle.net_functions.specs.declared.net_function.NetFunction.TheVariants.{Firewall, Nat, Balancer, Monitor, Limiter, Marker, Hop, Tagger, Untagger, Signature, Nexthop, Redactor}
use Rattle.net_functions.specs.declared.making.Made.{Made}
use Rattle.net_functions.specs.declared.making.Made.TheVariants.{Function, Encap, Decap}

-- What is made of the declarations of a kind: the least line that one refuses, and the function that it declares.
pub record Making : Type 0 where
  pub refused : FunctionDecl → Option ℕ
  pub made : FunctionDecl → Made

-- a kind with these lines, whose functions are made of what the lines say
abbrev pub of_lines : {L F : Type 0} → KindLines L → (List L → F) → (F → Made) → Making
of_lines lines by make = record { refused = λ decl. refused_line_of lines decl; made = λ decl. make (by (said_by lines decl.settings)) }

-- how the functions of a kind are made
unfoldable pub making_of : Kind → Making
making_of kinds.Firewall = of_lines firewall_lines firewall_by (λ f. Function (Firewall f))
making_of kinds.Nat = of_lines nat_lines nat_by (λ f. Function (Nat f))
making_of kinds.Balancer = of_lines balancer_lines balancer_by (λ f. Function (Balancer f))
making_of kinds.Monitor = of_lines monitor_lines monitor_by (λ f. Function (Monitor f))
making_of kinds.Limiter = of_lines limiter_lines limiter_by (λ f. Function (Limiter f))
making_of kinds.Marker = of_lines marker_lines marker_by (λ f. Function (Marker f))
making_of kinds.Hop = of_lines no_lines hop_by (λ f. Function (Hop f))
making_of kinds.Tagger = of_lines tagger_lines tagger_by (λ f. Function (Tagger f))
making_of kinds.Untagger = of_lines no_lines untagger_by (λ f. Function (Untagger f))
making_of kinds.Signature = of_lines pattern_lines signature_by (λ f. Function (Signature f))
making_of kinds.Nexthop = of_lines nexthop_lines nexthop_by (λ f. Function (Nexthop f))
making_of kinds.Redactor = of_lines pattern_lines redactor_by (λ f. Function (Redactor f))
making_of kinds.Encap = of_lines entry_lines encap_by (λ f. Encap f)
making_of kinds.Decap = of_lines exit_lines decap_by (λ f. Decap f)

-- the function that is declared
abbrev pub function_of : FunctionDecl → Made
function_of decl = (making_of decl.kind).made decl

-- the least line of a declaration that is refused, none if each is accepted
abbrev pub refused_line : FunctionDecl → Option ℕ
refused_line decl = (making_of decl.kind).refused decl

-- the function that is declared, if no line is refused, or the least refused line; it may run out of memory
abbrev pub Builds : FunctionDecl → Result Made BuildFault → Type 0
Builds decl (Ok f) = (refused_line decl ≡ None) × (f ≡ function_of decl)
Builds decl (Err (BadSetting line)) = refused_line decl ≡ Some line
Builds decl (Err OutOfMemory) = Unit {0}

-- the same answer, if it is known that no end of a tunnel is declared
abbrev pub as_made : Result NetFunction BuildFault → Result Made BuildFault
as_made (Ok f) = Ok (Function f)
as_made (Err fault) = Err fault
