-- For proofs: to be of one flow is an equivalence.
use Rattle.std.specs.Prelude.{◌≡◌, ◌==◌, ℕ, true, Option, Some, None}
use Rattle.std.proofs.Common.{refl, ap, ◌∙◌}
use Rattle.std.specs.Cmp.{IsEquivalence, first_so, second_so}
use Rattle.std.specs.Hash.{HashWrites}
use Rattle.std.specs.Option.{option_eq, unwrap_or}
use Rattle.std.proofs.lemmas.Bool.{eqb-true}
use Rattle.first_sight.specs.SameAddress.{is_same_address}
use Rattle.first_sight.specs.HashedAddress.{endpoint_writes, same_endpoint_fed}
use Rattle.std.specs.Cmp.Lexicographic.{options_equiv}
use Rattle.std.proofs.lemmas.Cmp.{and_equiv, on_equiv, nat_eq_equiv}
use Rattle.first_sight.specs.SameAddressLaws.{same_address}
use Rattle.packet_function.specs.SameFlow.{is_same_endpoint, is_same_flow}
use Rattle.packet_function.specs.declared.flow.Endpoint.{Endpoint}
use Rattle.packet_function.specs.declared.flow.FiveTuple.{FiveTuple}

pub same_endpoint : IsEquivalence is_same_endpoint
same_endpoint = and_equiv (on_equiv (λ (e : Endpoint). e.address) same_address) (on_equiv (λ (e : Endpoint). e.port) (options_equiv nat_eq_equiv))

pub same_flow : IsEquivalence is_same_flow
same_flow = and_equiv (and_equiv (on_equiv (λ (t : FiveTuple). t.proto) nat_eq_equiv) (on_equiv (λ (t : FiveTuple). t.source) same_endpoint)) (on_equiv (λ (t : FiveTuple). t.destination) same_endpoint)

-- what a hasher is fed for an endpoint
abbrev pub flow_end_writes : Endpoint → HashWrites
flow_end_writes e = endpoint_writes e.address (unwrap_or e.port 0)

port_fed : (a b : Option ℕ) → option_eq ◌==◌ a b ≡ true → unwrap_or a 0 ≡ unwrap_or b 0
port_fed (Some a) (Some b) same = eqb-true a b same
port_fed (Some a) None same = absurd cc
port_fed None (Some b) same = absurd cc
port_fed None None same = refl

pub flow_end_alike : (a b : Endpoint) → is_same_endpoint a b ≡ true → flow_end_writes a ≡ flow_end_writes b
flow_end_alike a b same =
    same_endpoint_fed a.address b.address (unwrap_or a.port 0) (first_so (is_same_address a.address b.address) (option_eq ◌==◌ a.port b.port) same)
    ∙ ap (λ port. endpoint_writes b.address port) (port_fed a.port b.port (second_so (is_same_address a.address b.address) (option_eq ◌==◌ a.port b.port) same))
