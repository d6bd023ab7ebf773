-- For proofs: what a balancer's flows and a translation's mappings guarantee, in other words than their steps.
use Rattle.std.specs.Prelude.{◌≡◌, ◌≤◌, ◌+◌, true, length, All}
use Rattle.std.specs.declared.net.ip_addr.IpAddr.{IpAddr}
use Rattle.nf_translate.specs.declared.balancer.BalancerSettings.{BalancerSettings}
use Rattle.nf_translate.specs.declared.client.Client.{Client}
use Rattle.nf_translate.specs.Addresses.{ip_address_bytes, is_same_version}
use Rattle.nf_translate.specs.Clients.{is_known, place_of}
use Rattle.nf_translate.specs.Balancers.{PlainBalancer, backend_at}
use Rattle.nf_translate.specs.Nats.{PlainNat}

-- the backend of a flow
abbrev pub backend_of : PlainBalancer → Client → IpAddr
backend_of b flow = backend_at b.settings (place_of b.flows flow)

-- A flow is known to a balancer that results from this one, and has the backend that it had.
pub record KeepsBackend (flow : Client) (b later : PlainBalancer) : Type 0 where
  pub known : is_known later.flows flow ≡ true
  pub backend : backend_of later flow ≡ backend_of b flow

-- Every backend is of the version of the virtual address, and has as many bytes.
pub record HasOneVersion (s : BalancerSettings) : Type 0 where
  pub version : All (λ backend. is_same_version s.virtual_address backend ≡ true) s.backends
  pub bytes : All (λ backend. length (ip_address_bytes backend) ≡ length (ip_address_bytes s.virtual_address)) s.backends

-- each mapping has a public port among those that are set
abbrev pub HasPorts : PlainNat → Type 0
HasPorts n = n.settings.low + length n.mappings ≤ n.settings.high + 1
