-- For proofs: what a translation and a balancer do with a packet, by the lines that decide on it.
use Rattle.std.specs.Prelude.{◌≡◌, ◌≤◌, ℕ, List, [], ◌∷◌, slice_get, Some, None}
use Rattle.std.specs.declared.net.ip_addr.IpAddr.{IpAddr}
use Rattle.packet_fields.specs.declared.field.Field.{Field}
use Rattle.packet_fields.specs.declared.field.Field.TheVariants.{DstIp}
use Rattle.chain_walk.specs.Shown.{Values}
use Rattle.chain_walk.specs.Step.{Step}
use Rattle.chain_walk.specs.declared.verdict.Verdict.TheVariants.{Pass}
use Rattle.packet_function.specs.declared.deciding.DecidingLine.{DecidingLine}
use Rattle.packet_function.specs.declared.deciding.DecidingLine.TheVariants as deciding
use Rattle.packet_function.specs.declared.deciding.SettingKey.TheVariants as keys
use Rattle.nf_translate.specs.declared.balancer.BalancerSettings.{BalancerSettings}
use Rattle.nf_translate.specs.declared.endpoint.Endpoint.{Endpoint}
use Rattle.nf_translate.specs.Addresses.{ip_address_bytes}
use Rattle.nf_translate.specs.Nats.{PlainNat, from, to, passed, dropped}

-- The packet passes, and its source is the public address with one of the ports that are set. Nothing else is written.
pub record GoesOut (n : PlainNat) (step : Step PlainNat) : Type 0 where
  pub port : ℕ
  pub least : n.settings.low ≤ port
  pub most : port ≤ n.settings.high
  pub passes : step.verdict ≡ Pass
  pub source : step.written ≡ from n.settings.public_address port

-- The packet passes, and its destination is an endpoint inside. Nothing else is written.
pub record ComesIn (step : Step PlainNat) : Type 0 where
  pub inside : Endpoint
  pub passes : step.verdict ≡ Pass
  pub destination : step.written ≡ to inside.address inside.port

-- What a translation does with a packet on which these lines decide; no other lines do.
abbrev pub DoesAs : PlainNat → List DecidingLine → Step PlainNat → Type 0
DoesAs n [] step = step ≡ passed n
DoesAs n (deciding.Set keys.Inside ∷ []) step = GoesOut n step
DoesAs n (deciding.Set keys.Ports ∷ []) step = step ≡ dropped n
DoesAs n (deciding.Set keys.Public ∷ []) step = ComesIn step
DoesAs n (deciding.Declaration ∷ []) step = step ≡ dropped n
DoesAs n lines step = ⊥

-- The address of the backend at this place among the `rule backend` lines is written as the destination.
pub record IsSentTo (s : BalancerSettings) (place : ℕ) (written : Values) : Type 0 where
  pub backend : IpAddr
  pub listed : slice_get s.backends place ≡ Some backend
  pub destination : written DstIp ≡ Some (ip_address_bytes backend)

-- What a balancer writes into a packet on which these lines decide; no other lines do.
abbrev pub WritesAs : BalancerSettings → List DecidingLine → Values → Type 0
WritesAs s [] written = (f : Field) → written f ≡ None
WritesAs s (deciding.Rule place ∷ []) written = IsSentTo s place written
WritesAs s lines written = ⊥
