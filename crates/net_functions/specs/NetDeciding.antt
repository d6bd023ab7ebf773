-- For proofs: exactly one line decides on each packet that a function of any kind drops.
use Rattle.std.specs.Prelude.{◌≡◌, ℕ, true, length}
use Rattle.chain_walk.specs.Shown.{Values}
use Rattle.chain_walk.specs.Step.{stepped, is_drop}
use Rattle.chain_walk.specs.declared.fixed.Fixed.{Fixed}
use Rattle.packet_function.specs.Deciding.{DecidesDrops, decided}
use Rattle.nf_filter.specs.FirewallLaws.{firewall_decides_drops}
use Rattle.nf_translate.specs.NatLaws.{nat_decides_drops}
use Rattle.nf_translate.specs.BalancerLaws.{balancer_decides_drops}
use Rattle.nf_observe.specs.MonitorLaws.{monitor_decides_drops}
use Rattle.nf_observe.specs.LimiterLaws.{limiter_decides_drops}
use Rattle.nf_mark.specs.MarkerLaws.{marker_decides_drops}
use Rattle.nf_mark.specs.HopLaws.{hop_decides_drops}
use Rattle.nf_mark.specs.TaggerLaws.{tagger_decides_drops}
use Rattle.nf_mark.specs.UntaggerLaws.{untagger_decides_drops}
use Rattle.nf_filter.specs.SignatureLaws.{signature_decides_drops}
use Rattle.nf_mark.specs.NexthopLaws.{nexthop_decides_drops}
use Rattle.nf_mark.specs.RedactorLaws.{redactor_decides_drops}
use Rattle.net_functions.specs.NetFunctions.{net_behaviour, net_decides, profile_by, step_by}
use Rattle.net_functions.specs.declared.net_function.NetFunction.{NetFunction}
use Rattle.net_functions.specs.declared.net_function.NetFunction.TheVariants.{Firewall, Nat, Balancer, Monitor, Limiter, Marker, Hop, Tagger, Untagger, Signature, Nexthop, Redactor}

-- kind by kind
one_decides : (fixed : Fixed) (f : NetFunction) (v : Values) → is_drop (stepped net_behaviour fixed f v).verdict ≡ true → length (decided net_behaviour net_decides fixed f v) ≡ 1
unfolding profile_by step_by net_decides
one_decides fixed (Firewall f) v drops = firewall_decides_drops.one fixed f v drops
one_decides fixed (Nat f) v drops = nat_decides_drops.one fixed f v drops
one_decides fixed (Balancer f) v drops = balancer_decides_drops.one fixed f v drops
one_decides fixed (Monitor f) v drops = monitor_decides_drops.one fixed f v drops
one_decides fixed (Limiter f) v drops = limiter_decides_drops.one fixed f v drops
one_decides fixed (Marker f) v drops = marker_decides_drops.one fixed f v drops
one_decides fixed (Hop f) v drops = hop_decides_drops.one fixed f v drops
one_decides fixed (Tagger f) v drops = tagger_decides_drops.one fixed f v drops
one_decides fixed (Untagger f) v drops = untagger_decides_drops.one fixed f v drops
one_decides fixed (Signature f) v drops = signature_decides_drops.one fixed f v drops
one_decides fixed (Nexthop f) v drops = nexthop_decides_drops.one fixed f v drops
one_decides fixed (Redactor f) v drops = redactor_decides_drops.one fixed f v drops

pub net_decides_drops : DecidesDrops net_behaviour net_decides
net_decides_drops = record { one = one_decides }
