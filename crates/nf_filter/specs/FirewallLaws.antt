-- For proofs: a firewall does what its profile says, and no more, and one line decides on each drop.
use Rattle.std.specs.Prelude.{refl}
use Rattle.chain_walk.specs.Laws.{KeepsProfile}
use Rattle.packet_function.specs.Deciding.{DecidesDrops}
use Rattle.nf_filter.specs.Firewalls.{firewall_behaviour, firewall_decides}

pub firewall_keeps : KeepsProfile firewall_behaviour
firewall_keeps = record {
  stays = λ fixed f v. refl;
  writes = λ fixed f v x h. refl;
  drops = λ fixed f v h. absurd cc;
  state = λ fixed f v h counted. refl;
  lengths = λ fixed f v x other old. tt;
  tags = λ fixed f v old. tt;
  adds = λ fixed f v h. absurd cc;
  removes = λ fixed f v h. absurd cc;
}

pub firewall_decides_drops : DecidesDrops firewall_behaviour firewall_decides
firewall_decides_drops = record { one = λ fixed f v drops. refl }
