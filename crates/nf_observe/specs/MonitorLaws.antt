-- For proofs: a monitor does what its profile says, and no more.
use Rattle.std.specs.Prelude.{refl}
use Rattle.chain_walk.specs.Laws.{KeepsProfile}
use Rattle.packet_function.specs.Deciding.{DecidesDrops}
use Rattle.nf_observe.specs.Monitors.{monitor_behaviour, monitor_decides}

pub monitor_keeps : KeepsProfile monitor_behaviour
monitor_keeps = record {
  stays = λ fixed m v. refl;
  writes = λ fixed m v x h. refl;
  drops = λ fixed m v h. refl;
  state = λ fixed m v h counted. absurd cc;
  lengths = λ fixed m v x other old. tt;
  tags = λ fixed m v old. tt;
  adds = λ fixed f v h. absurd cc;
  removes = λ fixed f v h. absurd cc;
}

-- it drops nothing
pub monitor_decides_drops : DecidesDrops monitor_behaviour monitor_decides
monitor_decides_drops = record { one = λ fixed m v drops. absurd cc }
