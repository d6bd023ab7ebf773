-- For proofs: functions with their names do what their profiles say, and no more.
use Rattle.std.proofs.Common.{ap}
use Rattle.chain_walk.specs.Laws.{KeepsProfile}
use Rattle.packet_function.specs.Deciding.{DecidesDrops}
use Rattle.net_functions.specs.NetDeciding.{net_decides_drops}
use Rattle.net_functions.specs.NetFunctionLaws.{net_keeps}
use Rattle.policy_chains.specs.NamedFunctions.{named_behaviour, named_decides}

pub named_keeps : KeepsProfile named_behaviour
named_keeps = record {
  stays = λ fixed f v. net_keeps.stays fixed f.function v;
  writes = λ fixed f v x h. net_keeps.writes fixed f.function v x h;
  drops = λ fixed f v h. net_keeps.drops fixed f.function v h;
  state = λ fixed f v h counted. ap (λ function. record f { function = function }) (net_keeps.state fixed f.function v h counted);
  lengths = λ fixed f v x other formed. net_keeps.lengths fixed f.function v x other formed;
  tags = λ fixed f v whole. net_keeps.tags fixed f.function v whole;
  adds = λ fixed f v h. net_keeps.adds fixed f.function v h;
  removes = λ fixed f v h. net_keeps.removes fixed f.function v h;
}

-- exactly one line decides on each packet that is dropped
pub named_decides_drops : DecidesDrops named_behaviour named_decides
named_decides_drops = record { one = λ fixed f v drops. net_decides_drops.one fixed f.function v drops }
