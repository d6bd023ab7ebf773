use Rattle.acc_table.proofs.Filling.{room_among, room_below}
use Rattle.acc_table.proofs.laws.open_packets_take_a_place_each.Goals as goal

pub returns : goal.returns
returns g c = record { among = room_among; below = room_below }
