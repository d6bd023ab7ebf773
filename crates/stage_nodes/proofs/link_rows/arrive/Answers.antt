use Rattle.stage_nodes.proofs.Gathering.{needs, one_came}
use Rattle.stage_nodes.proofs.link_rows.arrive.Goals as goal

pub arrive-requires-clause-first : goal.arrive-requires-clause-first
arrive-requires-clause-first c = (needs _ _ _ _ _ c.open_packets_take_a_place_each.ensures.among c.requires.may.1).free

pub arrive-requires-clause-room : goal.arrive-requires-clause-room
arrive-requires-clause-room c = (needs _ _ _ _ _ c.open_packets_take_a_place_each.ensures.among c.requires.may.1).room

pub returns-clause-come : goal.returns-clause-come
returns-clause-come c = λ come may. one_came come _ _ _ _ _ _ _ _ may c.arrive.ensures.complete c.arrive.ensures.values c.arrive.ensures.no_values c.arrive.ensures.arrived c.arrive.ensures.still_open c.arrive.ensures.others_open c.arrive.ensures.entries c.arrive.ensures.branches
