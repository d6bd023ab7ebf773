use Rattle.packet_version.specs.Versions.{version_parts}
use Rattle.graph_run.proofs.Carried.{carried_on}
use Rattle.graph_run.proofs.RoomForTags.{adders_at, room_later}
use Rattle.graph_run.proofs.TurnsInBranch.{four_more}
use Rattle.graph_run.proofs.laws.versions_go_on.Goals as goal

pub returns-clause-written : goal.returns-clause-written
returns-clause-written g c = λ b chain whole touch low q f v keeps pos le is holds carried. carried_on b chain whole touch low q f v c.values_stay_well_formed.ensures.step keeps pos le is holds carried

pub returns-clause-later : goal.returns-clause-later
returns-clause-later g c = λ chain whole touch low high v le carried. record { made = carried.made; fixed = carried.fixed; formed = carried.formed; room = room_later chain low high (version_parts v) le carried.room }

pub returns-clause-room : goal.returns-clause-room
returns-clause-room g c = λ chain whole touch low q p v pos le is adds carried. four_more _ p.adds _ _ (adders_at chain q p pos is) adds (room_later chain low q (version_parts v) le carried.room)
