use Rattle.std.proofs.Common.{sym, subst}
use Rattle.packet_fields.specs.Writing.{rest_of}
use Rattle.packet_version.specs.Parts.{Parts}
use Rattle.packet_version.specs.Splitting.{IsWhole, split_parts}
use Rattle.packet_version.proofs.Joining.{split_whole}
use Rattle.packet_version.proofs.Maps.{as_map-listed}
use Rattle.packet_version.proofs.PartsFitRest.{whole_to}
use Rattle.packet_version.proofs.laws.frames_come_apart.Goals as goal

pub returns-clause-parts : goal.returns-clause-parts
returns-clause-parts c = λ taggers time frame. as_map-listed (split_parts taggers frame)

pub returns-clause-fits : goal.returns-clause-fits
returns-clause-fits c = λ taggers time frame. subst (λ (m : Parts). IsWhole m (rest_of frame)) (sym (as_map-listed (split_parts taggers frame))) (whole_to (split_parts taggers frame) frame (split_whole taggers frame))
