use Rattle.packet_version.specs.Splitting.{packet_parts}
use Rattle.packet_version.specs.Dealing.{dealt_parts, kept_parts}
use Rattle.packet_version.proofs.Maps.{as_map-listed}
use Rattle.packet_version.proofs.laws.dealt_is_read.Goals as goal

pub returns-clause-version : goal.returns-clause-version
returns-clause-version c = λ whole touch. as_map-listed (dealt_parts touch (packet_parts whole))

pub returns-clause-base : goal.returns-clause-base
returns-clause-base c = λ whole touches. as_map-listed (kept_parts touches (packet_parts whole))
