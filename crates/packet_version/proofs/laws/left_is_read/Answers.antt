use Rattle.std.specs.Prelude.{option_map}
use Rattle.packet_version.specs.Lending.{edited}
use Rattle.packet_version.specs.Views.{seen_parts}
use Rattle.packet_version.proofs.Lawful.{wrote_alone}
use Rattle.packet_version.proofs.laws.left_is_read.Goals as goal

pub returns : goal.returns
returns c = λ view f bytes. wrote_alone view f (option_map (edited bytes view.position) (seen_parts view f))
