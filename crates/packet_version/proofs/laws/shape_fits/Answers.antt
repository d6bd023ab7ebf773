use Rattle.packet_version.proofs.Shaping.{shaped_whole}
use Rattle.packet_version.proofs.laws.shape_fits.Goals as goal

pub returns : goal.returns
returns c = λ old new rest w s. shaped_whole old new rest w s
