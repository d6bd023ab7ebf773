use Rattle.packet_version.proofs.Lawful.{written_twice, parts_written}
use Rattle.packet_version.proofs.laws.later_write_stands_over.Goals as goal

pub returns : goal.returns
returns c = record { both = λ view first later. written_twice view first later; parts = λ view new f. parts_written view new f }
