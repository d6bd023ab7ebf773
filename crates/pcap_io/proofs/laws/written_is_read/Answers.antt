use Rattle.pcap_io.proofs.Spelling.{capture_again}
use Rattle.pcap_io.proofs.laws.written_is_read.Goals as goal

pub returns : goal.returns
returns c = capture_again
