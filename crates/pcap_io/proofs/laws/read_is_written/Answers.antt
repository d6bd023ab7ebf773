use Rattle.pcap_io.proofs.Reading.{capture_spelled}
use Rattle.pcap_io.proofs.laws.read_is_written.Goals as goal

pub returns : goal.returns
returns c = capture_spelled
