use Rattle.why_call.proofs.GoodWhys.{ng_is_done, pcap_is_done}
use Rattle.why_call.proofs.laws.a_good_why_is_done.Goals as goal

pub returns-clause-pcap : goal.returns-clause-pcap
returns-clause-pcap c = pcap_is_done

pub returns-clause-ng : goal.returns-clause-ng
returns-clause-ng c = ng_is_done
