use Rattle.std.proofs.Common.{rules}
use Rattle.nf_tunnel.proofs.Seen.{src_ip_seen, dst_ip_seen, ttl_seen, tos_seen, protocol_seen, total_len_seen}
use Rattle.nf_tunnel.proofs.laws.the_outer_header_is_seen.Goals as goal

pub returns-clause-src_ip : goal.returns-clause-src_ip
returns-clause-src_ip c = λ frame changed. src_ip_seen c.args.entry frame (record { entry = search rules; exit = search rules }) changed

pub returns-clause-dst_ip : goal.returns-clause-dst_ip
returns-clause-dst_ip c = λ frame changed. dst_ip_seen c.args.entry frame (record { entry = search rules; exit = search rules }) changed

pub returns-clause-ttl : goal.returns-clause-ttl
returns-clause-ttl c = λ frame changed. ttl_seen c.args.entry frame (record { entry = search rules; exit = search rules }) changed

pub returns-clause-tos : goal.returns-clause-tos
returns-clause-tos c = λ frame changed. tos_seen c.args.entry frame (record { entry = search rules; exit = search rules }) changed

pub returns-clause-protocol : goal.returns-clause-protocol
returns-clause-protocol c = λ frame changed. protocol_seen c.args.entry frame (record { entry = search rules; exit = search rules }) changed

pub returns-clause-length : goal.returns-clause-length
returns-clause-length c = λ frame changed. total_len_seen c.args.entry frame (record { entry = search rules; exit = search rules }) changed
