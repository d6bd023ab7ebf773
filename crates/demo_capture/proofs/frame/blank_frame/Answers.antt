use Rattle.demo_capture.proofs.Putting.{blank_is}
use Rattle.demo_capture.proofs.frame.blank_frame.Goals as goal

pub returns : goal.returns
returns c =
    blank_is c.args.draws c.in_ok-bytes.bytes.items c.extend_from_slice.new.self.items c.extend_from_slice-2.new.self.items c.push_transport.new.bytes.items c.push_payload.new.bytes.items c.ip_header.result
    c.in_ok-bytes.ensures.items c.in_ok-extend_from_slice.ensures.items c.ip_header.ensures c.in_ok-extend_from_slice-2.ensures.items c.in_ok-push_transport.ensures c.in_ok-push_payload.ensures
