-- The exit of a tunnel makes no frame longer.
use Rattle.std.proofs.Common.{◌≤◌, ◌+◌, ℕ, Bool, true, false, List, ◌++◌, length, take, drop, length-append, length-take, length-drop, arith}
use Rattle.std.specs.Prelude.{if◌then◌else◌}
use Rattle.packet_fields.specs.Frames.{packet}
use Rattle.packet_fields.specs.Packets.{header_len}
use Rattle.nf_tunnel.specs.Tunnels.{decapsulated, leaves, header_at}
use Rattle.nf_tunnel.specs.declared.decap.Decap.{Decap}

taken_out : (at n : ℕ) (frame : List ℕ) → length (take at frame ++ drop (at + n) frame) ≤ length frame
taken_out at n frame =
    let whole = length-append (take at frame) (drop (at + n) frame) in
    omega (arith, length-take at frame, length-drop (at + n) frame)

exit_by : (goes : Bool) (frame : List ℕ) → length (if goes then take (header_at frame) frame ++ drop (header_at frame + header_len (packet frame)) frame else frame) ≤ length frame + 20
exit_by true frame = let shorter = taken_out (header_at frame) (header_len (packet frame)) frame in omega arith
exit_by false frame = omega arith

pub exit_grows : (tunnel : Decap) (frame : List ℕ) → length (decapsulated tunnel frame) ≤ length frame + 20
exit_grows tunnel frame = exit_by (leaves tunnel (packet frame)) frame
