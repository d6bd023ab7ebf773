-- The length of a frame after the entry of a tunnel and after its exit, and what stays of it.
use Rattle.std.proofs.Common.{◌≡◌, ◌≢◌, ◌≤◌, ◌+◌, ◌∙◌, ℕ, List, ◌++◌, length, take, drop, length-drop, length-append, true, false, ap, arith, ⊎_elim}
use Rattle.std.proofs.lemmas.Bool.{cases_Bool}
use Rattle.std.proofs.lemmas.List.{take_at}
use Rattle.packet_fields.specs.Frames.{packet_at, packet}
use Rattle.packet_fields.specs.Packets.{header_len}
use Rattle.packet_fields.proofs.Versions.{begins_ipv4}
use Rattle.nf_tunnel.specs.declared.encap.Encap.{Encap}
use Rattle.nf_tunnel.specs.declared.decap.Decap.{Decap}
use Rattle.nf_tunnel.specs.OuterHeaders.{outer_header}
use Rattle.nf_tunnel.specs.Tunnels.{header_at, enters, encapsulated, leaves, decapsulated}
use Rattle.nf_tunnel.proofs.Headers.{entering, leaving}
use Rattle.nf_tunnel.proofs.Outer.{HasAddresses, length_outer}
use Rattle.nf_tunnel.proofs.Replacing.{front_inside, length_front}
use Rattle.nf_tunnel.proofs.Entering.{around_is, stays_out, went_in}
use Rattle.nf_tunnel.proofs.Leaving.{without_is, stays_in, went_out}

entry_longer : (tunnel : Encap) (frame : List ℕ) → HasAddresses tunnel → enters (packet frame) ≡ true → length (encapsulated tunnel frame) ≡ length frame + 20
entry_longer tunnel frame h test =
    let p = packet frame in
    let room = (begins_ipv4 p (entering p test).header.there).room in
    let front = take (header_at frame) frame in
    let behind = drop (header_at frame) frame in
    let outer = outer_header tunnel p in
    omega (arith, ap (λ (xs : List ℕ). length xs) (around_is tunnel frame test), length-append front (outer ++ behind), length-append outer behind, length_front frame room, front_inside frame room, length_outer tunnel p h, length-drop (header_at frame) frame)

pub entry_adds : (tunnel : Encap) (frame : List ℕ) → HasAddresses tunnel → encapsulated tunnel frame ≢ frame → length (encapsulated tunnel frame) ≡ length frame + 20
entry_adds tunnel frame h changed = entry_longer tunnel frame h (went_in tunnel frame changed)

-- a frame that enters is changed
pub entry_changes : (tunnel : Encap) (frame : List ℕ) → HasAddresses tunnel → enters (packet frame) ≡ true → encapsulated tunnel frame ≢ frame
entry_changes tunnel frame h test = λ same. absurd (omega (arith, entry_longer tunnel frame h test, ap (λ (xs : List ℕ). length xs) same))

pub entry_keeps : (tunnel : Encap) (frame : List ℕ) → take (header_at frame) (encapsulated tunnel frame) ≡ take (header_at frame) frame
entry_keeps tunnel frame =
    ⊎_elim
    (λ (test : enters (packet frame) ≡ true).
    let room = (begins_ipv4 (packet frame) (entering (packet frame) test).header.there).room in
    ap (λ (xs : List ℕ). take (header_at frame) xs) (around_is tunnel frame test)
    ∙ take_at (take (header_at frame) frame) (outer_header tunnel (packet frame) ++ drop (header_at frame) frame) (header_at frame) (length_front frame room))
    (λ (test : enters (packet frame) ≡ false). ap (λ (xs : List ℕ). take (header_at frame) xs) (stays_out tunnel frame test))
    (cases_Bool (enters (packet frame)))

pub exit_takes : (tunnel : Decap) (frame : List ℕ) → decapsulated tunnel frame ≢ frame → length (decapsulated tunnel frame) + 20 ≤ length frame
exit_takes tunnel frame changed =
    let test = went_out tunnel frame changed in
    let p = packet frame in
    let h = leaving tunnel p test in
    let room = (begins_ipv4 p h.there).room in
    let front = take (header_at frame) frame in
    let behind = drop (header_at frame + header_len p) frame in
    let least = h.least in
    let captured : header_len p + 2 ≤ length p = h.captured in
    omega (arith, ap (λ (xs : List ℕ). length xs) (without_is tunnel frame test), length-append front behind, length_front frame room, front_inside frame room, length-drop (header_at frame + header_len p) frame, length-drop (packet_at frame) frame, least, captured)

pub exit_keeps : (tunnel : Decap) (frame : List ℕ) → take (header_at frame) (decapsulated tunnel frame) ≡ take (header_at frame) frame
exit_keeps tunnel frame =
    ⊎_elim
    (λ (test : leaves tunnel (packet frame) ≡ true).
    let room = (begins_ipv4 (packet frame) (leaving tunnel (packet frame) test).there).room in
    ap (λ (xs : List ℕ). take (header_at frame) xs) (without_is tunnel frame test)
    ∙ take_at (take (header_at frame) frame) (drop (header_at frame + header_len (packet frame)) frame) (header_at frame) (length_front frame room))
    (λ (test : leaves tunnel (packet frame) ≡ false). ap (λ (xs : List ℕ). take (header_at frame) xs) (stays_in tunnel frame test))
    (cases_Bool (leaves tunnel (packet frame)))
