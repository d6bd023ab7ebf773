-- A checksum that is written in its place.
use Rattle.std.proofs.Common.{append_assoc, ◌≡◌, ◌≤◌, ◌+◌, ◌/◌, ◌%◌, ◌∙◌, ℕ, List, [], ◌++◌, length, Bool, true, false, ap, refl, arith}
use Rattle.std.specs.Prelude.{if◌then◌else◌, slice_set}
use Rattle.demo_capture.specs.declared.draws.Draws.{Draws}
use Rattle.demo_capture.specs.Draws.{is_tcp, payload_of}
use Rattle.demo_capture.specs.DemoFrames.{frame_with, ip_header, link_header, segment_with, tcp_header, udp_header}
use Rattle.demo_capture.proofs.Lengths.{length_frame, segment_long, segment_long_tcp}

-- a word that is written at a place
abbrev pub written : List ℕ → ℕ → ℕ → List ℕ
written bytes at word = slice_set (slice_set bytes at (word / 256)) (at + 1) (word % 256)

-- a frame with this checksum, of TCP or of UDP
abbrev frame_by : Bool → ℕ → Draws → List ℕ → List ℕ
frame_by b c r xs = link_header ++ ip_header r ++ ((if b then tcp_header c r else udp_header c r) ++ xs)

tcp_by : (b : Bool) (c : ℕ) (r : Draws) (xs : List ℕ) → b ≡ true → written (frame_by b 0 r xs) 50 c ≡ frame_by b c r xs
unfolding ip_header
tcp_by true c r xs is = refl
tcp_by false c r xs is = absurd (cc)

udp_by : (b : Bool) (c : ℕ) (r : Draws) (xs : List ℕ) → b ≡ false → written (frame_by b 0 r xs) 40 c ≡ frame_by b c r xs
unfolding ip_header
udp_by true c r xs is = absurd (cc)
udp_by false c r xs is = refl

pub put_tcp : (c : ℕ) (r : Draws) (frame : List ℕ) → frame ≡ frame_with 0 r → is_tcp r ≡ true → written frame 50 c ≡ frame_with c r
unfolding frame_with segment_with
put_tcp c r frame is tcp = ap (λ xs. written xs 50 c) is ∙ tcp_by (is_tcp r) c r (payload_of r) tcp

pub put_udp : (c : ℕ) (r : Draws) (frame : List ℕ) → frame ≡ frame_with 0 r → is_tcp r ≡ false → written frame 40 c ≡ frame_with c r
unfolding frame_with segment_with
put_udp c r frame is udp = ap (λ xs. written xs 40 c) is ∙ udp_by (is_tcp r) c r (payload_of r) udp

pub room_tcp : (r : Draws) (frame : List ℕ) → frame ≡ frame_with 0 r → is_tcp r ≡ true → 52 ≤ length frame
room_tcp r frame is tcp = omega (arith, ap (λ xs. length xs) is, length_frame 0 r, segment_long_tcp 0 r tcp)

pub room_udp : (r : Draws) (frame : List ℕ) → frame ≡ frame_with 0 r → 42 ≤ length frame
room_udp r frame is = omega (arith, ap (λ xs. length xs) is, length_frame 0 r, segment_long 0 r)

-- a frame piece by piece
pub blank_is : (r : Draws) (none first second third whole header : List ℕ) → none ≡ [] → first ≡ none ++ link_header → header ≡ ip_header r → second ≡ first ++ header
    → third ≡ second ++ (if is_tcp r then tcp_header 0 r else udp_header 0 r) → whole ≡ third ++ payload_of r → whole ≡ frame_with 0 r
unfolding frame_with segment_with
blank_is r none first second third whole header is_none is_first is_header is_second is_third is_whole =
    let t : List ℕ = if is_tcp r then tcp_header 0 r else udp_header 0 r in
    let one : first ≡ link_header = is_first ∙ ap (λ (xs : List ℕ). xs ++ link_header) is_none in
    let two : second ≡ link_header ++ ip_header r = is_second ∙ (ap (λ (xs : List ℕ). first ++ xs) is_header ∙ ap (λ (xs : List ℕ). xs ++ ip_header r) one) in
    let three : third ≡ (link_header ++ ip_header r) ++ t = is_third ∙ ap (λ (xs : List ℕ). xs ++ t) two in
    is_whole ∙ (ap (λ (xs : List ℕ). xs ++ payload_of r) three ∙ append_assoc (link_header ++ ip_header r) t (payload_of r))
