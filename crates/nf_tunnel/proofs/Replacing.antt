-- A frame that has other bytes from its IP header on.
use Rattle.std.proofs.Common.{◌≡◌, ◌≤◌, ◌<◌, ◌+◌, ◌*◌, ◌∙◌, ℕ, List, ◌++◌, length, take, drop, get_or, length-drop, length-append, length-take-le, true, false, sym, ap, arith, ⊎_elim}
use Rattle.std.specs.Prelude.{nat_le}
use Rattle.std.proofs.lemmas.Bool.{and_right, cases_lt}
use Rattle.std.proofs.lemmas.List.{append_assoc, get_or_append_left, get_or-take}
use Rattle.packet_fields.specs.Frames.{word, is_tpid, tags_len, begins_tag, packet_at, packet, tags_of, IsFramed}
use Rattle.packet_fields.specs.Packets.{is_ipv4}
use Rattle.packet_fields.proofs.Overwriting.{cong2}
use Rattle.packet_fields.proofs.TagWalk.{packet_at-long, packet_at-short, has_type}
use Rattle.packet_fields.proofs.Framing.{framed, parts}
use Rattle.packet_fields.proofs.RightSums.{cut_at}
use Rattle.packet_fields.proofs.Versions.{begins_ipv4}
use Rattle.nf_tunnel.specs.Tunnels.{header_at}

-- a frame with a packet has an EtherType
pub long_frame : (frame : List ℕ) → 2 < length (packet frame) → 14 ≤ length frame
long_frame frame room =
    ⊎_elim
    (λ (short : length frame < 14). absurd (omega (arith, packet_at-short frame short, length-drop (packet_at frame) frame)))
    (λ (long : 14 ≤ length frame). long)
    (cases_lt (length frame) 14)

-- up to the place of its IP header, the frame is captured
pub front_inside : (frame : List ℕ) → 2 < length (packet frame) → header_at frame ≤ length frame
front_inside frame room = (has_type frame (long_frame frame room)).room

pub length_front : (frame : List ℕ) → 2 < length (packet frame) → length (take (header_at frame) frame) ≡ header_at frame
length_front frame room = length-take-le (header_at frame) frame (front_inside frame room)

-- what is known about a frame that has other bytes from its IP header on
pub record Replaced (frame rest new : List ℕ) : Type 0 where
  pub place : packet_at new ≡ packet_at frame
  pub packet_is : packet new ≡ take 2 (packet frame) ++ rest

-- the EtherType of IPv4 is that of no tag
no_tag : (p rest : List ℕ) → 2 < length p → word p 0 ≡ 0x0800 → begins_tag (take 2 p ++ rest) ≡ false
no_tag p rest room kind =
    let q = take 2 p ++ rest in
    let two : length (take 2 p) ≡ 2 = length-take-le 2 p (omega arith) in
    let high : get_or q 0 0 ≡ get_or p 0 0 = get_or_append_left (take 2 p) rest 0 0 (omega arith) ∙ get_or-take 2 p 0 0 (omega arith) in
    let low : get_or q 1 0 ≡ get_or p 1 0 = get_or_append_left (take 2 p) rest 0 1 (omega arith) ∙ get_or-take 2 p 1 0 (omega arith) in
    let same : word q 0 ≡ 0x0800 = cong2 (λ (a b : ℕ). a * 256 + b) high low ∙ kind in
    and_right (nat_le 6 (length q)) (is_tpid (word q 0)) (ap (λ (n : ℕ). is_tpid n) same)

pub replaced : (frame rest : List ℕ) → is_ipv4 (packet frame) ≡ true → Replaced frame rest (take (header_at frame) frame ++ rest)
replaced frame rest there =
    let p = packet frame in
    let begins = begins_ipv4 p there in
    let long = long_frame frame begins.room in
    let f = framed frame long in
    let q = take 2 p ++ rest in
    let two : length (take 2 p) ≡ 2 = length-take-le 2 p (omega arith) in
    let front : take (header_at frame) frame ≡ (take 12 frame ++ tags_of frame) ++ take 2 p =
    cut_at (packet_at frame) 2 (header_at frame) frame (omega arith)
    ∙ ap (λ (xs : List ℕ). xs ++ take 2 p) (cut_at 12 (tags_len (drop 12 frame)) (packet_at frame) frame (omega (arith, packet_at-long frame long))) in
    let joined : take (header_at frame) frame ++ rest ≡ take 12 frame ++ (tags_of frame ++ q) =
    ap (λ (xs : List ℕ). xs ++ rest) front ∙ (append_assoc (take 12 frame ++ tags_of frame) (take 2 p) rest ∙ append_assoc (take 12 frame) (tags_of frame) q) in
    let new : IsFramed (take 12 frame) (tags_of frame) q (take (header_at frame) frame ++ rest) = record {
      joined = joined;
      addresses_len = f.addresses_len;
      whole_tags = f.whole_tags;
      has_type = omega (arith, length-append (take 2 p) rest, two);
      ends = no_tag p rest begins.room begins.kind;
    } in
    let old_parts = parts (take 12 frame) (tags_of frame) p frame f in
    let new_parts = parts (take 12 frame) (tags_of frame) q (take (header_at frame) frame ++ rest) new in
    record { place = new_parts.place ∙ sym old_parts.place; packet_is = new_parts.packet_is }
