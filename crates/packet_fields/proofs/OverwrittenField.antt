-- A frame in which a field other than its tags was overwritten.
use Rattle.std.proofs.Common.{◌≡◌, ◌≢◌, ◌≤◌, ◌<◌, ◌+◌, ◌-◌, ◌*◌, ◌∙◌, ℕ, zero, suc, List, [], ◌∷◌, ◌++◌, length, take, drop, get_or, max, length-drop, length-append, Bool, true, false, ◌&&◌, sym, ap, refl, arith, subst, ⊎_elim, inl, inr}
use Rattle.std.specs.Prelude.{Option, Some, None, ⊤, option_map, if◌then◌else◌, nat_le}
use Rattle.std.proofs.lemmas.Bool.{cases_lt, leb-true}
use Rattle.std.proofs.lemmas.List.{drop-drop, append_assoc, take-append-le, drop-append-le, get_or-drop}
use Rattle.std.proofs.lemmas.Option.{MatchOption-at_some, none-some, same_Some}
use Rattle.packet_fields.specs.Frames.{word, begins_tag, tags_len, type_at, packet_at, packet, tags_of, IsFramed}
use Rattle.packet_fields.specs.Packets.{in_header, source_at, destination_at, ttl_at, segment_at}
use Rattle.packet_fields.specs.Fields.{span, value, bytes_at, packet_span, in_frame, moved, ether_type, layout_of, number_of}
use Rattle.packet_fields.specs.Writing.{overwritten}
use Rattle.packet_fields.specs.declared.field.Field.{Field}
use Rattle.packet_fields.specs.declared.field.Field.TheVariants.{LinkDst, LinkSrc, Tag, Tos, Ttl, SrcIp, DstIp, SrcPort, DstPort, Payload}
use Rattle.packet_fields.specs.declared.plan.Span.{Span}
use Rattle.packet_fields.specs.declared.plan.Layout.{Layout}
use Rattle.packet_fields.proofs.Numbers.{same_number}
use Rattle.packet_fields.proofs.TagWalk.{packet_at-long, packet_at-short}
use Rattle.packet_fields.proofs.Spans.{if_some, some_tags, found_inside}
use Rattle.packet_fields.proofs.Versions.{numbers, fields_end}
use Rattle.packet_fields.proofs.Overwriting.{length-overwritten, drop-overwritten, cong2}
use Rattle.packet_fields.proofs.Shapes.{SameShape, InBounds, bounds_at, inside_at, shape_kept, Apart, packet_value, packet_span-same, total_len-same, protocol-same, control_bits-same, header_sum_at-same, segment_sum_at-same}
use Rattle.packet_fields.proofs.Framing.{framed, parts}

-- a field of the packet
abbrev pub IsInPacket : Field → Type 0
IsInPacket LinkDst = ⊥
IsInPacket LinkSrc = ⊥
IsInPacket Tag = ⊥
IsInPacket f = ⊤

-- the bytes of a span of the packet are those of the span in the frame
pub bytes_moved : (frame : List ℕ) (a : ℕ) (s : Span) → bytes_at frame (moved a s) ≡ bytes_at (drop a frame) s
bytes_moved frame a s = ap (λ (xs : List ℕ). take s.len xs) (ap (λ (n : ℕ). drop n frame) (omega arith) ∙ sym (drop-drop s.at a frame))

value_moved : (frame : List ℕ) (a : ℕ) (o : Option Span) → option_map (bytes_at frame) (option_map (moved a) o) ≡ option_map (bytes_at (drop a frame)) o
value_moved frame a None = refl
value_moved frame a (Some s) = ap (λ (xs : List ℕ). Some xs) (bytes_moved frame a s)

pub value-packet : (f : Field) (frame : List ℕ) → IsInPacket f → value f frame ≡ packet_value f (packet frame)
value-packet LinkDst frame in_packet = absurd in_packet
value-packet LinkSrc frame in_packet = absurd in_packet
value-packet Tag frame in_packet = absurd in_packet
value-packet Tos frame in_packet = value_moved frame (packet_at frame) (packet_span Tos (packet frame))
value-packet Ttl frame in_packet = value_moved frame (packet_at frame) (packet_span Ttl (packet frame))
value-packet SrcIp frame in_packet = value_moved frame (packet_at frame) (packet_span SrcIp (packet frame))
value-packet DstIp frame in_packet = value_moved frame (packet_at frame) (packet_span DstIp (packet frame))
value-packet SrcPort frame in_packet = value_moved frame (packet_at frame) (packet_span SrcPort (packet frame))
value-packet DstPort frame in_packet = value_moved frame (packet_at frame) (packet_span DstPort (packet frame))
value-packet Payload frame in_packet = value_moved frame (packet_at frame) (packet_span Payload (packet frame))

-- where a span of the packet comes from
pub record InPacketAt (f : Field) (frame : List ℕ) (s : Span) : Type 0 where
  pub at : Span
  pub found : packet_span f (packet frame) ≡ Some at
  pub moved_is : s ≡ moved (packet_at frame) at
  pub long : 14 ≤ length frame
  pub behind : 12 ≤ packet_at frame
  pub from : 3 ≤ at.at

in_bounds-from : (f : Field) (p : List ℕ) (s : Span) → InBounds f p s → 3 ≤ s.at
in_bounds-from LinkDst p s b = absurd b
in_bounds-from LinkSrc p s b = absurd b
in_bounds-from Tag p s b = absurd b
in_bounds-from Tos p s b = let n = numbers p in omega arith
in_bounds-from Ttl p s b = let n = numbers p in omega arith
in_bounds-from SrcIp p s b = let n = numbers p in omega arith
in_bounds-from DstIp p s b = let n = numbers p in omega arith
in_bounds-from SrcPort p s b = let n = numbers p in omega arith
in_bounds-from DstPort p s b = let n = numbers p in omega arith
in_bounds-from Payload p s b = let n = numbers p in omega arith

map_found : (by : ℕ) (o : Option Span) (s : Span) → option_map (moved by) o ≡ Some s → (t : Span) × (o ≡ Some t) × (s ≡ moved by t)
map_found by None s is = absurd (none-some s is)
map_found by (Some t) s is = (t, refl, sym (same_Some (moved by t) s is))

packet_long : (f : Field) (frame : List ℕ) (t : Span) → packet_span f (packet frame) ≡ Some t → 14 ≤ length frame
packet_long f frame t is =
    let from = in_bounds-from f (packet frame) t (bounds_at f (packet frame) t is) in
    let inside = inside_at f (packet frame) t is in
    ⊎_elim (λ (short : length frame < 14). absurd (omega (arith, packet_at-short frame short, length-drop (packet_at frame) frame))) (λ (long : 14 ≤ length frame). long) (cases_lt (length frame) 14)

in_frame_at : (f : Field) (frame : List ℕ) (s : Span) → in_frame frame (packet_span f (packet frame)) ≡ Some s → InPacketAt f frame s
in_frame_at f frame s is =
    let m = map_found (packet_at frame) (packet_span f (packet frame)) s is in
    let long = packet_long f frame m.0 m.1 in
    let place = packet_at-long frame long in
    record { at = m.0; found = m.1; moved_is = m.2; long = long; behind = omega arith; from = in_bounds-from f (packet frame) m.0 (bounds_at f (packet frame) m.0 m.1) }

-- where the span of any field lies
abbrev pub LiesAt : Field → List ℕ → Span → Type 0
LiesAt LinkDst frame s = (s.at ≡ 0) × (s.len ≡ 6)
LiesAt LinkSrc frame s = (s.at ≡ 6) × (s.len ≡ 6)
LiesAt Tag frame s = (s.at ≡ 12) × (s.at + s.len ≡ packet_at frame)
LiesAt Tos frame s = InPacketAt Tos frame s
LiesAt Ttl frame s = InPacketAt Ttl frame s
LiesAt SrcIp frame s = InPacketAt SrcIp frame s
LiesAt DstIp frame s = InPacketAt DstIp frame s
LiesAt SrcPort frame s = InPacketAt SrcPort frame s
LiesAt DstPort frame s = InPacketAt DstPort frame s
LiesAt Payload frame s = InPacketAt Payload frame s

pub lies_at : (f : Field) (frame : List ℕ) (s : Span) → span f frame ≡ Some s → LiesAt f frame s
lies_at LinkDst frame s is = MatchOption-at_some ⊤ (λ s. LiesAt LinkDst frame s) s is (if_some (true && nat_le 6 (length frame)) (record { at = 0; len = 6 }) (λ (s : Span). LiesAt LinkDst frame s) (λ e. (refl, refl)))
lies_at LinkSrc frame s is = MatchOption-at_some ⊤ (λ s. LiesAt LinkSrc frame s) s is (if_some (true && nat_le 12 (length frame)) (record { at = 6; len = 6 }) (λ (s : Span). LiesAt LinkSrc frame s) (λ e. (refl, refl)))
lies_at Tag frame s is = MatchOption-at_some ⊤ (λ s. LiesAt Tag frame s) s is (some_tags frame (λ (s : Span). LiesAt Tag frame s) (λ long. (refl, omega (arith, packet_at-long frame long))))
lies_at Tos frame s is = in_frame_at Tos frame s is
lies_at Ttl frame s is = in_frame_at Ttl frame s is
lies_at SrcIp frame s is = in_frame_at SrcIp frame s is
lies_at DstIp frame s is = in_frame_at DstIp frame s is
lies_at SrcPort frame s is = in_frame_at SrcPort frame s is
lies_at DstPort frame s is = in_frame_at DstPort frame s is
lies_at Payload frame s is = in_frame_at Payload frame s is

-- where each field of a frame lies, if its packet begins at `a` and has these places in its header and this segment
abbrev from : ℕ → ℕ → ℕ → ℕ → ℕ → List ℕ
from a ttl source destination s = 0 ∷ 6 ∷ 12 ∷ (a + 3) ∷ (a + ttl) ∷ (a + source) ∷ (a + destination) ∷ (a + s) ∷ (a + s + 2) ∷ (a + s + 8) ∷ []

-- the same for a packet
abbrev from_of : ℕ → List ℕ → List ℕ
from_of a p = from a (in_header (ttl_at p)) (in_header (source_at p)) (in_header (destination_at p)) (max (fields_end p) (segment_at p))

abbrev Rises : ℕ → List ℕ → Type 0
Rises low [] = ⊤
Rises low (x ∷ xs) = (low ≤ x) × Rises x xs

over_low : (low : ℕ) (xs : List ℕ) (m : ℕ) → Rises low xs → m < length xs → low ≤ get_or xs m 0
over_low low [] m rises inside = absurd (omega arith)
over_low low (x ∷ xs) zero rises inside = rises.0
over_low low (x ∷ xs) (suc m) rises inside = let first = rises.0 in let more = over_low x xs m rises.1 (omega arith) in omega arith

risen : (low : ℕ) (xs : List ℕ) (n m : ℕ) → Rises low xs → n ≤ m → m < length xs → get_or xs n 0 ≤ get_or xs m 0
risen low [] n m rises before inside = absurd (omega arith)
risen low (x ∷ xs) zero zero rises before inside = omega arith
risen low (x ∷ xs) (suc n) zero rises before inside = absurd (omega arith)
risen low (x ∷ xs) zero (suc m) rises before inside = over_low x xs m rises.1 (omega arith)
risen low (x ∷ xs) (suc n) (suc m) rises before inside = risen x xs n m rises.1 (omega arith) (omega arith)

from_rises : (a : ℕ) (p : List ℕ) → 12 ≤ a → Rises 0 (from_of a p)
from_rises a p behind = let n = numbers p in (omega arith, (omega arith, (omega arith, (omega arith, (omega arith, (omega arith, (omega arith, (omega arith, (omega arith, (omega arith, tt))))))))))

-- where a field of the packet lies among these places
in_packet_between : (f : Field) (p : List ℕ) (s : Span) (a : ℕ) → InBounds f p s → (get_or (from_of a p) (number_of f) 0 ≤ s.at + a) × (number_of f < 9 → s.at + s.len + a ≤ get_or (from_of a p) (suc (number_of f)) 0) × (number_of f < 10)
in_packet_between LinkDst p s a b = absurd b
in_packet_between LinkSrc p s a b = absurd b
in_packet_between Tag p s a b = absurd b
in_packet_between Tos p s a b = let n = numbers p in (omega arith, λ _. omega arith, omega arith)
in_packet_between Ttl p s a b = let n = numbers p in (omega arith, λ _. omega arith, omega arith)
in_packet_between SrcIp p s a b = let n = numbers p in (omega arith, λ _. omega arith, omega arith)
in_packet_between DstIp p s a b = let n = numbers p in (omega arith, λ _. omega arith, omega arith)
in_packet_between SrcPort p s a b = let n = numbers p in (omega arith, λ _. omega arith, omega arith)
in_packet_between DstPort p s a b = let n = numbers p in (omega arith, λ _. omega arith, omega arith)
in_packet_between Payload p s a b = (omega arith, λ last. absurd (omega arith), omega arith)

-- where a field of a frame lies among these places
abbrev places_of : List ℕ → List ℕ
places_of frame = from_of (max 12 (packet_at frame)) (packet frame)

record Between (f : Field) (frame : List ℕ) (s : Span) : Type 0 where
  pub begins : get_or (places_of frame) (number_of f) 0 ≤ s.at
  pub ends : number_of f < 9 → s.at + s.len ≤ get_or (places_of frame) (suc (number_of f)) 0
  pub small : number_of f < 10

packet_between : (f : Field) (frame : List ℕ) (s : Span) → InPacketAt f frame s → Between f frame s
packet_between f frame s b =
    let k = in_packet_between f (packet frame) b.at (packet_at frame) (bounds_at f (packet frame) b.at b.found) in
    let is : max 12 (packet_at frame) ≡ packet_at frame = omega arith in
    let at_is = ap (λ (s : Span). s.at) b.moved_is in
    let len_is = ap (λ (s : Span). s.len) b.moved_is in
    record {
      begins = rw is (let h = k.0 in omega arith);
      ends = λ first. rw is (let h = k.1 first in omega arith);
      small = k.2;
    }

between : (f : Field) (frame : List ℕ) (s : Span) → LiesAt f frame s → Between f frame s
between LinkDst frame s b = record { begins = omega arith; ends = λ _. omega arith; small = omega arith }
between LinkSrc frame s b = record { begins = omega arith; ends = λ _. omega arith; small = omega arith }
between Tag frame s b = record { begins = omega arith; ends = λ _. omega arith; small = omega arith }
between Tos frame s b = packet_between Tos frame s b
between Ttl frame s b = packet_between Ttl frame s b
between SrcIp frame s b = packet_between SrcIp frame s b
between DstIp frame s b = packet_between DstIp frame s b
between SrcPort frame s b = packet_between SrcPort frame s b
between DstPort frame s b = packet_between DstPort frame s b
between Payload frame s b = packet_between Payload frame s b

before : (f g : Field) (frame : List ℕ) (s t : Span) → number_of f < number_of g → Between f frame s → Between g frame t → s.at + s.len ≤ t.at
before f g frame s t first b c =
    let small = c.small in
    let ends = b.ends (omega arith) in
    let begins = c.begins in
    let rises = from_rises (max 12 (packet_at frame)) (packet frame) (omega arith) in
    let later = risen 0 (places_of frame) (suc (number_of f)) (number_of g) rises (omega arith) small in
    omega arith

-- two fields of a frame lie apart
pub apart_in_frame : (f g : Field) (frame : List ℕ) (s t : Span) → f ≢ g → LiesAt f frame s → LiesAt g frame t → Apart s t
apart_in_frame f g frame s t differ b c =
    ⊎_elim
    (λ (first : number_of f < number_of g). inl (before f g frame s t first (between f frame s b) (between g frame t c)))
    (λ (later : number_of g ≤ number_of f).
    inr (before g f frame t s (let other : number_of f ≢ number_of g = λ e. differ (same_number f g e) in omega arith) (between g frame t c) (between f frame s b)))
    (cases_lt (number_of f) (number_of g))

-- overwriting in joined bytes
pub overwritten-front : (at : ℕ) (new xs ys : List ℕ) → at + length new ≤ length xs → overwritten at new (xs ++ ys) ≡ overwritten at new xs ++ ys
overwritten-front at new xs ys inside =
    let front : take at (xs ++ ys) ≡ take at xs = take-append-le at xs ys (omega arith) in
    let mid : drop at (xs ++ ys) ≡ drop at xs ++ ys = drop-append-le at xs ys (omega arith) in
    let back : drop (length new) (drop at xs ++ ys) ≡ drop (length new) (drop at xs) ++ ys = drop-append-le (length new) (drop at xs) ys (omega (arith, length-drop at xs)) in
    cong2 (λ (a b : List ℕ). a ++ (new ++ b)) front (ap (λ (zs : List ℕ). drop (length new) zs) mid ∙ back)
    ∙ (ap (λ (zs : List ℕ). take at xs ++ zs) (sym (append_assoc new (drop (length new) (drop at xs)) ys)) ∙ sym (append_assoc (take at xs) (new ++ drop (length new) (drop at xs)) ys))

pub overwritten-behind : (at : ℕ) (new xs ys : List ℕ) (n : ℕ) → n ≡ length xs + at → overwritten n new (xs ++ ys) ≡ xs ++ overwritten at new ys
overwritten-behind at new [] ys n is = let e : n ≡ at = omega arith in rw e refl
overwritten-behind at new (x ∷ xs) ys n is =
    let e : n ≡ suc (length xs + at) = omega arith in
    rw e (ap (λ (zs : List ℕ). x ∷ zs) (overwritten-behind at new xs ys (length xs + at) refl))

-- which of a frame's places stay
pub record KeepsPlaces (frame new : List ℕ) : Type 0 where
  pub len : length new ≡ length frame
  pub place : packet_at new ≡ packet_at frame
  pub type_place : type_at new ≡ type_at frame
  pub shape : SameShape (packet frame) (packet new)

pub same_shape : (p q : List ℕ) → q ≡ p → SameShape p q
same_shape p q is = record {
  len = ap (λ (xs : List ℕ). length xs) is;
  byte0 = ap (λ (xs : List ℕ). get_or xs 0 0) is;
  byte1 = ap (λ (xs : List ℕ). get_or xs 1 0) is;
  byte2 = ap (λ (xs : List ℕ). get_or xs 2 0) is;
  byte4 = ap (λ (xs : List ℕ). get_or xs 4 0) is;
  byte5 = ap (λ (xs : List ℕ). get_or xs 5 0) is;
  byte6 = ap (λ (xs : List ℕ). get_or xs 6 0) is;
  byte7 = ap (λ (xs : List ℕ). get_or xs 7 0) is;
  byte8 = ap (λ (xs : List ℕ). get_or xs 8 0) is;
  byte9 = λ _. ap (λ (xs : List ℕ). get_or xs 9 0) is;
  byte11 = λ _. ap (λ (xs : List ℕ). get_or xs 11 0) is;
  offset = λ _ _. ap (λ (xs : List ℕ). get_or xs (segment_at p + 12) 0) is;
  control = λ _ _. ap (λ (xs : List ℕ). get_or xs (segment_at p + 13) 0) is;
  own_len = λ _ _. ap (λ (xs : List ℕ). word xs (segment_at p + 4)) is;
}

pub link_packet : (s : Span) (new frame : List ℕ) → length new ≡ s.len → s.at + s.len ≤ 12 → s.at + s.len ≤ length frame → packet (overwritten s.at new frame) ≡ packet frame
link_packet s new frame len front inside =
    let len_same = length-overwritten s.at new frame (omega arith) in
    let rest_same = drop-overwritten s.at new frame 12 (omega arith) (omega arith) in
    let place : packet_at (overwritten s.at new frame) ≡ packet_at frame = cong2 (λ (n : ℕ) (xs : List ℕ). if nat_le 14 n then tags_len xs + 12 else n) len_same rest_same in
    let behind : s.at + s.len ≤ packet_at frame =
    ⊎_elim (λ (short : length frame < 14). omega (arith, packet_at-short frame short)) (λ (long : 14 ≤ length frame). omega (arith, packet_at-long frame long)) (cases_lt (length frame) 14) in
    ap (λ (n : ℕ). drop n (overwritten s.at new frame)) place ∙ drop-overwritten s.at new frame (packet_at frame) (omega arith) (omega arith)

pub link_keeps : (s : Span) (new frame : List ℕ) → length new ≡ s.len → s.at + s.len ≤ 12 → s.at + s.len ≤ length frame → KeepsPlaces frame (overwritten s.at new frame)
link_keeps s new frame len front inside =
    let len_same = length-overwritten s.at new frame (omega arith) in
    let rest_same = drop-overwritten s.at new frame 12 (omega arith) (omega arith) in
    let place : packet_at (overwritten s.at new frame) ≡ packet_at frame = cong2 (λ (n : ℕ) (xs : List ℕ). if nat_le 14 n then tags_len xs + 12 else n) len_same rest_same in
    let behind : s.at + s.len ≤ packet_at frame =
    ⊎_elim (λ (short : length frame < 14). omega (arith, packet_at-short frame short)) (λ (long : 14 ≤ length frame). omega (arith, packet_at-long frame long)) (cases_lt (length frame) 14) in
    record {
      len = len_same;
      place = place;
      type_place = cong2 (λ (n : ℕ) (xs : List ℕ). if nat_le 14 n then Some (tags_len xs + 12) else None) len_same rest_same;
      shape = same_shape (packet frame) (packet (overwritten s.at new frame)) (ap (λ (n : ℕ). drop n (overwritten s.at new frame)) place ∙ drop-overwritten s.at new frame (packet_at frame) (omega arith) (omega arith));
    }

-- a field of the packet is overwritten in the packet
pub record WritesPacket (f : Field) (frame : List ℕ) (s : Span) (new : List ℕ) : Type 0 where
  pub source : InPacketAt f frame s
  pub framed_is : IsFramed (take 12 frame) (tags_of frame) (overwritten source.at.at new (packet frame)) (overwritten s.at new frame)

pub begins_tag-same : (p q : List ℕ) → SameShape p q → begins_tag q ≡ begins_tag p
begins_tag-same p q s = cc

pub writes_packet : (f : Field) (frame : List ℕ) (s : Span) (new : List ℕ) → InPacketAt f frame s → length new ≡ s.len → WritesPacket f frame s new
writes_packet f frame s new source len =
    let p = packet frame in
    let at = source.at in
    let f_is = framed frame source.long in
    let h = parts (take 12 frame) (tags_of frame) p frame f_is in
    let len_at : length new ≡ at.len = len ∙ ap (λ (s : Span). s.len) source.moved_is in
    let place : s.at ≡ length (take 12 frame ++ tags_of frame) + at.at = omega (arith, ap (λ (s : Span). s.at) source.moved_is, length-append (take 12 frame) (tags_of frame), f_is.addresses_len, h.place) in
    let shape = shape_kept f p at new source.found len_at in
    record {
      source = source;
      framed_is = record {
        joined = ap (λ (xs : List ℕ). overwritten s.at new xs) (f_is.joined ∙ sym (append_assoc (take 12 frame) (tags_of frame) p)) ∙ (overwritten-behind at.at new (take 12 frame ++ tags_of frame) p s.at place ∙ append_assoc (take 12 frame) (tags_of frame) (overwritten at.at new p));
        addresses_len = f_is.addresses_len;
        whole_tags = f_is.whole_tags;
        has_type = omega (arith, f_is.has_type, shape.len);
        ends = begins_tag-same p (overwritten at.at new p) shape ∙ f_is.ends;
      };
    }

pub packet_keeps : (f : Field) (s : Span) (new frame : List ℕ) → InPacketAt f frame s → length new ≡ s.len → s.at + s.len ≤ length frame → KeepsPlaces frame (overwritten s.at new frame)
packet_keeps f s new frame source len inside =
    let w = writes_packet f frame s new source len in
    let p = packet frame in
    let before = parts (take 12 frame) (tags_of frame) p frame (framed frame source.long) in
    let after = parts (take 12 frame) (tags_of frame) (overwritten w.source.at.at new p) (overwritten s.at new frame) w.framed_is in
    let len_at : length new ≡ w.source.at.len = len ∙ ap (λ (s : Span). s.len) w.source.moved_is in
    record {
      len = length-overwritten s.at new frame (omega arith);
      place = after.place ∙ sym before.place;
      type_place = after.type_place ∙ sym before.type_place;
      shape = subst (λ (q : List ℕ). SameShape p q) (sym after.packet_is) (shape_kept f p w.source.at new w.source.found len_at);
    }

pub keeps : (f : Field) (s : Span) (new frame : List ℕ) → f ≢ Tag → span f frame ≡ Some s → length new ≡ s.len → KeepsPlaces frame (overwritten s.at new frame)
keeps LinkDst s new frame no_tag is len = let l = lies_at LinkDst frame s is in link_keeps s new frame len (omega arith) (found_inside LinkDst frame s is)
keeps LinkSrc s new frame no_tag is len = let l = lies_at LinkSrc frame s is in link_keeps s new frame len (omega arith) (found_inside LinkSrc frame s is)
keeps Tag s new frame no_tag is len = absurd (no_tag refl)
keeps Tos s new frame no_tag is len = packet_keeps Tos s new frame (lies_at Tos frame s is) len (found_inside Tos frame s is)
keeps Ttl s new frame no_tag is len = packet_keeps Ttl s new frame (lies_at Ttl frame s is) len (found_inside Ttl frame s is)
keeps SrcIp s new frame no_tag is len = packet_keeps SrcIp s new frame (lies_at SrcIp frame s is) len (found_inside SrcIp frame s is)
keeps DstIp s new frame no_tag is len = packet_keeps DstIp s new frame (lies_at DstIp frame s is) len (found_inside DstIp frame s is)
keeps SrcPort s new frame no_tag is len = packet_keeps SrcPort s new frame (lies_at SrcPort frame s is) len (found_inside SrcPort frame s is)
keeps DstPort s new frame no_tag is len = packet_keeps DstPort s new frame (lies_at DstPort frame s is) len (found_inside DstPort frame s is)
keeps Payload s new frame no_tag is len = packet_keeps Payload s new frame (lies_at Payload frame s is) len (found_inside Payload frame s is)

-- the same places give the same spans and the same fixed values
pub in_frame-same : (f : Field) (frame new : List ℕ) → KeepsPlaces frame new → in_frame new (packet_span f (packet new)) ≡ in_frame frame (packet_span f (packet frame))
in_frame-same f frame new k = cong2 (λ (n : ℕ) (o : Option Span). option_map (moved n) o) k.place (packet_span-same f (packet frame) (packet new) k.shape)

pub span-same : (f : Field) (frame new : List ℕ) → KeepsPlaces frame new → span f new ≡ span f frame
span-same LinkDst frame new k = let e = k.len in cc
span-same LinkSrc frame new k = let e = k.len in cc
span-same Tag frame new k = ap (λ (o : Option ℕ). option_map (λ (t : ℕ). record { at = 12; len = t - 12 }) o) k.type_place
span-same Tos frame new k = in_frame-same Tos frame new k
span-same Ttl frame new k = in_frame-same Ttl frame new k
span-same SrcIp frame new k = in_frame-same SrcIp frame new k
span-same DstIp frame new k = in_frame-same DstIp frame new k
span-same SrcPort frame new k = in_frame-same SrcPort frame new k
span-same DstPort frame new k = in_frame-same DstPort frame new k
span-same Payload frame new k = in_frame-same Payload frame new k

ether_by : (b : Bool) (t : ℕ) (frame : List ℕ) (n : ℕ) → (b ≡ true → n ≡ t) → option_map (word frame) (if b then Some t else None) ≡ (if b then Some (word (drop n frame) 0) else None)
ether_by false t frame n same = refl
ether_by true t frame n same =
    ap (λ (x : ℕ). Some x) (cong2 (λ (a b : ℕ). a * 256 + b) (ap (λ (k : ℕ). get_or frame k 0) (omega (arith, same refl)) ∙ sym (get_or-drop n frame 0 0)) (ap (λ (k : ℕ). get_or frame k 0) (omega (arith, same refl)) ∙ sym (get_or-drop n frame 1 0)))

pub ether_type-packet : (frame : List ℕ) → ether_type frame ≡ (if nat_le 14 (length frame) then Some (word (packet frame) 0) else None)
ether_type-packet frame = ether_by (nat_le 14 (length frame)) (tags_len (drop 12 frame) + 12) frame (packet_at frame) (λ long. packet_at-long frame (leb-true 14 (length frame) long))

pub ether_type-same : (frame new : List ℕ) → KeepsPlaces frame new → ether_type new ≡ ether_type frame
ether_type-same frame new k =
    let s = k.shape in
    let e = k.len in
    ether_type-packet new ∙ (cong2 (λ (n w : ℕ). if nat_le 14 n then Some w else None) e (cong2 (λ (a b : ℕ). a * 256 + b) s.byte0 s.byte1) ∙ sym (ether_type-packet frame))

spans_same : {a0 a1 a2 a3 a4 a5 a6 a7 a8 a9 b0 b1 b2 b3 b4 b5 b6 b7 b8 b9 : Option Span} → a0 ≡ b0 → a1 ≡ b1 → a2 ≡ b2 → a3 ≡ b3 → a4 ≡ b4 → a5 ≡ b5 → a6 ≡ b6 → a7 ≡ b7 → a8 ≡ b8 → a9 ≡ b9
    → a0 ∷ a1 ∷ a2 ∷ a3 ∷ a4 ∷ a5 ∷ a6 ∷ a7 ∷ a8 ∷ a9 ∷ [] ≡ b0 ∷ b1 ∷ b2 ∷ b3 ∷ b4 ∷ b5 ∷ b6 ∷ b7 ∷ b8 ∷ b9 ∷ []
spans_same e0 e1 e2 e3 e4 e5 e6 e7 e8 e9 = cc

abbrev layout_from : List (Option Span) → Option ℕ → Option ℕ → Option ℕ → Option ℕ → Option ℕ → Option ℕ → Option ℕ → Layout
layout_from s t e a b c d f = record { spans = s; type_at = t; ether_type = e; proto = a; ip_len = b; tcp_flags = c; ip_sum = d; l4_sum = f }

layout_parts : {s s' : List (Option Span)} {t t' e e' a a' b b' c c' d d' f f' : Option ℕ} → s ≡ s' → t ≡ t' → e ≡ e' → a ≡ a' → b ≡ b' → c ≡ c' → d ≡ d' → f ≡ f' → layout_from s t e a b c d f ≡ layout_from s' t' e' a' b' c' d' f'
layout_parts ps pt pe pa pb pc pd pf = cc

pub layout-same : (frame new : List ℕ) → KeepsPlaces frame new → layout_of new ≡ layout_of frame
layout-same frame new k =
    let p = packet frame in
    let q = packet new in
    let sh = k.shape in
    let s0 = span-same LinkDst frame new k in
    let s1 = span-same LinkSrc frame new k in
    let s2 = span-same Tag frame new k in
    let s3 = span-same Tos frame new k in
    let s4 = span-same Ttl frame new k in
    let s5 = span-same SrcIp frame new k in
    let s6 = span-same DstIp frame new k in
    let s7 = span-same SrcPort frame new k in
    let s8 = span-same DstPort frame new k in
    let s9 = span-same Payload frame new k in
    let t = k.type_place in
    let e = ether_type-same frame new k in
    let a = protocol-same p q sh in
    let b = total_len-same p q sh in
    let c = control_bits-same p q sh in
    let d = cong2 (λ (n : ℕ) (o : Option ℕ). option_map (λ (at : ℕ). at + n) o) k.place (header_sum_at-same p q sh) in
    let f = cong2 (λ (n : ℕ) (o : Option ℕ). option_map (λ (at : ℕ). at + n) o) k.place (segment_sum_at-same p q sh) in
    layout_parts (spans_same s0 s1 s2 s3 s4 s5 s6 s7 s8 s9) t e a b c d f
