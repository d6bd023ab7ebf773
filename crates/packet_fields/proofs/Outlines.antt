-- The places that follow from an outline.
use Rattle.std.proofs.Common.{◌≡◌, ◌≢◌, ◌≤◌, ◌+◌, ◌-◌, ◌∙◌, ℕ, List, length, length-drop, true, ◌&&◌, sym, ap, refl, arith, subst}
use Rattle.std.specs.Prelude.{Option, Some, None, IfSome, option_map, nat_le}
use Rattle.std.proofs.lemmas.Bool.{and_parts, leb-true}
use Rattle.std.proofs.lemmas.Option.{cond_some, same_Some, none-some}
use Rattle.packet_fields.specs.Frames.{packet_at, packet}
use Rattle.packet_fields.specs.Packets.{has_transport, segment_at, datagram_end, has_data, data_at, data_span}
use Rattle.packet_fields.specs.Fields.{span}
use Rattle.packet_fields.specs.Outlines.{version_of, outline_of, segment_in}
use Rattle.packet_fields.specs.Writing.{put, Fits}
use Rattle.packet_fields.specs.declared.packet.IpVersion.{IpVersion}
use Rattle.packet_fields.specs.declared.outline.Outline.{Outline}
use Rattle.packet_fields.specs.declared.outline.Segment.{Segment}
use Rattle.packet_fields.specs.declared.plan.Span.{Span}
use Rattle.packet_fields.specs.declared.field.Field.{Field}
use Rattle.packet_fields.specs.declared.field.Field.TheVariants.{Tag}
use Rattle.packet_fields.proofs.TagWalk.{packet_at-inside}
use Rattle.packet_fields.proofs.Spans.{span-inside}
use Rattle.packet_fields.proofs.Versions.{no_transport}
use Rattle.packet_fields.proofs.Shapes.{same_header, has_transport-same, segment_at-same, datagram_end-same, data_span-same}
use Rattle.packet_fields.proofs.OverwrittenField.{KeepsPlaces}
use Rattle.packet_fields.proofs.Puts.{put_keeps}

-- an outline begins in its frame
pub start_inside : (frame : List ℕ) (o : Outline) → o ≡ outline_of frame → o.start ≤ length frame
start_inside frame o own = let start : o.start ≡ packet_at frame = ap (λ (x : Outline). x.start) own in omega (arith, packet_at-inside frame)

-- what an outline says about a segment
pub record HasSegment (frame : List ℕ) (o : Outline) (s : Segment) : Type 0 where
  pub there : has_transport (packet frame) ≡ true
  pub ends : s.end ≡ datagram_end (packet frame)
  pub payload : s.payload ≡ option_map (λ s. s.at) (data_span (packet frame))
  pub inside : s.end + o.start ≤ length frame

pub has_segment : (frame : List ℕ) (o : Outline) (s : Segment) → o ≡ outline_of frame → o.segment ≡ Some s → HasSegment frame o s
has_segment frame o s own is =
    let p = packet frame in
    let start : o.start ≡ packet_at frame = ap (λ (x : Outline). x.start) own in
    let test = cond_some (has_transport p) (record { at = segment_at p; end = datagram_end p; payload = option_map (λ (t : Span). t.at) (data_span p) }) s (sym (ap (λ (x : Outline). x.segment) own) ∙ is) in
    let ends : s.end ≡ datagram_end p = sym (ap (λ (x : Segment). x.end) test.1) in
    record {
      there = test.0;
      ends = ends;
      payload = sym (ap (λ (x : Segment). x.payload) test.1);
      inside = omega (arith, start, ends, length-drop (packet_at frame) frame, packet_at-inside frame);
    }

some_mapped : (o : Option Span) (n : ℕ) → option_map (λ s. s.at) o ≡ Some n → (s : Span) × (o ≡ Some s) × (s.at ≡ n)
some_mapped None n is = absurd (none-some n is)
some_mapped (Some s) n is = (s, refl, same_Some s.at n is)

-- the data begins within the segment
pub payload_below : (frame : List ℕ) (o : Outline) (s : Segment) (at : ℕ) → HasSegment frame o s → s.payload ≡ Some at → at ≤ s.end
payload_below frame o s at h is =
    let p = packet frame in
    let t = some_mapped (data_span p) at (sym h.payload ∙ is) in
    let test = cond_some (has_data p && nat_le (data_at p) (datagram_end p)) (record { at = data_at p; len = datagram_end p - data_at p }) t.0 t.1 in
    let begins : data_at p ≡ at = ap (λ (x : Span). x.at) test.1 ∙ t.2 in
    let below : data_at p ≤ datagram_end p = leb-true (data_at p) (datagram_end p) (and_parts (has_data p) (nat_le (data_at p) (datagram_end p)) test.0).1 in
    omega (arith, begins, below, h.ends)

-- no segment begins if no IP header does
pub no_segment : (p : List ℕ) → None ≡ version_of p → None ≡ segment_in p
no_segment p gone = let none = no_transport p gone in cc

-- the version in an outline is the packet's
pub version_told : (frame : List ℕ) (o : Outline) (v : Option IpVersion) → o ≡ outline_of frame → o.version ≡ v → version_of (packet frame) ≡ v
version_told frame o v own is = sym (ap (λ (x : Outline). x.version) own) ∙ is

-- a place of a field lies in the frame
pub inside_by : (f : Field) (frame : List ℕ) (o : Option Span) → o ≡ span f frame → IfSome o (λ s. s.at + s.len ≤ length frame)
inside_by f frame o is = subst (λ (x : Option Span). IfSome x (λ s. s.at + s.len ≤ length frame)) (sym is) (span-inside f frame)

-- the outline stays when a field is written
outline-same : (frame new : List ℕ) → KeepsPlaces frame new → outline_of new ≡ outline_of frame
outline-same frame new k =
    let p = packet frame in
    let q = packet new in
    let start = k.place in
    let header = same_header p q k.shape in
    let there = has_transport-same p q k.shape in
    let at = segment_at-same p q k.shape in
    let ends = datagram_end-same p q k.shape in
    let payload = data_span-same p q k.shape in
    cc

pub outline_of-put : (f : Field) (new frame : List ℕ) → f ≢ Tag → Fits f new frame → outline_of (put f new frame) ≡ outline_of frame
outline_of-put f new frame no_tag fits = outline-same frame (put f new frame) (put_keeps f new frame no_tag fits)
