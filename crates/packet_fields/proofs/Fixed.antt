-- The fixed values of a frame stay when its fields are written.
use Rattle.std.proofs.Common.{◌≡◌, ◌≤◌, ◌<◌, ◌+◌, ◌*◌, ◌∙◌, ℕ, List, length, length-drop, Bool, sym, arith, ⊎_elim}
use Rattle.std.specs.Prelude.{Option, Some, None, if◌then◌else◌, nat_le}
use Rattle.std.proofs.lemmas.Bool.{cases_lt, le-leb, lt-leb}
use Rattle.packet_fields.specs.Frames.{packet_at, packet}
use Rattle.packet_fields.specs.Packets.{protocol, total_len, control_bits}
use Rattle.packet_fields.specs.Fields.{ether_type}
use Rattle.packet_fields.specs.Writing.{written, all_fields, AllFit}
use Rattle.packet_fields.specs.declared.field.Field.{Field}
use Rattle.packet_fields.proofs.TagWalk.{packet_at-short}
use Rattle.packet_fields.proofs.Overwriting.{cong2}
use Rattle.packet_fields.proofs.Shapes.{SameShape, protocol-same, total_len-same, control_bits-same}
use Rattle.packet_fields.proofs.Framing.{framed}
use Rattle.packet_fields.proofs.OverwrittenField.{ether_type-packet, same_shape}
use Rattle.packet_fields.proofs.RightFrames.{part_in, nowhere}

no_packet : (frame : List ℕ) → length frame < 14 → length (packet frame) ≡ 0
no_packet frame short = omega (arith, length-drop (packet_at frame) frame, packet_at-short frame short)

same_long : (before after : List ℕ) → length (packet after) ≡ length (packet before) → nat_le 14 (length after) ≡ nat_le 14 (length before)
same_long before after len =
    ⊎_elim
    (λ (short : length before < 14).
    let none = no_packet before short in
    let after_short : length after < 14 = ⊎_elim (λ (s : length after < 14). s) (λ (long : 14 ≤ length after). absurd (omega (arith, (framed after long).has_type, len, none))) (cases_lt (length after) 14) in
    lt-leb 14 (length after) after_short ∙ sym (lt-leb 14 (length before) short))
    (λ (long : 14 ≤ length before).
    let room = (framed before long).has_type in
    let after_long : 14 ≤ length after = ⊎_elim (λ (short : length after < 14). absurd (omega (arith, no_packet after short, len, room))) (λ (l : 14 ≤ length after). l) (cases_lt (length after) 14) in
    le-leb 14 (length after) after_long ∙ sym (le-leb 14 (length before) long))
    (cases_lt (length before) 14)

-- the fixed values of two frames are the same
pub record SameFixed (before after : List ℕ) : Type 0 where
  pub kind : ether_type after ≡ ether_type before
  pub proto : protocol (packet after) ≡ protocol (packet before)
  pub total : total_len (packet after) ≡ total_len (packet before)
  pub flags : control_bits (packet after) ≡ control_bits (packet before)

pub same_fixed : (before after : List ℕ) → SameShape (packet before) (packet after) → SameFixed before after
same_fixed before after shape = record {
  kind = ether_type-packet after ∙ (cong2 (λ (b : Bool) (w : ℕ). if b then Some w else None) (same_long before after shape.len) (cong2 (λ (a b : ℕ). a * 256 + b) shape.byte0 shape.byte1) ∙ sym (ether_type-packet before));
  proto = protocol-same (packet before) (packet after) shape;
  total = total_len-same (packet before) (packet after) shape;
  flags = control_bits-same (packet before) (packet after) shape;
}

-- the fixed values of a frame after a write
pub fixed-written : (values : Field → Option (List ℕ)) (frame : List ℕ) → AllFit values frame → SameFixed frame (written values frame)
fixed-written values frame fits =
    same_fixed frame (written values frame) (part_in all_fields values frame (record { at = length (packet frame); len = 0 }) fits (nowhere (packet frame))).shape

-- a frame with the same packet has the same fixed values
pub fixed-packet : (before after : List ℕ) → packet after ≡ packet before → SameFixed before after
fixed-packet before after same = same_fixed before after (same_shape (packet before) (packet after) same)
