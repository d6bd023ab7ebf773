use Rattle.std.proofs.Common.{◌≡◌, ◌∙◌, ◌&&◌, Bool, true, false, ℕ, sym, ap}
use Rattle.std.specs.Prelude.{Option}
use Rattle.packet_fields.specs.Packets.{protocol, total_len}
use Rattle.packet_fields.specs.Checksums.{same_number}
use Rattle.packet_fields.proofs.Overwriting.{cong2}
use Rattle.packet_fields.proofs.SamePlaces.{header_same}
use Rattle.packet_fields.proofs.sealing.has_same_header.Goals as goal

pub returns-then-eq : goal.returns-then-eq
returns-then-eq c =
    let p = c.args.old.now in
    let q = c.args.new.now in
    let kind : true ≡ same_number (protocol p) (protocol q) = c.if-eq.ensures ∙ cong2 (λ (a b : Option ℕ). same_number a b) c.protocol.ensures c.protocol-2.ensures in
    let total : c.eq-then-eq.result ≡ same_number (total_len p) (total_len q) = c.eq-then-eq.ensures ∙ cong2 (λ (a b : Option ℕ). same_number a b) c.total_len.ensures c.total_len-then-eq.ensures in
    total ∙ (ap (λ (b : Bool). b && same_number (total_len p) (total_len q)) kind ∙ header_same c.args.version p q c.requires.old_version c.requires.new_version c.requires.same_len)

pub returns-else-eq : goal.returns-else-eq
returns-else-eq c =
    let p = c.args.old.now in
    let q = c.args.new.now in
    let kind : false ≡ same_number (protocol p) (protocol q) = c.if-eq.ensures ∙ cong2 (λ (a b : Option ℕ). same_number a b) c.protocol.ensures c.protocol-2.ensures in
    c.eq.ensures ∙ (sym c.if-eq.ensures ∙ (ap (λ (b : Bool). b && same_number (total_len p) (total_len q)) kind ∙ header_same c.args.version p q c.requires.old_version c.requires.new_version c.requires.same_len))
