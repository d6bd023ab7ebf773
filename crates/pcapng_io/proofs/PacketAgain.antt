-- A written packet comes next.
use Rattle.std.proofs.Common.{◌≡◌, ◌≤◌, ◌<◌, ◌+◌, ◌-◌, ◌/◌, ◌%◌, ◌∙◌, ℕ, List, ◌++◌, length, take, drop, refl, ap, sym, length-append, arith, false}
use Rattle.std.specs.Prelude.{Some, None, Ok, nat_le, slice_index}
use Rattle.std.proofs.Math.Seq.{take-append_seam, drop-append_seam}
use Rattle.std.proofs.lemmas.Bool.{le-ltb, eq-eqb}
use Rattle.std.proofs.lemmas.Bool.Decides.{nat_tests}
use Rattle.std.proofs.lemmas.List.{length-take-le, take-append-le}
use Rattle.capture_bytes.specs.declared.order.Endian.{Endian}
use Rattle.capture_bytes.specs.Numbers.{number_at}
use Rattle.pcapng_io.specs.declared.block_kind.BlockKind.TheVariants.{EnhancedPacket}
use Rattle.pcapng_io.specs.declared.item.NgItem.TheVariants.{Packet}
use Rattle.pcapng_io.specs.declared.item.NgPacket.{NgPacket}
use Rattle.pcapng_io.specs.declared.place.Place.{Place}
use Rattle.pcapng_io.specs.Options.{padded, copied}
use Rattle.pcapng_io.specs.Times.{nanoseconds_of}
use Rattle.pcapng_io.specs.Blocks.{first_fault, content_faults, kind_of, kind_in, length_in, interface_in, ticks_in, captured_in, original_in, options_at, next_of, item_of, after, packet_of}
use Rattle.pcapng_io.specs.Written.{packet_length, packet_bytes, FitsPacket}
use Rattle.pcapng_io.specs.Reader.{head_faults}
use Rattle.pcapng_io.proofs.Choices.{not_equal}
use Rattle.pcapng_io.proofs.Heads.{Begins, Known, same_at, same_size, block_given}
use Rattle.pcapng_io.proofs.Again.{IsThere, is_there, whole_length}

not_less : (a b : ℕ) → a < b → nat_le b a ≡ false
not_less a b h = grind (arith, nat_tests)

-- the content of a written packet's block has no fault
faultless : (place : Place) (p : NgPacket) → FitsPacket place p → IsThere p → first_fault (content_faults place p.order EnhancedPacket (packet_bytes p)) ≡ None
faultless place p fits there =
    let order : Endian = p.order in
    let block : List ℕ = packet_bytes p in
    let size : length block ≡ packet_length p = whole_length p in
    let again : number_at order 4 (length block - 4) block ≡ length_in order block = ap (λ n. number_at order 4 (n - 4) block) size ∙ there.again ∙ sym there.size in
    rw (
      eq-eqb (number_at order 4 (length block - 4) block) (length_in order block) again,
      le-ltb (length block) 32 (omega (arith, size)),
      not_less (interface_in order block) (length place.units) (omega (arith, there.interface, fits.known)),
      not_equal place.packets 4294967295 (λ h. let few = fits.few in omega arith),
      le-ltb 262144 (captured_in order block) (omega (arith, there.captured, fits.short)),
      le-ltb (length block) (32 + padded (captured_in order block)) (let e : padded (captured_in order block) ≡ padded (length p.packet.frame) = ap padded there.captured in omega (arith, size, e)),
      not_equal (place.blocks + 1) 1099511627776 (λ h. let counted = fits.counted in omega arith),
    ) refl

-- nor has its length
sound : (n : ℕ) (order : Endian) (head : List ℕ) → 12 ≤ length_in order head → length_in order head ≤ 16777216 → length_in order head % 4 ≡ 0 → first_fault (head_faults n order EnhancedPacket head) ≡ None
sound n order head least most whole = rw (le-ltb (length_in order head) 12 least, eq-eqb (length_in order head % 4) 0 whole, le-ltb 16777216 (length_in order head) most) refl

-- a packet by its parts
abbrev packet_with : Endian → ℕ → ℕ → List ℕ → ℕ → ℕ → ℕ → List ℕ → NgPacket
packet_with order interface ticks options seconds fraction wire frame = record {
  order = order;
  interface = interface;
  ticks = ticks;
  options = options;
  packet = record { seconds = seconds; fraction = fraction; wire = wire; frame = frame };
}

same_parts : (order : Endian) (i i' t t' : ℕ) (o o' : List ℕ) (s s' f f' w w' : ℕ) (x x' : List ℕ) → i ≡ i' → t ≡ t' → o ≡ o' → s ≡ s' → f ≡ f' → w ≡ w' → x ≡ x' → packet_with order i t o s f w x ≡ packet_with order i' t' o' s' f' w' x'
same_parts order i i' t t' o o' s s' f f' w w' x x' p q r u v y z =
    ap (λ k. packet_with order k t o s f w x) p ∙ ap (λ k. packet_with order i' k o s f w x) q ∙ ap (λ k. packet_with order i' t' k s f w x) r ∙ ap (λ k. packet_with order i' t' o' k f w x) u
    ∙ ap (λ k. packet_with order i' t' o' s' k w x) v ∙ ap (λ k. packet_with order i' t' o' s' f' k x) y ∙ ap (λ k. packet_with order i' t' o' s' f' w' k) z

-- the packet in its block is the packet
same_packet : (place : Place) (p : NgPacket) → FitsPacket place p → IsThere p → packet_of p.order (slice_index place.units (interface_in p.order (packet_bytes p))) (packet_bytes p) ≡ p
same_packet place p fits there =
    let block : List ℕ = packet_bytes p in
    let captured : ℕ = captured_in p.order block in
    let time : nanoseconds_of (slice_index place.units (interface_in p.order block)) (ticks_in p.order block) ≡ nanoseconds_of (slice_index place.units p.interface) p.ticks =
    ap (λ i. nanoseconds_of (slice_index place.units i) (ticks_in p.order block)) there.interface ∙ ap (nanoseconds_of (slice_index place.units p.interface)) there.ticks in
    same_parts p.order (interface_in p.order block) p.interface (ticks_in p.order block) p.ticks (copied p.order (options_at (28 + padded captured) block)) p.options
    (nanoseconds_of (slice_index place.units (interface_in p.order block)) (ticks_in p.order block) / 1000000000) p.packet.seconds
    (nanoseconds_of (slice_index place.units (interface_in p.order block)) (ticks_in p.order block) % 1000000000) p.packet.fraction (original_in p.order block) p.packet.wire (take captured (drop 28 block)) p.packet.frame
    there.interface there.ticks
    (ap (λ n. copied p.order (options_at (28 + padded n) block)) there.captured
    ∙ ap (λ m. copied p.order (take m (drop (28 + padded (length p.packet.frame)) block))) (let e : length block - 4 - (28 + padded (length p.packet.frame)) ≡ packet_length p - 32 - padded (length p.packet.frame) = omega (arith, whole_length p) in e)
    ∙ ap (copied p.order) there.options ∙ fits.copied)
    (ap (λ t. t / 1000000000) time ∙ sym fits.seconds) (ap (λ t. t % 1000000000) time ∙ sym fits.fraction) there.wire (ap (λ n. take n (drop 28 block)) there.captured ∙ there.frame)

pub packet_again : (place : Place) (p : NgPacket) (tail : List ℕ) → FitsPacket place p →
    next_of place (packet_bytes p ++ tail) ≡ Ok (Some (Packet p, record { order = place.order; units = place.units; blocks = place.blocks + 1; packets = place.packets + 1 }, tail))
packet_again place p tail fits =
    let order : Endian = p.order in
    let block : List ℕ = packet_bytes p in
    let bytes : List ℕ = block ++ tail in
    let there = is_there p (let size = fits.size in omega arith) fits.interface fits.ticks fits.wire fits.short in
    let size : length block ≡ packet_length p = whole_length p in
    let head : List ℕ = take 8 block in
    let eight : length head ≡ 8 = length-take-le 8 block (omega (arith, size)) in
    let in_block : Begins head block = record { front = ap (λ n. take n block) (sym eight); long = omega (arith, eight, size) } in
    let begins : Begins head bytes = record { front = sym (take-append-le 8 block tail (omega (arith, size))) ∙ ap (λ n. take n bytes) (sym eight); long = omega (arith, eight, size, length-append block tail) } in
    let says : length_in order head ≡ packet_length p = same_size order head block in_block (omega (arith, eight)) ∙ there.size in
    let is_kind : EnhancedPacket ≡ kind_in place.order head = ap kind_of (sym (code_of order head block in_block eight ∙ there.code)) ∙ ap (λ o. kind_in o head) fits.order in
    let known : Known place EnhancedPacket order head bytes = record { begins = begins; enough = omega (arith, eight); kind_is = is_kind; order_is = fits.order } in
    let whole : packet_length p % 4 ≡ 0 = let options = fits.options in omega arith in
    let most : packet_length p ≤ 16777216 = fits.size in
    let none = sound (place.blocks + 1) order head (omega (arith, says)) (omega (arith, says, most)) (ap (λ n. n % 4) says ∙ whole) in
    let first : take (length_in order head) bytes ≡ block = ap (λ n. take n bytes) (says ∙ sym size) ∙ take-append_seam block tail in
    let rest : drop (length_in order head) bytes ≡ tail = ap (λ n. drop n bytes) (says ∙ sym size) ∙ drop-append_seam block tail in
    block_given place EnhancedPacket order head bytes known none (omega (arith, says, size, length-append block tail)) (ap (λ b. first_fault (content_faults place order EnhancedPacket b)) first ∙ faultless place p fits there)
    ∙ ap (λ b. Ok (Some (item_of place order EnhancedPacket b, after place order EnhancedPacket b, drop (length_in order head) bytes))) first
    ∙ ap (λ l. Ok (Some (item_of place order EnhancedPacket block, after place order EnhancedPacket block, l))) rest
    ∙ ap (λ q. Ok (Some (Packet q, record { order = place.order; units = place.units; blocks = place.blocks + 1; packets = place.packets + 1 }, tail))) (same_packet place p fits there)
  where
    code_of : (order : Endian) (head block : List ℕ) → Begins head block → length head ≡ 8 → number_at order 4 0 head ≡ number_at order 4 0 block
    code_of order head block begins eight = same_at order 4 0 head block begins (omega (arith, eight))
