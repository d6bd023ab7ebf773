-- A written packet is read again.
use Rattle.std.proofs.Common.{◌≡◌, ◌≤◌, ◌<◌, ◌+◌, ◌-◌, ◌*◌, ◌/◌, ◌%◌, ◌^◌, ◌∙◌, ℕ, List, [], ◌++◌, length, take, drop, refl, ap, sym, append_assoc, length-append, arith}
use Rattle.std.specs.Prelude.{replicate}
use Rattle.std.proofs.Math.Seq.{take-append_seam, drop-append_seam}
use Rattle.std.proofs.lemmas.List.{length-replicate}
use Rattle.byteorder.specs.Numbers.{big_number-reads_back, little_number-reads_back}
use Rattle.capture_bytes.specs.declared.order.Endian.{Endian}
use Rattle.capture_bytes.specs.declared.order.Endian.TheVariants.{Big, Little}
use Rattle.capture_bytes.specs.Numbers.{number_at, bytes_of}
use Rattle.capture_bytes.specs.NumberLaws.{at_drop}
use Rattle.pcapng_io.specs.declared.item.NgPacket.{NgPacket}
use Rattle.pcapng_io.specs.Options.{padded}
use Rattle.pcapng_io.specs.Written.{packet_length, packet_head, packet_bytes}

-- seven numbers of four bytes
abbrev pub seven : Endian → ℕ → ℕ → ℕ → ℕ → ℕ → ℕ → ℕ → List ℕ
seven order a b c d e f g = bytes_of order 4 a ++ bytes_of order 4 b ++ bytes_of order 4 c ++ bytes_of order 4 d ++ bytes_of order 4 e ++ bytes_of order 4 f ++ bytes_of order 4 g

-- what bytes that begin with them hold
pub record AreThere (order : Endian) (a b c d e f g : ℕ) (more bytes : List ℕ) : Type 0 where
  pub first : number_at order 4 0 bytes ≡ a
  pub second : number_at order 4 4 bytes ≡ b
  pub third : number_at order 4 8 bytes ≡ c
  pub fourth : number_at order 4 12 bytes ≡ d
  pub fifth : number_at order 4 16 bytes ≡ e
  pub sixth : number_at order 4 20 bytes ≡ f
  pub seventh : number_at order 4 24 bytes ≡ g
  pub behind : drop 28 bytes ≡ more

are_there : (order : Endian) (a b c d e f g : ℕ) (more : List ℕ) → a < 2 ^ 32 → b < 2 ^ 32 → c < 2 ^ 32 → d < 2 ^ 32 → e < 2 ^ 32 → f < 2 ^ 32 → g < 2 ^ 32 → AreThere order a b c d e f g more (seven order a b c d e f g ++ more)
are_there Big a b c d e f g more p q r s t u v = record {
  first = big_number-reads_back 4 a [] p;
  second = big_number-reads_back 4 b [] q;
  third = big_number-reads_back 4 c [] r;
  fourth = big_number-reads_back 4 d [] s;
  fifth = big_number-reads_back 4 e [] t;
  sixth = big_number-reads_back 4 f [] u;
  seventh = big_number-reads_back 4 g [] v;
  behind = refl;
}
are_there Little a b c d e f g more p q r s t u v = record {
  first = little_number-reads_back 4 a [] p;
  second = little_number-reads_back 4 b [] q;
  third = little_number-reads_back 4 c [] r;
  fourth = little_number-reads_back 4 d [] s;
  fifth = little_number-reads_back 4 e [] t;
  sixth = little_number-reads_back 4 f [] u;
  seventh = little_number-reads_back 4 g [] v;
  behind = refl;
}

read_back : (order : Endian) (x : ℕ) → x < 2 ^ 32 → number_at order 4 0 (bytes_of order 4 x) ≡ x
read_back Big x p = big_number-reads_back 4 x [] p
read_back Little x p = little_number-reads_back 4 x [] p

length_4 : (order : Endian) (x : ℕ) → length (bytes_of order 4 x) ≡ 4
length_4 Big x = refl
length_4 Little x = refl

length_28 : (order : Endian) (a b c d e f g : ℕ) → length (seven order a b c d e f g) ≡ 28
length_28 Big a b c d e f g = refl
length_28 Little a b c d e f g = refl

-- the parts of a packet's block
abbrev padding : NgPacket → List ℕ
padding p = replicate (padded (length p.packet.frame) - length p.packet.frame) 0

abbrev tail_of : NgPacket → List ℕ
tail_of p = bytes_of p.order 4 (packet_length p)

head_is : (p : NgPacket) → packet_head p ≡ seven p.order 6 (packet_length p) p.interface (p.ticks / 4294967296) (p.ticks % 4294967296) (length p.packet.frame) p.packet.wire
unfolding packet_head
head_is p = refl

head_length_is : (p : NgPacket) → length (packet_head p) ≡ 28
head_length_is p = ap length (head_is p) ∙ length_28 p.order 6 (packet_length p) p.interface (p.ticks / 4294967296) (p.ticks % 4294967296) (length p.packet.frame) p.packet.wire

data_length : (p : NgPacket) → length (packet_head p ++ p.packet.frame ++ padding p) ≡ 28 + padded (length p.packet.frame)
data_length p = omega (arith, head_length_is p, length-append (packet_head p ++ p.packet.frame) (padding p), length-append (packet_head p) p.packet.frame, length-replicate {A = ℕ} (padded (length p.packet.frame) - length p.packet.frame) 0)

front_length : (p : NgPacket) → length (packet_head p ++ p.packet.frame ++ padding p ++ p.options) ≡ 28 + padded (length p.packet.frame) + length p.options
front_length p = omega (arith, data_length p, length-append (packet_head p ++ p.packet.frame ++ padding p) p.options)

pub whole_length : (p : NgPacket) → length (packet_bytes p) ≡ packet_length p
whole_length p = omega (arith, front_length p, length-append (packet_head p ++ p.packet.frame ++ padding p ++ p.options) (tail_of p), length_4 p.order (packet_length p))

-- what a packet's block holds
pub record IsThere (p : NgPacket) : Type 0 where
  pub code : number_at p.order 4 0 (packet_bytes p) ≡ 6
  pub size : number_at p.order 4 4 (packet_bytes p) ≡ packet_length p
  pub interface : number_at p.order 4 8 (packet_bytes p) ≡ p.interface
  pub ticks : number_at p.order 4 12 (packet_bytes p) * 4294967296 + number_at p.order 4 16 (packet_bytes p) ≡ p.ticks
  pub captured : number_at p.order 4 20 (packet_bytes p) ≡ length p.packet.frame
  pub wire : number_at p.order 4 24 (packet_bytes p) ≡ p.packet.wire
  pub frame : take (length p.packet.frame) (drop 28 (packet_bytes p)) ≡ p.packet.frame
  pub options : take (packet_length p - 32 - padded (length p.packet.frame)) (drop (28 + padded (length p.packet.frame)) (packet_bytes p)) ≡ p.options
  pub again : number_at p.order 4 (packet_length p - 4) (packet_bytes p) ≡ packet_length p

pub is_there : (p : NgPacket) → packet_length p < 2 ^ 32 → p.interface < 2 ^ 32 → p.ticks < 2 ^ 64 → p.packet.wire < 2 ^ 32 → length p.packet.frame ≤ 262144 → IsThere p
is_there p size interface ticks wire short =
    let frame : List ℕ = p.packet.frame in
    let more : List ℕ = frame ++ (padding p ++ (p.options ++ tail_of p)) in
    let bytes : List ℕ = packet_bytes p in
    let parts : bytes ≡ packet_head p ++ more =
    append_assoc (packet_head p ++ frame ++ padding p) p.options (tail_of p) ∙ append_assoc (packet_head p ++ frame) (padding p) (p.options ++ tail_of p) ∙ append_assoc (packet_head p) frame (padding p ++ (p.options ++ tail_of p)) in
    let same : bytes ≡ seven p.order 6 (packet_length p) p.interface (p.ticks / 4294967296) (p.ticks % 4294967296) (length frame) p.packet.wire ++ more = parts ∙ ap (λ l. l ++ more) (head_is p) in
    let there = are_there p.order 6 (packet_length p) p.interface (p.ticks / 4294967296) (p.ticks % 4294967296) (length frame) p.packet.wire more (omega arith) size interface (omega (arith, ticks)) (omega arith) (omega (arith, short)) wire in
    let halves : bytes ≡ (packet_head p ++ frame ++ padding p) ++ (p.options ++ tail_of p) = append_assoc (packet_head p ++ frame ++ padding p) p.options (tail_of p) in
    let front : List ℕ = packet_head p ++ frame ++ padding p ++ p.options in
    record {
      code = ap (number_at p.order 4 0) same ∙ there.first;
      size = ap (number_at p.order 4 4) same ∙ there.second;
      interface = ap (number_at p.order 4 8) same ∙ there.third;
      ticks = omega (arith, ap (number_at p.order 4 12) same ∙ there.fourth, ap (number_at p.order 4 16) same ∙ there.fifth);
      captured = ap (number_at p.order 4 20) same ∙ there.sixth;
      wire = ap (number_at p.order 4 24) same ∙ there.seventh;
      frame = ap (λ l. take (length frame) (drop 28 l)) same ∙ ap (take (length frame)) there.behind ∙ take-append_seam frame (padding p ++ (p.options ++ tail_of p));
      options = ap (λ n. take n (drop (28 + padded (length frame)) bytes)) (let e : packet_length p - 32 - padded (length frame) ≡ length p.options = omega arith in e)
          ∙ ap (λ n. take (length p.options) (drop n bytes)) (sym (data_length p)) ∙ ap (λ l. take (length p.options) (drop (length (packet_head p ++ frame ++ padding p)) l)) halves
          ∙ ap (take (length p.options)) (drop-append_seam (packet_head p ++ frame ++ padding p) (p.options ++ tail_of p)) ∙ take-append_seam p.options (tail_of p);
      again = ap (λ n. number_at p.order 4 n bytes) (let e : packet_length p - 4 ≡ length front = omega (arith, front_length p) in e) ∙ at_drop p.order 4 (length front) bytes
          ∙ ap (number_at p.order 4 0) (drop-append_seam front (tail_of p)) ∙ read_back p.order (packet_length p) size;
    }
