-- A packet of IPv4 has a transport header, if its header says so.
use Rattle.std.proofs.Common.{◌≡◌, ◌<◌, ◌*◌, ◌%◌, ◌+◌, ℕ, List, length, Bool, true, false, refl, arith}
use Rattle.std.specs.Prelude.{Some, None, is_some, nat_le, nat_lt, if◌then◌else◌, ◌==◌, ◌&&◌, ◌||◌}
use Rattle.std.proofs.lemmas.Bool.{le-leb, lt-ltb}
use Rattle.packet_fields.specs.Packets.{byte_within, has_transport, header_byte, header_word, in_header, is_ipv4, is_ipv6}

pub alone_false : (b : Bool) → (b && false) ≡ false
alone_false true = refl
alone_false false = refl

-- a protocol that is captured and known, the first fragment, and a length that is captured and holds the header
each_holds : (captured known first told fits : Bool) (protocol len : ℕ) → captured ≡ true → known ≡ true → first ≡ true → told ≡ true → fits ≡ true →
    ((is_some (if captured then Some protocol else None) && known) && (first && (is_some (if told && true then Some len else None) && fits))) ≡ true
each_holds true true true true true protocol len a b c d e = refl
each_holds false known first told fits protocol len a b c d e = absurd cc
each_holds true false first told fits protocol len a b c d e = absurd cc
each_holds true true false told fits protocol len a b c d e = absurd cc
each_holds true true true false fits protocol len a b c d e = absurd cc
each_holds true true true true false protocol len a b c d e = absurd cc

pub transport_there : (p : List ℕ) → is_ipv4 p ≡ true → is_ipv6 p ≡ false → 11 < length p → ((header_byte p 9 == 6) || (header_byte p 9 == 17)) ≡ true →
    (header_word p 6 % 8192 == 0) ≡ true → nat_le (4 * (header_byte p 0 % 16)) (header_word p 2) ≡ true → has_transport p ≡ true
unfolding has_transport
transport_there p is_four is_six long known first fits = by (is_ipv4 p) (is_ipv6 p) is_four is_six
  where
    -- the same for each answer to which version it is
    told : Bool → Bool → Bool
    told four six =
        (is_some (byte_within (four || six) (length p) p (in_header (if six then 6 else 9))) && ((header_byte p (if six then 6 else 9) == 6) || (header_byte p (if six then 6 else 9) == 17)))
        && ((six || (header_word p 6 % 8192 == 0))
        && (is_some (if (four || six) && (nat_le (in_header ((if six then 4 else 2) + 2)) (length p) && (four || nat_le (if six then header_word p 4 + 40 else header_word p 2) 65535)) then Some (if six then header_word p 4 + 40 else header_word p 2) else None)
        && nat_le (if six then 40 else 4 * (header_byte p 0 % 16)) (if six then header_word p 4 + 40 else header_word p 2)))

    by : (four six : Bool) → four ≡ true → six ≡ false → told four six ≡ true
    by true false a b = each_holds (nat_lt 11 (length p)) ((header_byte p 9 == 6) || (header_byte p 9 == 17)) (header_word p 6 % 8192 == 0) (nat_le 6 (length p)) (nat_le (4 * (header_byte p 0 % 16)) (header_word p 2)) _ _
        (lt-ltb 11 (length p) long) known first (le-leb 6 (length p) (omega arith)) fits
    by true true a b = absurd cc
    by false six a b = absurd cc
