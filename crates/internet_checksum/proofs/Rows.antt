-- Checksums worked out by hand.
use Rattle.std.proofs.Common.{◌≡◌, [], ◌∷◌, refl}
use Rattle.packet_fields.specs.Checksums.{words}
use Rattle.internet_checksum.specs.Checksums.{checksum_of}

-- the numbers of RFC 1071, 3: the words 0001, f203, f4f5 and f6f7 have the sum ddf2, and its complement is 220d
rfc_1071 : checksum_of (0x00 ∷ 0x01 ∷ 0xf2 ∷ 0x03 ∷ 0xf4 ∷ 0xf5 ∷ 0xf6 ∷ 0xf7 ∷ []) ≡ 0x220d
unfolding checksum_of words
rfc_1071 = refl

-- the sum of no bytes is 0
no_bytes : checksum_of [] ≡ 0xffff
unfolding checksum_of words
no_bytes = refl

-- a last odd byte is the high byte of a word
odd_byte : checksum_of (0x12 ∷ 0x34 ∷ 0x56 ∷ []) ≡ 0x97cb
unfolding checksum_of words
odd_byte = refl
