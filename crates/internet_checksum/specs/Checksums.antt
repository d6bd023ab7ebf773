-- Believed: the checksum of bytes (RFC 1071).
use Rattle.std.specs.Prelude.{ℕ, ◌-◌, List, sum}
use Rattle.packet_fields.specs.Checksums.{words, folded}

-- the checksum of bytes in which their own is 0: the complement of their sum in one's complement (RFC 1071, 1)
unfoldable pub checksum_of : List ℕ → ℕ
checksum_of bytes = 0xffff - folded (sum (words bytes))
