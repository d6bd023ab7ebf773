-- Believed: the text of an address.
use Rattle.std.specs.Prelude.{ℕ, List, [], ◌∷◌, codes}
use Rattle.std.specs.Int.{byte_at}
use Rattle.std.specs.Fmt.{decimal}
use Rattle.std.specs.Net.Addr.{ipv4_bits, ipv6_segments}
use Rattle.std.specs.Net.Text.{groups_text}
use Rattle.std.specs.declared.net.ip_addr.IpAddr.{IpAddr}
use Rattle.std.specs.declared.net.ip_addr.IpAddr.TheVariants.{V4, V6}
use Rattle.text_lines.specs.Texts.{joined}

-- the four bytes of an IPv4 address as decimal numbers separated by dots, the highest first (RFC 791, 3.1)
unfoldable pub dotted : ℕ → List ℕ
dotted address = joined (decimal (byte_at 3 address) ∷ codes "." ∷ decimal (byte_at 2 address) ∷ codes "." ∷ decimal (byte_at 1 address) ∷ codes "." ∷ decimal (byte_at 0 address) ∷ [])

-- the same for an IPv4 address; for an IPv6 address the eight groups in lower case, separated by colons, without
-- leading zeros and with none of them left out (RFC 4291, 2.2, form 1)
abbrev pub address_text : IpAddr → List ℕ
address_text (V4 address) = dotted (ipv4_bits address)
address_text (V6 address) = groups_text (ipv6_segments address)
