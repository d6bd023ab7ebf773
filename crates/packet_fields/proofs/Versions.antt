-- The two versions of IP: which one a packet has, and where the fields of its header are.
use Rattle.std.proofs.Common.{◌≡◌, ◌≤◌, ◌<◌, ◌+◌, ◌*◌, ◌/◌, ◌%◌, ◌∙◌, ℕ, List, length, get_or, Bool, true, false, ◌&&◌, ◌||◌, sym, refl, arith, subst, ⊎_elim}
use Rattle.std.specs.Prelude.{Some, None, if◌then◌else◌, nat_le, nat_lt, is_some, ◌==◌}
use Rattle.std.proofs.lemmas.Bool.{and_parts, or_cases, or_left, or_right, cases_Bool, leb-true, ltb-true, eqb-true, cond-true, cond-false, false≢true}
use Rattle.std.proofs.lemmas.Option.{none-some, same_Some}
use Rattle.packet_fields.specs.Frames.{word}
use Rattle.packet_fields.specs.Packets.{in_header, header_byte, is_ipv4, is_ipv6, has_header, by_version, header_len, protocol_at, length_at, datagram_len, total_len, protocol, is_tcp, is_udp, has_transport_protocol, is_first, has_whole_header, has_transport, segment_at}
use Rattle.packet_fields.specs.Checksums.{has_same_version}
use Rattle.packet_fields.specs.Outlines.{version_of, is_version, format_of}
use Rattle.packet_fields.specs.declared.packet.IpVersion.{IpVersion}
use Rattle.packet_fields.specs.declared.packet.IpVersion.TheVariants.{V4, V6}
use Rattle.packet_fields.specs.declared.packet.HeaderFormat.{HeaderFormat}
use Rattle.packet_fields.proofs.Overwriting.{cong2}

-- the EtherType and the first byte of a header determine its version
pub record BeginsIpv4 (p : List ℕ) : Type 0 where
  pub room : 2 < length p
  pub kind : word p 0 ≡ 0x0800
  pub version : get_or p 2 0 / 16 ≡ 4
  pub words : 5 ≤ get_or p 2 0 % 16

pub begins_ipv4 : (p : List ℕ) → is_ipv4 p ≡ true → BeginsIpv4 p
unfolding is_ipv4
begins_ipv4 p there =
    let a = and_parts (nat_lt 2 (length p)) ((word p 0 == 0x0800) && ((get_or p 2 0 / 16 == 4) && nat_le 5 (get_or p 2 0 % 16))) there in
    let b = and_parts (word p 0 == 0x0800) ((get_or p 2 0 / 16 == 4) && nat_le 5 (get_or p 2 0 % 16)) a.1 in
    let c = and_parts (get_or p 2 0 / 16 == 4) (nat_le 5 (get_or p 2 0 % 16)) b.1 in
    record { room = ltb-true 2 (length p) a.0; kind = eqb-true (word p 0) 0x0800 b.0; version = eqb-true (get_or p 2 0 / 16) 4 c.0; words = leb-true 5 (get_or p 2 0 % 16) c.1 }

pub record BeginsIpv6 (p : List ℕ) : Type 0 where
  pub room : 2 < length p
  pub kind : word p 0 ≡ 0x86dd

pub begins_ipv6 : (p : List ℕ) → is_ipv6 p ≡ true → BeginsIpv6 p
unfolding is_ipv6
begins_ipv6 p there =
    let a = and_parts (nat_lt 2 (length p)) ((word p 0 == 0x86dd) && (get_or p 2 0 / 16 == 6)) there in
    record { room = ltb-true 2 (length p) a.0; kind = eqb-true (word p 0) 0x86dd (and_parts (word p 0 == 0x86dd) (get_or p 2 0 / 16 == 6) a.1).0 }

pub is_ipv4-alone : (p : List ℕ) → is_ipv4 p ≡ true → is_ipv6 p ≡ false
is_ipv4-alone p there =
    ⊎_elim
    (λ (both : is_ipv6 p ≡ true). let four = begins_ipv4 p there in let six = begins_ipv6 p both in absurd (omega arith))
    (λ (alone : is_ipv6 p ≡ false). alone)
    (cases_Bool (is_ipv6 p))

pub is_ipv6-alone : (p : List ℕ) → is_ipv6 p ≡ true → is_ipv4 p ≡ false
is_ipv6-alone p there =
    ⊎_elim
    (λ (both : is_ipv4 p ≡ true). absurd (false≢true (sym (is_ipv4-alone p both) ∙ there)))
    (λ (alone : is_ipv4 p ≡ false). alone)
    (cases_Bool (is_ipv4 p))

-- two packets of one version
pub record SameVersion (p q : List ℕ) : Type 0 where
  pub four : is_ipv4 p ≡ is_ipv4 q
  pub six : is_ipv6 p ≡ is_ipv6 q
  pub there : has_header p ≡ true

pub same_version : (p q : List ℕ) → has_same_version p q ≡ true → SameVersion p q
same_version p q test =
    ⊎_elim
    (λ (fours : (is_ipv4 p && is_ipv4 q) ≡ true).
    let a = and_parts (is_ipv4 p) (is_ipv4 q) fours in
    record { four = a.0 ∙ sym a.1; six = is_ipv4-alone p a.0 ∙ sym (is_ipv4-alone q a.1); there = or_left (is_ipv4 p) (is_ipv6 p) a.0 })
    (λ (sixes : (is_ipv6 p && is_ipv6 q) ≡ true).
    let a = and_parts (is_ipv6 p) (is_ipv6 q) sixes in
    record { four = is_ipv6-alone p a.0 ∙ sym (is_ipv6-alone q a.1); six = a.0 ∙ sym a.1; there = or_right (is_ipv4 p) (is_ipv6 p) a.0 })
    (or_cases (is_ipv4 p && is_ipv4 q) (is_ipv6 p && is_ipv6 q) test)

pub version_kept : (p q : List ℕ) (v : IpVersion) → SameVersion p q → version_of p ≡ Some v → version_of q ≡ Some v
version_kept p q v same is = cong2 (λ (a b : Bool). if a then Some V4 else (if b then Some V6 else None)) (sym same.four) (sym same.six) ∙ is

-- a choice of a number by the version
pub by_six : (P : Bool → Type 0) (b : Bool) → (b ≡ true → P true) → (b ≡ false → P false) → P b
by_six P true six four = six refl
by_six P false six four = four refl

-- the numbers of a header, in which `six` is 1 for IPv6 and else 0
pub record Numbers (b : Bool) : Type 0 where
  pub six : ℕ
  pub few : six ≤ 1
  pub none : b ≡ false → six ≡ 0
  pub ttl : (if b then 7 else 8) + six ≡ 8
  pub source : (if b then 8 else 12) + 4 * six ≡ 12
  pub destination : (if b then 24 else 16) ≡ 16 + 8 * six
  pub address : (if b then 16 else 4) ≡ 4 + 12 * six
  pub ends : (if b then 40 else 20) ≡ 20 + 20 * six

numbers_by : (b : Bool) → Numbers b
numbers_by true = record { six = 1; few = omega arith; none = λ e. absurd (false≢true (sym e)); ttl = refl; source = refl; destination = refl; address = refl; ends = refl }
numbers_by false = record { six = 0; few = omega arith; none = λ _. refl; ttl = refl; source = refl; destination = refl; address = refl; ends = refl }

pub numbers : (p : List ℕ) → Numbers (is_ipv6 p)
numbers p = numbers_by (is_ipv6 p)

-- where the fields of the header end; options may follow
abbrev pub fields_end : List ℕ → ℕ
fields_end p = in_header (by_version p 20 40)

-- what makes a packet one of a version
abbrev pub IsOf : IpVersion → List ℕ → Type 0
IsOf V4 p = (is_ipv4 p ≡ true) × (is_ipv6 p ≡ false)
IsOf V6 p = (is_ipv4 p ≡ false) × (is_ipv6 p ≡ true)

pub version_is : (p : List ℕ) (v : IpVersion) → version_of p ≡ Some v → IsOf v p
version_is p v is =
    ⊎_elim
    (λ (four : is_ipv4 p ≡ true).
    let v4 : V4 ≡ v = same_Some V4 v (sym (cond-true (is_ipv4 p) (Some V4) (if is_ipv6 p then Some V6 else None) four) ∙ is) in
    subst (λ (w : IpVersion). IsOf w p) v4 (four, is_ipv4-alone p four))
    (λ (other : is_ipv4 p ≡ false).
    let rest : (if is_ipv6 p then Some V6 else None) ≡ Some v = sym (cond-false (is_ipv4 p) (Some V4) (if is_ipv6 p then Some V6 else None) other) ∙ is in
    ⊎_elim
    (λ (six : is_ipv6 p ≡ true).
    let v6 : V6 ≡ v = same_Some V6 v (sym (cond-true (is_ipv6 p) (Some V6) None six) ∙ rest) in
    subst (λ (w : IpVersion). IsOf w p) v6 (other, six))
    (λ (none : is_ipv6 p ≡ false). absurd (none-some v (sym (cond-false (is_ipv6 p) (Some V6) None none) ∙ rest)))
    (cases_Bool (is_ipv6 p)))
    (cases_Bool (is_ipv4 p))

-- a packet that has a header has a version
pub record HasVersion (p : List ℕ) (v : IpVersion) : Type 0 where
  pub there : has_header p ≡ true
  pub room : 2 < length p

pub has_version : (p : List ℕ) (v : IpVersion) → version_of p ≡ Some v → HasVersion p v
has_version p V4 is = let k = version_is p V4 is in record { there = or_left (is_ipv4 p) (is_ipv6 p) k.0; room = (begins_ipv4 p k.0).room }
has_version p V6 is = let k = version_is p V6 is in record { there = or_right (is_ipv4 p) (is_ipv6 p) k.1; room = (begins_ipv6 p k.1).room }

pub no_version : (p : List ℕ) → None ≡ version_of p → (is_ipv4 p ≡ false) × (is_ipv6 p ≡ false)
no_version p is =
    ⊎_elim
    (λ (four : is_ipv4 p ≡ true). absurd (none-some V4 (is ∙ cond-true (is_ipv4 p) (Some V4) (if is_ipv6 p then Some V6 else None) four)))
    (λ (other : is_ipv4 p ≡ false).
    ⊎_elim
    (λ (six : is_ipv6 p ≡ true). absurd (none-some V6 (is ∙ (cond-false (is_ipv4 p) (Some V4) (if is_ipv6 p then Some V6 else None) other ∙ cond-true (is_ipv6 p) (Some V6) None six))))
    (λ (none : is_ipv6 p ≡ false). (other, none))
    (cases_Bool (is_ipv6 p)))
    (cases_Bool (is_ipv4 p))

-- the least length of a header
pub header_len-least : (p : List ℕ) → has_header p ≡ true → fields_end p ≤ segment_at p
header_len-least p there =
    ⊎_elim
    (λ (six : is_ipv6 p ≡ true). rw six (omega arith))
    (λ (four : is_ipv6 p ≡ false).
    let is_four : is_ipv4 p ≡ true = ⊎_elim (λ (four : is_ipv4 p ≡ true). four) (λ (six : is_ipv6 p ≡ true). absurd (false≢true (sym four ∙ six))) (or_cases (is_ipv4 p) (is_ipv6 p) there) in
    let b = begins_ipv4 p is_four in
    rw four (omega arith))
    (cases_Bool (is_ipv6 p))

pub header_len-ipv4 : (p : List ℕ) → is_ipv4 p ≡ true → (header_len p ≡ 4 * (get_or p 2 0 % 16)) × (20 ≤ header_len p)
header_len-ipv4 p there =
    let is = cond-false (is_ipv6 p) 40 (4 * (get_or p 2 0 % 16)) (is_ipv4-alone p there) in
    let b = begins_ipv4 p there in
    (is, omega arith)

-- what a transport header needs
pub record HasTransport (p : List ℕ) : Type 0 where
  pub header : has_header p ≡ true
  pub captured : in_header (protocol_at p) < length p
  pub length_there : in_header (length_at p + 2) ≤ length p
  pub short : (is_ipv4 p || nat_le (datagram_len p) 65535) ≡ true
  pub kind : (is_tcp p || is_udp p) ≡ true
  pub first : is_first p ≡ true
  pub whole : header_len p ≤ datagram_len p

some_if : {A : Type 0} (b : Bool) (x : A) → is_some (if b then Some x else None) ≡ true → b ≡ true
some_if true x there = refl
some_if false x there = absurd (false≢true there)

pub transport_parts : (p : List ℕ) → has_transport p ≡ true → HasTransport p
unfolding has_transport
transport_parts p there =
    let b = and_parts (has_transport_protocol p) (is_first p && has_whole_header p) there in
    let a = and_parts (is_some (protocol p)) (is_tcp p || is_udp p) b.0 in
    let c = and_parts (is_first p) (has_whole_header p) b.1 in
    let d = and_parts (is_some (total_len p)) (nat_le (header_len p) (datagram_len p)) c.1 in
    let e = and_parts (has_header p) (nat_lt (in_header (protocol_at p)) (length p)) (some_if (has_header p && nat_lt (in_header (protocol_at p)) (length p)) (header_byte p (protocol_at p)) a.0) in
    let f = and_parts (has_header p) (nat_le (in_header (length_at p + 2)) (length p) && (is_ipv4 p || nat_le (datagram_len p) 65535)) (some_if (has_header p && (nat_le (in_header (length_at p + 2)) (length p) && (is_ipv4 p || nat_le (datagram_len p) 65535))) (datagram_len p) d.0) in
    let g = and_parts (nat_le (in_header (length_at p + 2)) (length p)) (is_ipv4 p || nat_le (datagram_len p) 65535) f.1 in
    record {
      header = e.0;
      captured = ltb-true (in_header (protocol_at p)) (length p) e.1;
      length_there = leb-true (in_header (length_at p + 2)) (length p) g.0;
      short = g.1;
      kind = a.1;
      first = c.0;
      whole = leb-true (header_len p) (datagram_len p) d.1;
    }

pub protocol_captured : (p : List ℕ) → has_transport_protocol p ≡ true → in_header (protocol_at p) < length p
protocol_captured p there =
    let a = and_parts (is_some (protocol p)) (is_tcp p || is_udp p) there in
    let e = and_parts (has_header p) (nat_lt (in_header (protocol_at p)) (length p)) (some_if (has_header p && nat_lt (in_header (protocol_at p)) (length p)) (header_byte p (protocol_at p)) a.0) in
    ltb-true (in_header (protocol_at p)) (length p) e.1

pub segment_at-transport : (p : List ℕ) → has_transport p ≡ true → fields_end p ≤ segment_at p
segment_at-transport p there = header_len-least p (transport_parts p there).header

-- there is no transport header if there is no IP header
pub no_transport : (p : List ℕ) → None ≡ version_of p → has_transport p ≡ false
unfolding has_transport
no_transport p gone = let none = no_version p gone in let four = none.0 in let six = none.1 in cc

-- the format of a version is that of each packet of it
abbrev pub format_v4 : HeaderFormat
format_v4 = record { total_len = 4; uncounted = 0; ttl = 10; protocol = 11; src_ip = 14; dst_ip = 18; address_len = 4 }

abbrev pub format_v6 : HeaderFormat
format_v6 = record { total_len = 6; uncounted = 40; ttl = 9; protocol = 8; src_ip = 10; dst_ip = 26; address_len = 16 }

abbrev pub format_by : IpVersion → HeaderFormat
format_by V4 = format_v4
format_by V6 = format_v6

pub format_is : (v : IpVersion) (p : List ℕ) → version_of p ≡ Some v → format_by v ≡ format_of p
format_is V4 p is = let four : is_ipv6 p ≡ false = (version_is p V4 is).1 in rw four refl
format_is V6 p is = let six : is_ipv6 p ≡ true = (version_is p V6 is).1 in rw six refl

-- two packets of the same version
pub same_by : (v : IpVersion) (p q : List ℕ) → version_of p ≡ Some v → version_of q ≡ Some v → SameVersion p q
same_by V4 p q is is_q = let a = version_is p V4 is in let b = version_is q V4 is_q in record { four = a.0 ∙ sym b.0; six = a.1 ∙ sym b.1; there = (has_version p V4 is).there }
same_by V6 p q is is_q = let a = version_is p V6 is in let b = version_is q V6 is_q in record { four = a.0 ∙ sym b.0; six = a.1 ∙ sym b.1; there = (has_version p V6 is).there }

-- the test of the version
pub version_from : (v : IpVersion) (p : List ℕ) → is_version v p ≡ true → version_of p ≡ Some v
version_from V4 p there = cond-true (is_ipv4 p) (Some V4) (if is_ipv6 p then Some V6 else None) there
version_from V6 p there = cond-false (is_ipv4 p) (Some V4) (if is_ipv6 p then Some V6 else None) (is_ipv6-alone p there) ∙ cond-true (is_ipv6 p) (Some V6) None there

or_none : (a : Bool) → (a || false) ≡ a
or_none true = refl
or_none false = refl

pub version_test : (v : IpVersion) (p q : List ℕ) → version_of p ≡ Some v → is_version v q ≡ has_same_version p q
version_test V4 p q is = let k = version_is p V4 is in sym (cong2 (λ (a b : Bool). (a && is_ipv4 q) || (b && is_ipv6 q)) k.0 k.1 ∙ or_none (is_ipv4 q))
version_test V6 p q is = let k = version_is p V6 is in sym (cong2 (λ (a b : Bool). (a && is_ipv4 q) || (b && is_ipv6 q)) k.0 k.1)
