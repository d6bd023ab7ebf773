-- For proofs: to be the same address is an equivalence.
use Rattle.std.specs.Prelude.{◌≡◌, true, refl}
use Rattle.std.specs.Cmp.{IsEquivalence}
use Rattle.std.proofs.lemmas.Cmp.{nat_list_eq_equiv}
use Rattle.std.specs.Net.Addr.{ipv4_octets, ipv6_segments}
use Rattle.std.specs.declared.net.ip_addr.IpAddr.{IpAddr}
use Rattle.std.specs.declared.net.ip_addr.IpAddr.TheVariants.{V4, V6}
use Rattle.first_sight.specs.SameAddress.{is_same_address}

is_itself : (a : IpAddr) → is_same_address a a ≡ true
is_itself (V4 a) = nat_list_eq_equiv.refl (ipv4_octets a)
is_itself (V6 a) = nat_list_eq_equiv.refl (ipv6_segments a)

either_way : (a b : IpAddr) → is_same_address a b ≡ is_same_address b a
either_way (V4 a) (V4 b) = nat_list_eq_equiv.symm (ipv4_octets a) (ipv4_octets b)
either_way (V4 a) (V6 b) = refl
either_way (V6 a) (V4 b) = refl
either_way (V6 a) (V6 b) = nat_list_eq_equiv.symm (ipv6_segments a) (ipv6_segments b)

in_its_place : (a b c : IpAddr) → is_same_address a b ≡ true → is_same_address a c ≡ is_same_address b c
in_its_place (V4 a) (V4 b) (V4 c) same = nat_list_eq_equiv.congr (ipv4_octets a) (ipv4_octets b) (ipv4_octets c) same
in_its_place (V4 a) (V4 b) (V6 c) same = refl
in_its_place (V4 a) (V6 b) c same = absurd cc
in_its_place (V6 a) (V4 b) c same = absurd cc
in_its_place (V6 a) (V6 b) (V4 c) same = refl
in_its_place (V6 a) (V6 b) (V6 c) same = nat_list_eq_equiv.congr (ipv6_segments a) (ipv6_segments b) (ipv6_segments c) same

pub same_address : IsEquivalence is_same_address
same_address = record { refl = is_itself; symm = either_way; congr = in_its_place }
