-- Worked rows: keys that are seen again and again, and addresses as text.
use Rattle.std.proofs.Common.{◌≡◌, ℕ, List, [], ◌∷◌, refl}
use Rattle.std.specs.Prelude.{codes, nat_eq, Some, None}
use Rattle.std.specs.Fmt.{digits}
use Rattle.std.specs.Map.{keys_of}
use Rattle.std.specs.Net.Text.{groups_text, hex}
use Rattle.first_sight.specs.Addresses.{dotted}
use Rattle.first_sight.specs.FirstSight.{place_of, seen_with, belonging, noted, lines_by}

-- 7 has 70, 4 has 40, and 9 has 90
abbrev three : List (ℕ × ℕ)
three = (7, 70) ∷ (4, 40) ∷ (9, 90) ∷ []

-- a new key goes last, and one that was seen keeps its place and gets the value
new_goes_last : noted nat_eq ((7, 70) ∷ (4, 40) ∷ []) 9 90 ≡ three
new_goes_last = refl

seen_stays : noted nat_eq three 4 41 ≡ (7, 70) ∷ (4, 41) ∷ (9, 90) ∷ []
seen_stays = refl

finds_own : belonging nat_eq (noted nat_eq three 4 41) 4 ≡ Some 41
finds_own = refl

finds_none : belonging nat_eq three 5 ≡ None
finds_none = refl

-- places are counted from 0, and that of a new key is after the others
second_place : place_of nat_eq (keys_of three) 4 ≡ 1
second_place = refl

new_place : place_of nat_eq (keys_of three) 5 ≡ 3
new_place = refl

sees_again : seen_with nat_eq (seen_with nat_eq (keys_of three) 5) 7 ≡ 7 ∷ 4 ∷ 9 ∷ 5 ∷ []
sees_again = refl

-- each line gets its place
tells_places : lines_by (λ place e. place ∷ e.0 ∷ e.1 ∷ []) three ≡ 0 ∷ 7 ∷ 70 ∷ 1 ∷ 4 ∷ 40 ∷ 2 ∷ 9 ∷ 90 ∷ []
tells_places = refl

-- 10.1.2.3 is 167838211
tells_address : dotted 167838211 ≡ codes "10.1.2.3"
unfolding dotted digits
tells_address = refl

tells_ends : dotted 3232235775 ≡ codes "192.168.0.255"
unfolding dotted digits
tells_ends = refl

-- the groups of 2001:db8::1 and of fedc:ba98:7654:3210:fedc:ba98:7654:3210 (RFC 4291, 2.2)
tells_groups : groups_text (0x2001 ∷ 0xdb8 ∷ 0 ∷ 0 ∷ 0 ∷ 0 ∷ 0 ∷ 1 ∷ []) ≡ codes "2001:db8:0:0:0:0:0:1"
unfolding hex
tells_groups = refl

tells_all_digits : groups_text (0xfedc ∷ 0xba98 ∷ 0x7654 ∷ 0x3210 ∷ 0xfedc ∷ 0xba98 ∷ 0x7654 ∷ 0x3210 ∷ []) ≡ codes "fedc:ba98:7654:3210:fedc:ba98:7654:3210"
unfolding hex
tells_all_digits = refl
