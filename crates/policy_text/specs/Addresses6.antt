-- Believed: IPv6 addresses and prefixes as text (RFC 4291, 2.2 and 2.3). The form that ends in an IPv4 address
-- (2.2, 3) is left out.
use Rattle.std.specs.Prelude.{ℕ, ◌+◌, ◌-◌, ◌*◌, List, [], ◌∷◌, ◌++◌, length, take, drop, fold, position, replicate, Bool, if◌then◌else◌, ◌==◌, ◌&&◌, nat_le, Option, Some, None}
use Rattle.std.specs.Option.{option_map, option_and_then}
use Rattle.std.specs.List.{slice_split, list_all, zip}
use Rattle.std.specs.Char.{is_digit}
use Rattle.std.specs.Str.Parse.{digits_value}
use Rattle.policy_text.specs.Values.{number_of}

abbrev pub is_colon : ℕ → Bool
is_colon b = b == 58

-- 1 to 4 hexadecimal digits, of either case
abbrev pub is_group : List ℕ → Bool
is_group text = (nat_le 1 (length text) && nat_le (length text) 4) && list_all (λ b. is_digit b 16) text

-- its 16 bits
abbrev pub group_of : List ℕ → Option ℕ
group_of text = if is_group text then Some (digits_value 16 text) else None

-- the groups of parts, each of which has to be a group
abbrev pub each_group : List (List ℕ) → Option (List ℕ)
each_group [] = Some []
each_group (part ∷ parts) = option_and_then (λ g. option_map (λ gs. g ∷ gs) (each_group parts)) (group_of part)

-- groups separated by colons; the empty text has none
abbrev pub groups_of : List ℕ → Option (List ℕ)
groups_of [] = Some []
groups_of text = each_group (slice_split is_colon text)

-- where `::` first occurs: the first colon that a colon follows
abbrev pub gap_in : List ℕ → Option ℕ
gap_in text = position (λ pair. is_colon pair.0 && is_colon pair.1) (zip text (drop 1 text))

-- without `::` all eight are written
abbrev pub all_eight : List ℕ → Option (List ℕ)
all_eight groups = if length groups == 8 then Some groups else None

-- with `::` one or more groups of zero fill up the others to eight
abbrev pub with_zeros : List ℕ → List ℕ → Option (List ℕ)
with_zeros front back =
    let count = length front + length back in
    if nat_le count 7 then Some (front ++ replicate (8 - count) 0 ++ back) else None

-- the eight groups of a text with `::` between these two texts
abbrev pub groups_beside : List ℕ → List ℕ → Option (List ℕ)
groups_beside front back = option_and_then (λ f. option_and_then (with_zeros f) (groups_of back)) (groups_of front)

-- the eight groups of a text, given where `::` first occurs
abbrev pub groups_around : Option ℕ → List ℕ → Option (List ℕ)
groups_around None text = option_and_then all_eight (groups_of text)
groups_around (Some gap) text = groups_beside (take gap text) (drop (gap + 2) text)

-- groups as one number, the first in the highest bits
abbrev pub number_of_groups : List ℕ → ℕ
number_of_groups groups = fold (λ high group. high * 65536 + group) 0 groups

-- the address that a text spells
unfoldable pub address6_of : List ℕ → Option ℕ
address6_of text = option_map number_of_groups (groups_around (gap_in text) text)

-- an address, which means 128 bits, or an address, a slash and a number of bits
abbrev pub prefix6_of_parts : List (List ℕ) → Option (ℕ × ℕ)
prefix6_of_parts (address ∷ []) = option_map (λ a. (a, 128)) (address6_of address)
prefix6_of_parts (address ∷ bits ∷ []) = option_and_then (λ a. option_map (λ n. (a, n)) (number_of 3 128 bits)) (address6_of address)
prefix6_of_parts parts = None

abbrev pub prefix6_of : List ℕ → Option (ℕ × ℕ)
prefix6_of text = prefix6_of_parts (slice_split (λ b. b == 47) text)
