-- Believed: the values of a policy text. Addresses (RFC 791) have their first byte in the highest bits.
use Rattle.std.specs.Prelude.{ℕ, ◌+◌, ◌*◌, List, [], ◌∷◌, length, Bool, if◌then◌else◌, ◌==◌, nat_le, ◌&&◌, ◌||◌, slice_index, Option, Some, None}
use Rattle.std.specs.Option.{option_map, option_and_then}
use Rattle.std.specs.List.{slice_split, list_all}
use Rattle.std.specs.Char.{is_ascii_lowercase, is_ascii_digit}
use Rattle.std.specs.Str.Parse.{digits_value}

abbrev pub is_name_byte : ℕ → Bool
is_name_byte b = is_ascii_lowercase b || (is_ascii_digit b || ((b == 95) || (b == 45)))

-- 1 to 32 lower-case letters, digits, underscores and dashes, a letter first
abbrev pub is_name : List ℕ → Bool
is_name text = (nat_le 1 (length text) && nat_le (length text) 32) && (is_ascii_lowercase (slice_index text 0) && list_all is_name_byte text)

-- 1 to this number of decimal digits
abbrev pub is_numeral : ℕ → List ℕ → Bool
is_numeral digits text = (nat_le 1 (length text) && nat_le (length text) digits) && list_all is_ascii_digit text

-- the number of such a numeral, up to a greatest; leading zeros are allowed
abbrev pub number_of : ℕ → ℕ → List ℕ → Option ℕ
number_of digits greatest text = if is_numeral digits text && nat_le (digits_value 10 text) greatest then Some (digits_value 10 text) else None

-- four numbers of 1 to 3 digits, up to 255
abbrev pub octets_of : List ℕ → List ℕ → List ℕ → List ℕ → Option ℕ
octets_of a b c d =
    option_and_then (λ a. option_and_then (λ b. option_and_then (λ c. option_map (λ d. ((a * 256 + b) * 256 + c) * 256 + d)
    (number_of 3 255 d)) (number_of 3 255 c)) (number_of 3 255 b)) (number_of 3 255 a)

-- separated by dots
abbrev pub address_of_parts : List (List ℕ) → Option ℕ
address_of_parts (a ∷ b ∷ c ∷ d ∷ []) = octets_of a b c d
address_of_parts parts = None

abbrev pub address_of : List ℕ → Option ℕ
address_of text = address_of_parts (slice_split (λ b. b == 46) text)

-- an address, which means 32 bits, or an address, a slash and a number of bits
abbrev pub prefix_of_parts : List (List ℕ) → Option (ℕ × ℕ)
prefix_of_parts (address ∷ []) = option_map (λ a. (a, 32)) (address_of address)
prefix_of_parts (address ∷ bits ∷ []) = option_and_then (λ a. option_map (λ n. (a, n)) (number_of 2 32 bits)) (address_of address)
prefix_of_parts parts = None

abbrev pub prefix_of : List ℕ → Option (ℕ × ℕ)
prefix_of text = prefix_of_parts (slice_split (λ b. b == 47) text)

-- a port, or two with a dash between them, the first at most the second
abbrev pub ordered : ℕ → ℕ → Option (ℕ × ℕ)
ordered low high = if nat_le low high then Some (low, high) else None

abbrev pub range_of_parts : List (List ℕ) → Option (ℕ × ℕ)
range_of_parts (port ∷ []) = option_map (λ n. (n, n)) (number_of 20 65535 port)
range_of_parts (low ∷ high ∷ []) = option_and_then (λ low. option_and_then (λ high. ordered low high) (number_of 20 65535 high)) (number_of 20 65535 low)
range_of_parts parts = None

abbrev pub range_of : List ℕ → Option (ℕ × ℕ)
range_of text = range_of_parts (slice_split (λ b. b == 45) text)
