-- Believed: the values of settings that spell bytes: link addresses and patterns.
use Rattle.std.specs.Prelude.{ℕ, ◌+◌, ◌*◌, List, [], ◌∷◌, length, if◌then◌else◌, nat_lt, nat_le, ◌==◌, ◌&&◌, Option, Some, None, codes}
use Rattle.std.specs.Option.{option_map, option_and_then}
use Rattle.std.specs.List.{slice_split}
use Rattle.std.specs.Char.{digit_value}
use Rattle.std.specs.Str.{bytes_eq}

-- a hexadecimal digit, of either case
abbrev pub hex_digit_of : ℕ → Option ℕ
hex_digit_of b = if nat_lt (digit_value b) 16 then Some (digit_value b) else None

-- a byte of two hexadecimal digits, the high one first
abbrev pub byte_of_digits : ℕ → ℕ → Option ℕ
byte_of_digits high low = option_and_then (λ h. option_map (λ l. h * 16 + l) (hex_digit_of low)) (hex_digit_of high)

abbrev pub byte_of : List ℕ → Option ℕ
byte_of (high ∷ low ∷ []) = byte_of_digits high low
byte_of text = None

-- any number of bytes
abbrev pub bytes_of : List ℕ → Option (List ℕ)
bytes_of [] = Some []
bytes_of (digit ∷ []) = None
bytes_of (high ∷ low ∷ digits) = option_and_then (λ b. option_map (λ bs. b ∷ bs) (bytes_of digits)) (byte_of_digits high low)

-- six bytes, separated by colons (IEEE 802)
abbrev pub six_of : List ℕ → List ℕ → List ℕ → List ℕ → List ℕ → List ℕ → Option (List ℕ)
six_of a b c d e f =
    option_and_then (λ a. option_and_then (λ b. option_and_then (λ c. option_and_then (λ d. option_and_then (λ e. option_map (λ f. a ∷ b ∷ c ∷ d ∷ e ∷ f ∷ [])
    (byte_of f)) (byte_of e)) (byte_of d)) (byte_of c)) (byte_of b)) (byte_of a)

abbrev pub mac_of_parts : List (List ℕ) → Option (List ℕ)
mac_of_parts (a ∷ b ∷ c ∷ d ∷ e ∷ f ∷ []) = six_of a b c d e f
mac_of_parts parts = None

abbrev pub mac_of : List ℕ → Option (List ℕ)
mac_of text = mac_of_parts (slice_split (λ b. b == 58) text)

-- 1 to 256 bytes
abbrev pub limited : List ℕ → Option (List ℕ)
limited bytes = if nat_le 1 (length bytes) && nat_le (length bytes) 256 then Some bytes else None

-- `text` and the bytes of a word, or `hex` and the bytes that its digits spell
abbrev pub pattern_of : List ℕ → List ℕ → Option (List ℕ)
pattern_of form word =
    if bytes_eq form (codes "text") then limited word else
    if bytes_eq form (codes "hex") then option_and_then limited (bytes_of word) else None
