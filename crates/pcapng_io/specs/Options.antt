-- Believed: the options after the fixed fields of a block (draft-ietf-opsawg-pcapng, "Options").
use Rattle.std.specs.Prelude.{◌+◌, ◌*◌, ◌/◌, ℕ, zero, suc, List, [], ◌∷◌, ◌++◌, length, take, drop, if◌then◌else◌, ◌==◌, ◌&&◌, ◌||◌, nat_lt, slice_index, Bool, Option, Some, None}
use Rattle.std.specs.Option.{option_map}
use Rattle.capture_bytes.specs.declared.order.Endian.{Endian}
use Rattle.capture_bytes.specs.Numbers.{number_at}

-- the length of bytes that are padded to a multiple of four
abbrev pub padded : ℕ → ℕ
padded n = (n + 3) / 4 * 4

-- an option: its code and its value
pub record BlockOption : Type 0 where
  pub code : ℕ
  pub value : List ℕ

-- The options at the front, up to `n` of them: each is a code (2 bytes), a length (2) and a padded value. The list ends
-- with the bytes or with code 0 (opt_endofopt); None if an option runs past the bytes.
abbrev pub options_within : ℕ → Endian → List ℕ → Option (List BlockOption)
options_within zero order bytes = Some []
options_within (suc n) order bytes =
    if length bytes == 0 then Some []
    else if number_at order 2 0 bytes == 0 then Some []
    else if nat_lt (length bytes) (4 + padded (number_at order 2 2 bytes)) then None
    else option_map (λ more. record { code = number_at order 2 0 bytes; value = take (number_at order 2 2 bytes) (drop 4 bytes) } ∷ more)
    (options_within n order (drop (4 + padded (number_at order 2 2 bytes)) bytes))

-- all of them; an option takes bytes, so a number of bytes is enough
unfoldable pub options_of : Endian → List ℕ → Option (List BlockOption)
options_of order bytes = options_within (length bytes) order bytes

-- the length of the option at the front, its head and its padding included; 0 where the list ends: with the bytes, with
-- code 0, or with an option that runs past the bytes
abbrev pub front_length : Endian → List ℕ → ℕ
front_length order bytes =
    if length bytes == 0 then 0
    else if number_at order 2 0 bytes == 0 then 0
    else if nat_lt (length bytes) (4 + padded (number_at order 2 2 bytes)) then 0
    else 4 + padded (number_at order 2 2 bytes)

-- custom options, of text and of bytes, that a changed capture must not have ("Custom Options")
abbrev pub is_uncopied : ℕ → Bool
is_uncopied code = (code == 19372) || (code == 19373)

-- the option of this length at the front, if it is copied
abbrev pub front_copied : Endian → ℕ → List ℕ → List ℕ
front_copied order size bytes = if is_uncopied (number_at order 2 0 bytes) then [] else take size bytes

-- The bytes of up to `n` options at the front without those that aren't copied. What follows the end of the list is not
-- looked at, and stays.
abbrev pub copied_within : ℕ → Endian → List ℕ → List ℕ
copied_within zero order bytes = bytes
copied_within (suc n) order bytes =
    if front_length order bytes == 0 then bytes
    else front_copied order (front_length order bytes) bytes ++ copied_within n order (drop (front_length order bytes) bytes)

-- the same of all of them
unfoldable pub copied : Endian → List ℕ → List ℕ
copied order bytes = copied_within (length bytes) order bytes

-- the resolution of an interface with these options: the first option 9 (if_tsresol) of one byte, else microseconds
abbrev pub resolution_among : List BlockOption → ℕ
resolution_among [] = 6
resolution_among (o ∷ more) = if (o.code == 9) && (length o.value == 1) then slice_index o.value 0 else resolution_among more

abbrev pub resolution_of : Option (List BlockOption) → ℕ
resolution_of None = 6
resolution_of (Some options) = resolution_among options
