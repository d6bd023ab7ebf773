-- For proofs: two to four bytes in a row, as a number.
use Rattle.std.specs.Prelude.{ℕ, ◌+◌, List, [], ◌∷◌, bit_and, slice_index}
use Rattle.std.specs.Int.{from_le_bytes, w32}
use Rattle.patterns.specs.declared.width.Width.{Width}
use Rattle.patterns.specs.declared.width.Width.TheVariants.{Two, Three, Four}

-- the number of bytes of a window
abbrev pub bytes_of : Width → ℕ
bytes_of Two = 2
bytes_of Three = 3
bytes_of Four = 4

-- their bits in four bytes, of which the first is the lowest
abbrev pub mask_of : Width → ℕ
mask_of Two = 65535
mask_of Three = 16777215
mask_of Four = 4294967295

-- the four bytes from a place on, as a number; after the end come zeros
unfoldable pub four_at : List ℕ → ℕ → ℕ
four_at bytes place = from_le_bytes w32 (slice_index bytes place ∷ slice_index bytes (place + 1) ∷ slice_index bytes (place + 2) ∷ slice_index bytes (place + 3) ∷ [])

-- the window at a place
unfoldable pub window_at : Width → List ℕ → ℕ → ℕ
window_at width bytes place = bit_and (four_at bytes place) (mask_of width)
