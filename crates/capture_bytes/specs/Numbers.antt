-- Believed: numbers in either byte order.
use Rattle.std.specs.Prelude.{◌<◌, ℕ, List, drop, slice_index}
use Rattle.byteorder.specs.Endian.{big_number, little_number, big_bytes, little_bytes}
use Rattle.capture_bytes.specs.declared.order.Endian.{Endian}
use Rattle.capture_bytes.specs.declared.order.Endian.TheVariants.{Big, Little}

-- the number in `n` bytes at a place, in this order
abbrev pub number_at : Endian → ℕ → ℕ → List ℕ → ℕ
number_at Big n at bytes = big_number n (drop at bytes)
number_at Little n at bytes = little_number n (drop at bytes)

-- the `n` bytes of a number, in this order
abbrev pub bytes_of : Endian → ℕ → ℕ → List ℕ
bytes_of Big n x = big_bytes n x
bytes_of Little n x = little_bytes n x

-- numbers that are bytes
abbrev pub IsBytes : List ℕ → Type 0
IsBytes bytes = (i : ℕ) → slice_index bytes i < 256
