-- Believed: the weight of a list of bytes, and how more bytes change it.
use Rattle.std.specs.Prelude.{◌+◌, ◌*◌, ◌%◌, ◌^◌, ℕ, List, [], ◌∷◌, length}
use Rattle.nfp_outside.specs.declared.weight.Weight.{Weight}

-- the sum over these bytes of place times byte, if the first byte has this place
unfoldable pub sum_from : ℕ → List ℕ → ℕ
sum_from place [] = 0
sum_from place (byte ∷ bytes) = place * byte + sum_from (place + 1) bytes

-- the weight of a list of bytes: the sum over its bytes of place (counted from 1) times byte, modulo 2^64
abbrev pub weight_of : List ℕ → Weight
weight_of bytes = record { bytes = length bytes; sum = sum_from 1 bytes % 2 ^ 64 }

-- no bytes
abbrev pub no_weight : Weight
no_weight = record { bytes = 0; sum = 0 }

-- one more byte, whose place comes after those before
abbrev pub with_byte : Weight → ℕ → Weight
with_byte w byte = record { bytes = w.bytes + 1; sum = (w.sum + (w.bytes + 1) * byte) % 2 ^ 64 }

-- the weight after these bytes are appended to those weighed before; from no bytes it is the weight of the list
unfoldable pub heavier : List ℕ → Weight → Weight
heavier [] w = w
heavier (byte ∷ bytes) w = heavier bytes (with_byte w byte)
