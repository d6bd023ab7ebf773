-- For proofs: when bytes with their checksum are right.
use Rattle.std.specs.Prelude.{◌≡◌, ◌<◌, ℕ, ◌%◌, List, ◌++◌, length, sum}
use Rattle.packet_fields.specs.Checksums.{words, word_bytes, IsRight}
use Rattle.internet_checksum.specs.Checksums.{checksum_of}

-- bytes with their checksum in the middle, after an even number of bytes
abbrev pub with_checksum : List ℕ → ℕ → List ℕ → List ℕ
with_checksum before checksum behind = before ++ (word_bytes checksum ++ behind)

-- with their own checksum they are right, unless all of them are 0
abbrev pub ChecksumsAreRight : Type 0
ChecksumsAreRight =
    (before behind : List ℕ) → length before % 2 ≡ 0 → 0 < sum (words (with_checksum before 0 behind))
    → IsRight (words (with_checksum before (checksum_of (with_checksum before 0 behind)) behind))
