-- For proofs: what a token bucket pays for in a row of packets, and the greatest amount of that.
use Rattle.std.specs.Prelude.{ℕ, ◌+◌, ◌-◌, ◌*◌, ◌≤◌, List, [], ◌∷◌, if◌then◌else◌}
use Rattle.nf_observe.specs.Buckets.{tokens_of, filled, affords, paid}
use Rattle.nf_observe.specs.declared.bucket.TokenBucket.{TokenBucket}

-- a packet of a source: when it arrives, in nanoseconds, and its number of bytes
abbrev pub Arrival : Type 0
Arrival = ℕ × ℕ

-- the bucket after these packets
abbrev pub left_by : ℕ → ℕ → TokenBucket → List Arrival → TokenBucket
left_by rate burst b [] = b
left_by rate burst b (p ∷ later) = left_by rate burst (paid (filled rate burst p.0 b) p.1) later

-- the bytes of those of these packets that it pays for
abbrev pub bytes_paid : ℕ → ℕ → TokenBucket → List Arrival → ℕ
bytes_paid rate burst b [] = 0
bytes_paid rate burst b (p ∷ later) =
    (if affords (filled rate burst p.0 b) p.1 then p.1 else 0) + bytes_paid rate burst (paid (filled rate burst p.0 b) p.1) later

-- the bytes of all of them
abbrev pub bytes_of : List Arrival → ℕ
bytes_of [] = 0
bytes_of (p ∷ later) = p.1 + bytes_of later

-- Up to each of these packets, what was sent since a moment is at most this number of tokens and what the rate brought
-- since then; this number of bytes was sent before them.
abbrev pub IsCovered : ℕ → ℕ → ℕ → ℕ → List Arrival → Type 0
IsCovered rate tokens moment sent [] = Unit {0}
IsCovered rate tokens moment sent (p ∷ later) = (tokens_of (sent + p.1) ≤ tokens + (p.0 - moment) * rate) × IsCovered rate tokens moment (sent + p.1) later

-- The packets keep to a rate: from each of them to each after it they have no more bytes than a burst and what the rate
-- brought meanwhile.
abbrev pub IsConforming : ℕ → ℕ → List Arrival → Type 0
IsConforming rate burst [] = Unit {0}
IsConforming rate burst (p ∷ later) = IsCovered rate (tokens_of burst) p.0 0 (p ∷ later) × IsConforming rate burst later

-- Time didn't go back, and what was paid, with what is left, is at most what was there and what came meanwhile.
pub record IsWithinRate (rate : ℕ) (before after : TokenBucket) (bytes : ℕ) : Type 0 where
  pub later : before.moment ≤ after.moment
  pub bounded : tokens_of bytes + after.tokens ≤ before.tokens + (after.moment - before.moment) * rate
