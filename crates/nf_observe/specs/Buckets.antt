-- Believed: token buckets: how they fill, and what a packet costs.
use Rattle.std.specs.Prelude.{ℕ, ◌+◌, ◌-◌, ◌*◌, min, Bool, nat_lt, nat_le, if◌then◌else◌}
use Rattle.nf_observe.specs.declared.bucket.TokenBucket.{TokenBucket}

-- A token is what a rate of one byte a second brings in one nanosecond, so a byte costs a thousand million.
abbrev pub tokens_of : ℕ → ℕ
tokens_of bytes = bytes * 1000000000

-- a full bucket, which holds the tokens of this number of bytes
abbrev pub full : ℕ → ℕ → TokenBucket
full burst time = record { tokens = tokens_of burst; moment = time }

-- The bucket at this time: with what came since its moment, and no more than it holds. An earlier time changes nothing.
abbrev pub filled : ℕ → ℕ → ℕ → TokenBucket → TokenBucket
filled rate burst time b =
    if nat_lt b.moment time then record { tokens = min (tokens_of burst) (b.tokens + (time - b.moment) * rate); moment = time } else b

-- it has the tokens of this number of bytes
abbrev pub affords : TokenBucket → ℕ → Bool
affords b bytes = nat_le (tokens_of bytes) b.tokens

-- the bucket after it paid for this number of bytes, if it can
abbrev pub paid : TokenBucket → ℕ → TokenBucket
paid b bytes = if affords b bytes then record b { tokens = b.tokens - tokens_of bytes } else b
