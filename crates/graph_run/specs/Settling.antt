-- For proofs: which notes of a packet are settled.
use Rattle.std.specs.Prelude.{ℕ, nat_lt, Bool, false}
use Rattle.chain_walk.specs.declared.walk.Fate.{Fate}
use Rattle.chain_walk.specs.declared.walk.Fate.TheVariants.{Out, Gone}

-- a packet that ended so was dropped before this position
abbrev pub gone_at : Fate → ℕ → Bool
gone_at (Out frame) q = false
gone_at (Gone p) q = nat_lt p q
