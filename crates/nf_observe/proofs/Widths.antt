-- What comes into a bucket fits in 128 bits.
use Rattle.std.proofs.Common.{◌<◌, ◌*◌, ◌^◌, ℕ}
use Rattle.std.proofs.lemmas.Nat.{mul-lt}

pub product_fits : (span rate : ℕ) → span < 2 ^ 64 → rate < 2 ^ 32 → span * rate < 2 ^ 96
product_fits span rate s r = mul-lt span rate (2 ^ 64) (2 ^ 32) s r
