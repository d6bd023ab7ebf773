-- A step of the generator in numbers that wrap.
use Rattle.std.proofs.Common.{◌≡◌, ◌+◌, ◌*◌, ◌%◌, ◌^◌, ℕ, arith}
use Rattle.demo_capture.specs.Draws.{next_number}

-- a product and a sum that wrap, one after another
pub wrapped_twice : (x : ℕ) → ((x * 6364136223846793005) % 2 ^ 64 + 1442695040888963407) % 2 ^ 64 ≡ next_number x
unfolding next_number
wrapped_twice x = omega arith
