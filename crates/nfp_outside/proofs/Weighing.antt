-- How weights add up.
use Rattle.std.proofs.Common.{◌≡◌, ◌<◌, ◌+◌, ◌*◌, ◌%◌, ◌^◌, ◌∙◌, ℕ, List, [], ◌∷◌, length, take, ap, sym, arith}
use Rattle.std.proofs.Math.Nat.{mod-add-mod}
use Rattle.std.proofs.lemmas.List.{take_more}
use Rattle.std.specs.Prelude.{slice_index_or}
use Rattle.nfp_outside.specs.declared.weight.Weight.{Weight}
use Rattle.nfp_outside.specs.Weights.{sum_from, weight_of, no_weight, with_byte, heavier}
use Rattle.nfp_outside.specs.Adding.{heavier_more}

-- a list with one more byte
pub heavier_byte : (bytes : List ℕ) (i d : ℕ) (w : Weight) → i < length bytes → heavier (take (i + 1) bytes) w ≡ with_byte (heavier (take i bytes) w) (slice_index_or bytes i d)
unfolding heavier
heavier_byte bytes i d w inside = ap (λ l. heavier l w) (take_more bytes i d inside) ∙ sym (heavier_more (take i bytes) (slice_index_or bytes i d ∷ []) w)

weight_at : ℕ → ℕ → Weight
weight_at n s = record { bytes = n; sum = s }

weighs : (bytes : List ℕ) (n s : ℕ) → heavier bytes (weight_at n (s % 2 ^ 64)) ≡ weight_at (n + length bytes) ((s + sum_from (n + 1) bytes) % 2 ^ 64)
unfolding heavier sum_from weight_at
weighs [] n s =
    let sum : s ≡ s + 0 = omega arith in
    let count : n ≡ n + 0 = omega arith in
    ap (λ x. weight_at n (x % 2 ^ 64)) sum ∙ ap (λ c. weight_at c ((s + 0) % 2 ^ 64)) count
weighs (x ∷ bytes) n s =
    let all : (s + (n + 1) * x) + sum_from (n + 1 + 1) bytes ≡ s + ((n + 1) * x + sum_from (n + 1 + 1) bytes) = omega arith in
    let count : n + 1 + length bytes ≡ n + length (x ∷ bytes) = omega arith in
    ap (λ t. heavier bytes (weight_at (n + 1) t)) (mod-add-mod s (2 ^ 64) ((n + 1) * x)) ∙ weighs bytes (n + 1) (s + (n + 1) * x) ∙
    ap (λ t. weight_at (n + 1 + length bytes) (t % 2 ^ 64)) all ∙ ap (λ c. weight_at c ((s + ((n + 1) * x + sum_from (n + 1 + 1) bytes)) % 2 ^ 64)) count

-- starting from nothing, the weight of bytes is the weight of their list
pub heavier_none : (bytes : List ℕ) → heavier bytes no_weight ≡ weight_of bytes
unfolding weight_at
heavier_none bytes =
    let sum : 0 + sum_from 1 bytes ≡ sum_from 1 bytes = omega arith in
    let count : 0 + length bytes ≡ length bytes = omega arith in
    weighs bytes 0 0 ∙ ap (λ t. weight_at (0 + length bytes) (t % 2 ^ 64)) sum ∙ ap (λ c. weight_at c (sum_from 1 bytes % 2 ^ 64)) count
