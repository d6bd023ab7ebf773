-- The sum of bytes as words, word by word.
use Rattle.std.proofs.Common.{◌≡◌, ◌≤◌, ◌<◌, ◌+◌, ◌*◌, ◌∙◌, ℕ, List, [], ◌∷◌, sum, length, drop, get_or, length-drop, refl, arith}
use Rattle.std.proofs.lemmas.List.Sums.{sum_by-cons}
use Rattle.packet_fields.specs.Checksums.{words}

-- what a loop over words keeps: the sum so far, and what is left
pub record IsAtSum (so_far : ℕ) (bytes rest : List ℕ) : Type 0 where
  pub total : so_far + sum (words rest) ≡ sum (words bytes)
  pub bound : so_far + 65536 * length rest ≤ 65536 * length bytes

sum_two : (xs : List ℕ) → 2 ≤ length xs → sum (words xs) ≡ (get_or xs 0 0 * 256 + get_or xs 1 0) + sum (words (drop 2 xs))
unfolding words
sum_two (a ∷ b ∷ rest) long = sum_by-cons (λ (n : ℕ). n) (a * 256 + b) (words rest)
sum_two xs long = absurd (omega arith)

sum_one : (xs : List ℕ) → length xs ≡ 1 → sum (words xs) ≡ get_or xs 0 0 * 256
unfolding words
sum_one (a ∷ []) one = sum_by-cons (λ (n : ℕ). n) (a * 256) [] ∙ omega arith
sum_one xs one = absurd (omega arith)

sum_none : (xs : List ℕ) → length xs ≡ 0 → sum (words xs) ≡ 0
unfolding words
sum_none [] none = refl
sum_none (x ∷ xs) none = absurd (omega arith)

pub at_sum_more : (before after w : ℕ) (bytes r : List ℕ) → IsAtSum before bytes r → 2 ≤ length r → after ≡ before + w → w ≡ get_or r 0 0 * 256 + get_or r 1 0 → w < 65536
    → IsAtSum after bytes (drop 2 r)
at_sum_more before after w bytes r at long is is_w small =
    record {
      total = omega (arith, is, is_w, at.total, sum_two r long);
      bound = omega (arith, is, at.bound, length-drop 2 r, small, long);
    }

pub at_sum_one : (before after : ℕ) (bytes r : List ℕ) → IsAtSum before bytes r → length r ≡ 1 → after ≡ before + get_or r 0 0 * 256 → after ≡ sum (words bytes)
at_sum_one before after bytes r at one is = omega (arith, is, at.total, sum_one r one)

pub at_sum_none : (before : ℕ) (bytes r : List ℕ) → IsAtSum before bytes r → length r ≡ 0 → before ≡ sum (words bytes)
at_sum_none before bytes r at none = omega (arith, at.total, sum_none r none)
