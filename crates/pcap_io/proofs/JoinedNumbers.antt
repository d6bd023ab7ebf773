-- Numbers appended one after the other.
use Rattle.std.proofs.Common.{◌≡◌, ◌∙◌, ℕ, List, ◌++◌, length, take, ap, sym}
use Rattle.std.proofs.Math.Seq.{take-length}

whole : (n : ℕ) (bytes : List ℕ) → length bytes ≡ n → bytes ≡ take n bytes
whole n bytes size = sym (take-length bytes) ∙ ap (λ k. take k bytes) size

pub four_numbers : (b₁ b₂ b₃ b₄ x₁ x₂ x₃ x₄ : List ℕ) → length b₄ ≡ 16 → take 4 b₁ ≡ x₁ → take 8 b₂ ≡ take 4 b₁ ++ x₂ → take 12 b₃ ≡ take 8 b₂ ++ x₃ → take 16 b₄ ≡ take 12 b₃ ++ x₄ →
    b₄ ≡ x₁ ++ x₂ ++ x₃ ++ x₄
four_numbers b₁ b₂ b₃ b₄ x₁ x₂ x₃ x₄ size p q r s = whole 16 b₄ size ∙ s ∙ ap (λ l. l ++ x₄) (r ∙ ap (λ l. l ++ x₃) (q ∙ ap (λ l. l ++ x₂) p))

pub seven_numbers : (b₁ b₂ b₃ b₄ b₅ b₆ b₇ x₁ x₂ x₃ x₄ x₅ x₆ x₇ : List ℕ) → length b₇ ≡ 24 → take 4 b₁ ≡ x₁ → take 6 b₂ ≡ take 4 b₁ ++ x₂ → take 8 b₃ ≡ take 6 b₂ ++ x₃ → take 12 b₄ ≡ take 8 b₃ ++ x₄ →
    take 16 b₅ ≡ take 12 b₄ ++ x₅ → take 20 b₆ ≡ take 16 b₅ ++ x₆ → take 24 b₇ ≡ take 20 b₆ ++ x₇ → b₇ ≡ x₁ ++ x₂ ++ x₃ ++ x₄ ++ x₅ ++ x₆ ++ x₇
seven_numbers b₁ b₂ b₃ b₄ b₅ b₆ b₇ x₁ x₂ x₃ x₄ x₅ x₆ x₇ size p q r s t u v =
    whole 24 b₇ size ∙ v ∙ ap (λ l. l ++ x₇) (u ∙ ap (λ l. l ++ x₆) (t ∙ ap (λ l. l ++ x₅) (s ∙ ap (λ l. l ++ x₄) (r ∙ ap (λ l. l ++ x₃) (q ∙ ap (λ l. l ++ x₂) p)))))
