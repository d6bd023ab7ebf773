-- What is written piece by piece.
use Rattle.std.proofs.Common.{◌≡◌, ◌≤◌, ◌-◌, ◌∙◌, ℕ, zero, suc, List, [], ◌∷◌, ◌++◌, length, take, drop, refl, ap, sym, append_assoc, length-drop, arith}
use Rattle.std.specs.Prelude.{replicate}
use Rattle.std.proofs.Math.Seq.{take-length}
use Rattle.std.proofs.lemmas.List.{append-nil, take-replicate}
use Rattle.capture_bytes.specs.Numbers.{bytes_of}
use Rattle.pcapng_io.specs.declared.item.NgPacket.{NgPacket}
use Rattle.pcapng_io.specs.Options.{padded}
use Rattle.pcapng_io.specs.Written.{packet_head, packet_length, packet_bytes}

-- seven numbers of four bytes, put one after the other
pub seven_fours : (b₁ b₂ b₃ b₄ b₅ b₆ b₇ x₁ x₂ x₃ x₄ x₅ x₆ x₇ : List ℕ) → length b₇ ≡ 28 → take 4 b₁ ≡ x₁ → take 8 b₂ ≡ take 4 b₁ ++ x₂ → take 12 b₃ ≡ take 8 b₂ ++ x₃ → take 16 b₄ ≡ take 12 b₃ ++ x₄ →
    take 20 b₅ ≡ take 16 b₄ ++ x₅ → take 24 b₆ ≡ take 20 b₅ ++ x₆ → take 28 b₇ ≡ take 24 b₆ ++ x₇ → b₇ ≡ x₁ ++ x₂ ++ x₃ ++ x₄ ++ x₅ ++ x₆ ++ x₇
seven_fours b₁ b₂ b₃ b₄ b₅ b₆ b₇ x₁ x₂ x₃ x₄ x₅ x₆ x₇ size p q r s t u v =
    sym (take-length b₇) ∙ ap (λ k. take k b₇) size ∙ v ∙ ap (λ l. l ++ x₇) (u ∙ ap (λ l. l ++ x₆) (t ∙ ap (λ l. l ++ x₅) (s ∙ ap (λ l. l ++ x₄) (r ∙ ap (λ l. l ++ x₃) (q ∙ ap (λ l. l ++ x₂) p)))))

-- zeros up to a multiple of four
pub zeros : (k : ℕ) → k ≤ 4 → take {A = ℕ} k (0 ∷ 0 ∷ 0 ∷ 0 ∷ []) ≡ replicate k 0
zeros zero h = refl
zeros (suc zero) h = refl
zeros (suc (suc zero)) h = refl
zeros (suc (suc (suc zero))) h = refl
zeros (suc (suc (suc (suc zero)))) h = refl
zeros (suc (suc (suc (suc (suc k))))) h = absurd (omega arith)

-- the pieces of a packet's block
pub packet_whole : (p : NgPacket) (head frame : List ℕ) (room size : ℕ) → head ≡ packet_head p → frame ≡ p.packet.frame → room ≡ padded (length p.packet.frame) - length p.packet.frame → size ≡ packet_length p →
    (head ++ frame) ++ (replicate room 0 ++ p.options ++ bytes_of p.order 4 size) ≡ packet_bytes p
packet_whole p head frame room size a b c d =
    sym (append_assoc (head ++ frame) (replicate room 0 ++ p.options) (bytes_of p.order 4 size))
    ∙ ap (λ l. l ++ bytes_of p.order 4 size) (sym (append_assoc (head ++ frame) (replicate room 0) p.options))
    ∙ (λ i. a i ++ b i ++ replicate (c i) 0 ++ p.options ++ bytes_of p.order 4 (d i))

-- zeros at the front of more of them
pub zeros_of : (k : ℕ) → k ≤ 4 → take {A = ℕ} k (replicate 8 0) ≡ replicate k 0
zeros_of k h = take-replicate k 8 0 (omega arith)

-- what follows a frame, if there are no options
pub tail_whole : (zeros options tail : List ℕ) → options ≡ [] → zeros ++ tail ≡ zeros ++ options ++ tail
tail_whole zeros options tail none = sym (ap (λ l. l ++ tail) (ap (λ o. zeros ++ o) none ∙ append-nil zeros))

-- what remains after the first bytes
pub rest_is : (n : ℕ) (block : List ℕ) → take (length block - n) (drop n block) ≡ drop n block
rest_is n block = ap (λ k. take k (drop n block)) (sym (length-drop n block)) ∙ take-length (drop n block)
