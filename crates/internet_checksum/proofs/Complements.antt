-- A sum and its complement.
use Rattle.std.proofs.Common.{◌≡◌, ◌<◌, ◌+◌, ◌-◌, ◌*◌, ◌/◌, ◌%◌, ◌∙◌, ℕ, List, ◌∷◌, ◌++◌, sum, length, ap, refl, arith}
use Rattle.std.specs.Prelude.{◌==◌}
use Rattle.std.proofs.lemmas.Bool.{cond-false, ne_eqb}
use Rattle.packet_fields.specs.Checksums.{words, folded}
use Rattle.packet_fields.proofs.Rightness.{sum-append, sum-cons}
use Rattle.packet_fields.proofs.WordSums.{words-append}
use Rattle.internet_checksum.specs.Checksums.{checksum_of}
use Rattle.internet_checksum.specs.Laws.{with_checksum, ChecksumsAreRight}

pub folded_some : (n : ℕ) → 0 < n → folded n ≡ (n - 1) % 0xffff + 1
folded_some n some = cond-false (n == 0) 0 ((n - 1) % 0xffff + 1) (ne_eqb n 0 (λ e. omega arith))

complement_core : (s f c total : ℕ) → 0 < s → f ≡ (s - 1) % 0xffff + 1 → c ≡ 0xffff - f → total ≡ s + c → (total - 1) % 0xffff + 1 ≡ 0xffff
complement_core s f c total some is_f is_c is_total = omega arith

pub complement_right : (s c total : ℕ) → 0 < s → c ≡ 0xffff - folded s → total ≡ s + c → folded total ≡ 0xffff
complement_right s c total some is_c is_total = folded_some total (omega arith) ∙ complement_core s (folded s) c total some (folded_some s some) is_c is_total

-- the sum of bytes with a word between them
word_between : (before behind : List ℕ) (high low : ℕ) → length before % 2 ≡ 0
    → sum (words (before ++ (high ∷ low ∷ behind))) ≡ sum (words before) + ((high * 256 + low) + sum (words behind))
unfolding words
word_between before behind high low even =
    ap (λ (ws : List ℕ). sum ws) (words-append before (high ∷ low ∷ behind) even)
    ∙ (sum-append (words before) ((high * 256 + low) ∷ words behind) ∙ ap (λ (n : ℕ). sum (words before) + n) (sum-cons (high * 256 + low) (words behind)))

sum_with : (before behind : List ℕ) (checksum : ℕ) → length before % 2 ≡ 0 → sum (words (with_checksum before checksum behind)) ≡ sum (words (with_checksum before 0 behind)) + checksum
sum_with before behind checksum even =
    omega (arith, word_between before behind (checksum / 256) (checksum % 256) even, word_between before behind 0 0 even)

pub right_with_checksum : ChecksumsAreRight
unfolding checksum_of
right_with_checksum before behind even some =
    let s = sum (words (with_checksum before 0 behind)) in
    let c = checksum_of (with_checksum before 0 behind) in
    complement_right s c (sum (words (with_checksum before c behind))) some refl (sum_with before behind c even)
