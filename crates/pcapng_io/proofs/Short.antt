-- A short packet's block, put in one piece.
use Rattle.std.proofs.Common.{◌≡◌, ◌≤◌, ◌+◌, ◌-◌, ◌∙◌, ℕ, List, ◌++◌, length, length-append, take, drop, ap, sym, append_assoc, arith}
use Rattle.std.specs.Prelude.{replicate}
use Rattle.std.proofs.Math.Seq.{take-append-add}
use Rattle.std.proofs.lemmas.List.{take_at, drop_at, take-replicate, drop-replicate}

-- a head and a frame, put one after the other over zeros
pub front_whole : (head frame : List ℕ) → length head ≡ 28 →
    take 28 (take 0 (replicate 256 0) ++ (head ++ drop (length head) (drop 0 (replicate 256 0)))) ++ (frame ++ drop (length frame) (drop 28 (take 0 (replicate 256 0) ++ (head ++ drop (length head) (drop 0 (replicate 256 0)))))) ≡ (head ++ frame) ++ replicate (228 - length frame) 0
front_whole head frame size =
    let rest : drop (length head) (replicate 256 0) ≡ replicate 228 0 = ap (λ n. drop n (replicate 256 0)) size in
    (λ i. take_at head (drop (length head) (replicate 256 0)) 28 size i ++ (frame ++ drop (length frame) (drop_at head (drop (length head) (replicate 256 0)) 28 size i)))
    ∙ ap (λ l. head ++ (frame ++ l)) (ap (drop (length frame)) rest ∙ drop-replicate (length frame) 228 0)
    ∙ sym (append_assoc head frame (replicate (228 - length frame) 0))

-- what is before a block's last length
pub before_size : (head frame : List ℕ) (padding : ℕ) → length head ≡ 28 → length frame ≤ 220 → padding ≤ 4 →
    take (28 + length frame + padding) ((head ++ frame) ++ replicate (228 - length frame) 0) ≡ (head ++ frame) ++ replicate padding 0
before_size head frame padding size short few =
    ap (λ n. take (n + padding) ((head ++ frame) ++ replicate (228 - length frame) 0)) (sym (length-append head frame ∙ ap (λ n. n + length frame) size))
    ∙ take-append-add (head ++ frame) (replicate (228 - length frame) 0) padding
    ∙ ap (λ l. (head ++ frame) ++ l) (take-replicate padding (228 - length frame) 0 (omega arith))

-- the whole of it
pub short_whole : (head frame last block : List ℕ) (padding : ℕ) → length head ≡ 28 → length frame ≤ 220 → padding ≤ 4 →
    take (28 + length frame + padding + 4) block ≡ take (28 + length frame + padding) ((head ++ frame) ++ replicate (228 - length frame) 0) ++ last →
    take (28 + length frame + padding + 4) block ≡ (head ++ frame) ++ (replicate padding 0 ++ last)
short_whole head frame last block padding size short few is =
    is ∙ ap (λ l. l ++ last) (before_size head frame padding size short few) ∙ append_assoc (head ++ frame) (replicate padding 0) last

-- the same, for the pieces as they are put
pub pieces_whole : (head frame last one two block : List ℕ) (padding : ℕ) → length head ≡ 28 → length frame ≤ 220 → padding ≤ 4 →
    one ≡ take 0 (replicate 256 0) ++ (head ++ drop (length head) (drop 0 (replicate 256 0))) → two ≡ take 28 one ++ (frame ++ drop (length frame) (drop 28 one)) →
    take (28 + length frame + padding + 4) block ≡ take (28 + length frame + padding) two ++ last →
    take (28 + length frame + padding + 4) block ≡ (head ++ frame) ++ (replicate padding 0 ++ last)
pieces_whole head frame last one two block padding size short few first second third =
    short_whole head frame last block padding size short few
    (third ∙ ap (λ l. take (28 + length frame + padding) l ++ last) (second ∙ ap (λ l. take 28 l ++ (frame ++ drop (length frame) (drop 28 l))) first ∙ front_whole head frame size))
