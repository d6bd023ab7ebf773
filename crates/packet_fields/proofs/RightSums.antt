-- Right checksums stay right: the sums of a header and of a segment in their parts.
use Rattle.std.proofs.Common.{lit<, ◌≡◌, ◌≤◌, ◌<◌, ◌+◌, ◌-◌, ◌*◌, ◌/◌, ◌%◌, ◌∙◌, ℕ, List, [], ◌∷◌, ◌++◌, sum, length, take, drop, get_or, length-take, length-append, true, ◌&&◌, sym, ap, refl, arith, subst, ⊎_elim}
use Rattle.std.specs.Prelude.{Option, Some, None, nat_le}
use Rattle.std.proofs.lemmas.Bool.{and_from, le-leb, cases_lt, cond-true, cond_both}
use Rattle.std.proofs.lemmas.List.{take-append-drop, take-take, drop-take, drop-drop, get_or-drop, get_or-take, get_or_past, get_or_append_left, get_or-append_right}
use Rattle.packet_fields.specs.Frames.{word}
use Rattle.packet_fields.specs.Packets.{is_ipv4, header_len, header_sum_at}
use Rattle.packet_fields.specs.Checksums.{words, word_bytes, folded, is_changed, change_sum, adjusted, header_words, word_put, header_sealed, IsRight, IsBytes, header_of}
use Rattle.packet_fields.specs.Writing.{overwritten}
use Rattle.packet_fields.proofs.Overwriting.{cong2, cong3, length-overwritten, get_or-within, bytes_before, drop-overwritten}
use Rattle.packet_fields.proofs.Versions.{begins_ipv4, header_len-ipv4}
use Rattle.packet_fields.proofs.Shapes.{SameShape, same_header}
use Rattle.packet_fields.proofs.Sealed.{SamePlaces, header_keeps}
use Rattle.packet_fields.proofs.ChecksumSteps.{same_part, part_len}
use Rattle.packet_fields.proofs.WordSums.{words-append, words-two, same_words_len}
use Rattle.packet_fields.proofs.Rightness.{all_words, sum-cons, sum-append, adjusted_right, right_from, bytes-drop, part_two}

take-add : (m n : ℕ) (xs : List ℕ) → take (m + n) xs ≡ take m xs ++ take n (drop m xs)
take-add m n xs = sym (take-append-drop m (take (m + n) xs)) ∙ cong2 (λ (a b : List ℕ). a ++ b) (take-take m (m + n) xs (omega arith)) (drop-take m n xs)

-- bytes from `m` to `n` and from `n` on
pub cut_at : (m n k : ℕ) (xs : List ℕ) → k ≡ m + n → take k xs ≡ take m xs ++ take n (drop m xs)
cut_at m n k xs is = ap (λ (j : ℕ). take j xs) is ∙ take-add m n xs

words-word : (a b : ℕ) (xs : List ℕ) → words ((a ∷ b ∷ []) ++ xs) ≡ (a * 256 + b) ∷ words xs
unfolding words
words-word a b xs = refl

-- the sum of bytes that begin with an even number of others
pub sum-even : (xs ys : List ℕ) → length xs % 2 ≡ 0 → sum (words (xs ++ ys)) ≡ sum (words xs) + sum (words ys)
sum-even xs ys even = ap (λ (ws : List ℕ). sum ws) (words-append xs ys even) ∙ sum-append (words xs) (words ys)

-- the sum of bytes that begin with a word of the packet
pub sum-word : (p : List ℕ) (at : ℕ) (ys : List ℕ) → at + 2 ≤ length p → sum (words (take 2 (drop at p) ++ ys)) ≡ word p at + sum (words ys)
sum-word p at ys inside =
    ap (λ (xs : List ℕ). sum (words (xs ++ ys))) (part_two p at inside) ∙ (ap (λ (ws : List ℕ). sum ws) (words-word (get_or p at 0) (get_or p (at + 1) 0) ys) ∙ sum-cons (word p at) (words ys))

pub bytes-take : (n : ℕ) (xs : List ℕ) → IsBytes xs → IsBytes (take n xs)
bytes-take n xs bytes = λ i.
    ⊎_elim
    (λ (inside : i < n). subst (λ (b : ℕ). b < 256) (sym (get_or-take n xs i 0 inside)) (bytes i))
    (λ (past : n ≤ i). subst (λ (b : ℕ). b < 256) (sym (get_or_past (take n xs) i 0 (omega (arith, length-take n xs)))) (lit< tt))
    (cases_lt i n)

pub bytes-append : (xs ys : List ℕ) → IsBytes xs → IsBytes ys → IsBytes (xs ++ ys)
bytes-append xs ys bx by = λ i.
    ⊎_elim
    (λ (inside : i < length xs). subst (λ (b : ℕ). b < 256) (sym (get_or_append_left xs ys 0 i inside)) (bx i))
    (λ (past : length xs ≤ i). subst (λ (b : ℕ). b < 256) (sym (get_or-append_right xs ys (length xs) i 0 refl past)) (by (i - length xs)))
    (cases_lt i (length xs))

pub part_bytes : (n k : ℕ) (p : List ℕ) → IsBytes p → IsBytes (take n (drop k p))
part_bytes n k p bytes = bytes-take n (drop k p) (bytes-drop k p bytes)

pub word_small : (p : List ℕ) (at : ℕ) → IsBytes p → word p at ≤ 0xffff
word_small p at bytes = let a = bytes at in let b = bytes (at + 1) in omega (arith, a, b)

pub adjusted_small : (checksum : ℕ) (old new : List ℕ) → checksum ≤ 0xffff → adjusted checksum old new ≤ 0xffff
adjusted_small checksum old new small = cond_both (is_changed old new) (0xffff - folded ((0xffff - checksum) + change_sum old new)) checksum (λ (n : ℕ). n ≤ 0xffff) (λ _. omega arith) (λ _. small)

-- a word that was put in its place
pub word_there : (at n : ℕ) (q : List ℕ) → n ≤ 0xffff → at + 2 ≤ length q → word (overwritten at (word_bytes n) q) at ≡ n
word_there at n q small inside =
    let zero : at - at ≡ 0 = omega arith in
    let one : at + 1 - at ≡ 1 = omega arith in
    let high : get_or (overwritten at (word_bytes n) q) at 0 ≡ n / 256 = get_or-within at (word_bytes n) q at 0 inside (omega arith) (omega arith) ∙ ap (λ (k : ℕ). get_or (word_bytes n) k 0) zero in
    let low : get_or (overwritten at (word_bytes n) q) (at + 1) 0 ≡ n % 256 = get_or-within at (word_bytes n) q (at + 1) 0 inside (omega arith) (omega arith) ∙ ap (λ (k : ℕ). get_or (word_bytes n) k 0) one in
    cong2 (λ (a b : ℕ). a * 256 + b) high low ∙ omega arith

-- a header: ten bytes, its checksum, and the rest
pub header_total : (p : List ℕ) → 14 ≤ length p → 20 ≤ header_len p → sum (words (header_of p)) ≡ word p 12 + (sum (header_words p) + 0)
header_total p long least =
    let h = header_len p in
    let a = take 10 (drop 2 p) in
    let c = take (h - 12) (drop 14 p) in
    let ten : length a ≡ 10 = part_len 10 2 p (omega arith) in
    let split : header_of p ≡ a ++ (take 2 (drop 12 p) ++ c) =
    cut_at 10 (h - 10) h (drop 2 p) (omega arith)
    ∙ ap (λ (xs : List ℕ). a ++ xs) (ap (λ (xs : List ℕ). take (h - 10) xs) (drop-drop 10 2 p) ∙ (cut_at 2 (h - 12) (h - 10) (drop 12 p) (omega arith) ∙ ap (λ (xs : List ℕ). take 2 (drop 12 p) ++ take (h - 12) xs) (drop-drop 2 12 p))) in
    let even : length a % 2 ≡ 0 = ap (λ (n : ℕ). n % 2) ten in
    let whole = ap (λ (xs : List ℕ). sum (words xs)) split ∙ (sum-even a (take 2 (drop 12 p) ++ c) even ∙ ap (λ (n : ℕ). sum (words a) + n) (sum-word p 12 c (omega arith))) in
    let others = sum-even a c even in
    omega (arith, whole, others)

first_word : (q : List ℕ) → 14 ≤ length q → is_ipv4 q ≡ true → 0 < sum (header_words q)
first_word q long there =
    let version = (begins_ipv4 q there).version in
    let a = take 10 (drop 2 q) in
    let c = take (header_len q - 12) (drop 14 q) in
    let ten : length a ≡ 10 = part_len 10 2 q (omega arith) in
    let others = sum-even a c (ap (λ (n : ℕ). n % 2) ten) in
    let head = ap (λ (ws : List ℕ). sum ws) (words-two a (omega arith)) ∙ sum-cons (word a 0) (words (drop 2 a)) in
    let byte : get_or a 0 0 ≡ get_or q 2 0 = get_or-take 10 (drop 2 q) 0 0 (omega arith) ∙ get_or-drop 2 q 0 0 in
    omega (arith, others, head, byte)

header_parts_kept : (q : List ℕ) (n : ℕ) → 14 ≤ length q → header_len (overwritten 12 (word_bytes n) q) ≡ header_len q → header_words (overwritten 12 (word_bytes n) q) ≡ header_words q
header_parts_kept q n long len =
    cong3 (λ (a b : List ℕ) (h : ℕ). words (a ++ take (h - 12) b))
    (bytes_before 12 (word_bytes n) q 2 10 long (omega arith))
    (drop-overwritten 12 (word_bytes n) q 14 long (omega arith))
    len

pub header_stays_right : (p q : List ℕ) → SamePlaces p q → is_ipv4 p ≡ true → IsBytes p → 14 ≤ length p → IsRight (words (header_of p)) → IsRight (words (header_of (header_sealed p q)))
header_stays_right p q same there bytes long right =
    let there_q : is_ipv4 q ≡ true = sym same.version.four ∙ there in
    let least = (header_len-ipv4 p there).1 in
    let least_q = (header_len-ipv4 q there_q).1 in
    let long_q : 14 ≤ length q = let l = same.len in omega arith in
    let n = adjusted (word p 12) (header_words p) (header_words q) in
    let small = adjusted_small (word p 12) (header_words p) (header_words q) (word_small p 12 bytes) in
    let place : header_sum_at p ≡ Some 12 = cond-true (is_ipv4 p && nat_le 14 (length p)) (Some 12) None (and_from (is_ipv4 p) (nat_le 14 (length p)) there (le-leb 14 (length p) long)) in
    let is : header_sealed p q ≡ overwritten 12 (word_bytes n) q = ap (λ (o : Option ℕ). word_put o n q) place in
    let r = overwritten 12 (word_bytes n) q in
    let len_r = length-overwritten 12 (word_bytes n) q long_q in
    let kept : header_len r ≡ header_len q = (same_header q r (subst (λ (x : List ℕ). SameShape q x) is (header_keeps p q same).shape)).header in
    let least_r : 20 ≤ header_len r = omega arith in
    let old = header_total p long least in
    let new : sum (words (header_of r)) ≡ n + (sum (header_words q) + 0) =
    header_total r (omega arith) least_r ∙ cong2 (λ (a b : ℕ). a + (b + 0)) (word_there 12 n q small long_q) (ap (λ (ws : List ℕ). sum ws) (header_parts_kept q n long_q kept)) in
    let h_same : length (take 10 (drop 2 p) ++ take (header_len p - 12) (drop 14 p)) ≡ length (take 10 (drop 2 q) ++ take (header_len q - 12) (drop 14 q)) =
    length-append (take 10 (drop 2 p)) (take (header_len p - 12) (drop 14 p)) ∙ (cong2 (λ (a b : ℕ). a + b) (same_part 10 2 p q same.len) (same_part (header_len p - 12) 14 p q same.len ∙ ap (λ (h : ℕ). length (take (h - 12) (drop 14 q))) same.header) ∙ sym (length-append (take 10 (drop 2 q)) (take (header_len q - 12) (drop 14 q)))) in
    let ws_same = same_words_len (take 10 (drop 2 p) ++ take (header_len p - 12) (drop 14 p)) (take 10 (drop 2 q) ++ take (header_len q - 12) (drop 14 q)) h_same in
    let all = all_words (take 10 (drop 2 p) ++ take (header_len p - 12) (drop 14 p)) (bytes-append (take 10 (drop 2 p)) (take (header_len p - 12) (drop 14 p)) (part_bytes 10 2 p bytes) (part_bytes (header_len p - 12) 14 p bytes)) in
    let c = adjusted_right (word p 12) 0 (header_words p) (header_words q) (word_small p 12 bytes) ws_same all (ap (λ (k : ℕ). folded k) (sym old) ∙ right) in
    let some = first_word q long_q there_q in
    ap (λ (xs : List ℕ). folded (sum (words (header_of xs)))) is ∙ right_from (sum (words (header_of r))) c.0 (new ∙ c.1) (omega (arith, new, some))
