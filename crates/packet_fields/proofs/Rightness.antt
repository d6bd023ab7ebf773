-- Right checksums stay right, and a frame sealed to itself stays as it is.
use Rattle.std.proofs.Common.{lit≤, ◌≡◌, ◌≤◌, ◌<◌, ◌+◌, ◌-◌, ◌*◌, ◌/◌, ◌%◌, ◌∙◌, ℕ, suc, List, [], ◌∷◌, ◌++◌, sum, length, take, drop, get_or, length-drop, Bool, true, false, not, sym, ap, refl, arith, subst, ⊎_elim}
use Rattle.std.specs.Prelude.{⊤, Option, Some, None, if◌then◌else◌, ◌==◌}
use Rattle.std.proofs.lemmas.Bool.{not-false as not_false, or_parts, cases_lt, cases_Bool, cases_eq, eqb-true, eq-eqb, ne_eqb, cond-true, cond-false}
use Rattle.std.proofs.lemmas.List.{take-append-drop, get_or-drop}
use Rattle.std.proofs.lemmas.List.Sums.{sum_by-cons, sum_by-append}
use Rattle.packet_fields.specs.Frames.{word, packet_at, packet}
use Rattle.packet_fields.specs.Packets.{is_udp, summed_span, header_sum_at, checksum_at, segment_sum_at}
use Rattle.packet_fields.specs.Checksums.{words, word_bytes, folded, is_changed, change_sum, adjusted, header_words, segment_words, word_put, header_sealed, segment_checksum, segment_sealed, has_same_places, sealed, IsBytes}
use Rattle.packet_fields.specs.Writing.{overwritten}
use Rattle.packet_fields.proofs.Overwriting.{cong2, overwritten_own}
use Rattle.packet_fields.proofs.ChecksumSteps.{header_sum_is, has_sum}
use Rattle.packet_fields.proofs.WordSums.{is_changed_own}

pub adjusted_own : (checksum : ℕ) (ms : List ℕ) → adjusted checksum ms ms ≡ checksum
adjusted_own checksum ms = cond-false (is_changed ms ms) (0xffff - folded ((0xffff - checksum) + change_sum ms ms)) checksum (is_changed_own ms)

-- a word of the packet, as two bytes
pub word_bytes-word : (a b : ℕ) → b < 256 → word_bytes (a * 256 + b) ≡ a ∷ b ∷ []
word_bytes-word a b small =
    let high : (a * 256 + b) / 256 ≡ a = omega arith in
    let low : (a * 256 + b) % 256 ≡ b = omega arith in
    cong2 (λ (x y : ℕ). x ∷ y ∷ []) high low

two_bytes : (xs : List ℕ) → 2 ≤ length xs → take 2 xs ≡ get_or xs 0 0 ∷ get_or xs 1 0 ∷ []
two_bytes (a ∷ b ∷ rest) long = refl
two_bytes xs long = absurd (omega arith)

pub part_two : (p : List ℕ) (at : ℕ) → at + 2 ≤ length p → take 2 (drop at p) ≡ get_or p at 0 ∷ get_or p (at + 1) 0 ∷ []
part_two p at inside =
    two_bytes (drop at p) (omega (arith, length-drop at p)) ∙ cong2 (λ (x y : ℕ). x ∷ y ∷ []) (get_or-drop at p 0 0 ∙ ap (λ (n : ℕ). get_or p n 0) (omega arith)) (get_or-drop at p 1 0)

pub word_put_own : (p : List ℕ) (at : ℕ) → IsBytes p → at + 2 ≤ length p → overwritten at (word_bytes (word p at)) p ≡ p
word_put_own p at bytes inside =
    ap (λ (xs : List ℕ). overwritten at xs p) (word_bytes-word (get_or p at 0) (get_or p (at + 1) 0) (bytes (at + 1)) ∙ sym (part_two p at inside)) ∙ overwritten_own at 2 p inside

header_own : (p : List ℕ) (o : Option ℕ) → header_sum_at p ≡ o → IsBytes p → word_put o (adjusted (word p 12) (header_words p) (header_words p)) p ≡ p
header_own p None is bytes = refl
header_own p (Some at) is bytes =
    let h = header_sum_is p at is in
    ap (λ (n : ℕ). overwritten n (word_bytes (adjusted (word p 12) (header_words p) (header_words p))) p) h.0
    ∙ (ap (λ (n : ℕ). overwritten 12 (word_bytes n) p) (adjusted_own (word p 12) (header_words p)) ∙ word_put_own p 12 bytes h.1)

udp_own : (w : ℕ) → (if w == 0 then 0 else (if w == 0 then 0xffff else w)) ≡ w
udp_own w =
    ⊎_elim
    (λ (zero : w ≡ 0). rw zero refl)
    (λ (some : w ≡ 0 → ⊥). cond-false (w == 0) 0 (if w == 0 then 0xffff else w) (ne_eqb w 0 some) ∙ cond-false (w == 0) 0xffff w (ne_eqb w 0 some))
    (cases_eq w 0)

kind_own : (udp : Bool) (w n : ℕ) → n ≡ w → (if udp then (if w == 0 then 0 else (if n == 0 then 0xffff else n)) else n) ≡ w
kind_own true w n is = rw is (udp_own w)
kind_own false w n is = is

segment_own : (p : List ℕ) (o : Option ℕ) → segment_sum_at p ≡ o → IsBytes p → word_put o (segment_checksum p p) p ≡ p
segment_own p None is bytes = refl
segment_own p (Some at) is bytes =
    let s = has_sum p at is in
    let ws = segment_words (summed_span p) p in
    let own = kind_own (is_udp p) (word p (checksum_at p)) (adjusted (word p (checksum_at p)) ws ws) (adjusted_own (word p (checksum_at p)) ws) in
    ap (λ (n : ℕ). overwritten at (word_bytes n) p) (own ∙ ap (λ (n : ℕ). word p n) (sym s.place)) ∙ word_put_own p at bytes (omega (arith, s.inside))

packet_own : (b : Bool) (p : List ℕ) → IsBytes p → (if b then segment_sealed p (header_sealed p p) else p) ≡ p
packet_own false p bytes = refl
packet_own true p bytes = ap (λ (q : List ℕ). segment_sealed p q) (header_own p (header_sum_at p) refl bytes) ∙ segment_own p (segment_sum_at p) refl bytes

pub bytes-drop : (n : ℕ) (xs : List ℕ) → IsBytes xs → IsBytes (drop n xs)
bytes-drop n xs bytes = λ i. subst (λ (b : ℕ). b < 256) (sym (get_or-drop n xs i 0)) (bytes (n + i))

-- a frame that is sealed to itself stays as it is
pub sealed_own : (frame : List ℕ) → IsBytes frame → sealed frame frame ≡ frame
sealed_own frame bytes =
    ap (λ (p : List ℕ). take (packet_at frame) frame ++ p) (packet_own (has_same_places (packet frame) (packet frame)) (packet frame) (bytes-drop (packet_at frame) frame bytes)) ∙ take-append-drop (packet_at frame) frame

-- words of bytes are below 0x10000
abbrev pub AllWords : List ℕ → Type 0
AllWords [] = ⊤
AllWords (w ∷ ws) = (w ≤ 0xffff) × AllWords ws

pub all_words : (xs : List ℕ) → IsBytes xs → AllWords (words xs)
unfolding words
all_words [] bytes = tt
all_words (a ∷ []) bytes = let high = bytes 0 in (omega arith, tt)
all_words (a ∷ b ∷ xs) bytes = let high = bytes 0 in let low = bytes 1 in (omega arith, all_words xs (λ i. bytes (suc (suc i))))

pub sum-cons : (x : ℕ) (xs : List ℕ) → sum (x ∷ xs) ≡ x + sum xs
sum-cons x xs = sum_by-cons (λ (n : ℕ). n) x xs

pub sum-append : (xs ys : List ℕ) → sum (xs ++ ys) ≡ sum xs + sum ys
sum-append xs ys = sum_by-append (λ (n : ℕ). n) xs ys

-- the change is the difference of the sums, up to multiples of 0xffff
record Differs (old new : List ℕ) : Type 0 where
  pub times : ℕ
  pub is : change_sum old new + sum old ≡ sum new + 0xffff * times

one_change : (m n : ℕ) → m ≤ 0xffff → (k : ℕ) × ((if m == n then 0 else (0xffff - m) + n) + m ≡ n + 0xffff * k)
one_change m n small =
    ⊎_elim
    (λ (same : m ≡ n). (0, ap (λ (x : ℕ). x + m) (cond-true (m == n) 0 ((0xffff - m) + n) (eq-eqb m n same)) ∙ omega arith))
    (λ (other : m ≡ n → ⊥). (1, ap (λ (x : ℕ). x + m) (cond-false (m == n) 0 ((0xffff - m) + n) (ne_eqb m n other)) ∙ omega arith))
    (cases_eq m n)

differs : (old new : List ℕ) → length old ≡ length new → AllWords old → Differs old new
unfolding change_sum
differs [] [] same all = record { times = 0; is = refl }
differs [] (n ∷ ns) same all = absurd (omega arith)
differs (m ∷ ms) [] same all = absurd (omega arith)
differs (m ∷ ms) (n ∷ ns) same all =
    let more = differs ms ns (omega arith) all.1 in
    let one = one_change m n all.0 in
    let here = one.1 in
    let there = more.is in
    record { times = one.0 + more.times; is = omega (arith, here, there, sum-cons m ms, sum-cons n ns) }

unchanged : (old new : List ℕ) → length old ≡ length new → is_changed old new ≡ false → sum old ≡ sum new
unfolding is_changed
unchanged [] [] same none = refl
unchanged [] (n ∷ ns) same none = absurd (omega arith)
unchanged (m ∷ ms) [] same none = absurd (omega arith)
unchanged (m ∷ ms) (n ∷ ns) same none =
    let both = or_parts (not (m == n)) (is_changed ms ns) none in
    let more = unchanged ms ns (omega arith) both.1 in
    let here = eqb-true m n (not_false (m == n) both.0) in
    omega (arith, sum-cons m ms, sum-cons n ns)

folded_some : (n : ℕ) → 0 < n → folded n ≡ (n - 1) % 0xffff + 1
folded_some n some = cond-false (n == 0) 0 ((n - 1) % 0xffff + 1) (ne_eqb n 0 (λ e. omega arith))

pub right_from : (n c : ℕ) → n ≡ 0xffff * c → 0 < n → folded n ≡ 0xffff
right_from n c is some = folded_some n some ∙ omega arith

right_tells : (n : ℕ) → folded n ≡ 0xffff → (c : ℕ) × (n ≡ 0xffff * c)
right_tells n right =
    ⊎_elim
    (λ (some : 0 < n). let f = folded_some n some in ((n - 1) / 0xffff + 1, omega arith))
    (λ (none : n ≤ 0). absurd (let z : n ≡ 0 = omega arith in let r : folded 0 ≡ 0xffff = subst (λ (m : ℕ). folded m ≡ 0xffff) z right in omega arith))
    (cases_lt 0 n)

folded_parts : (n : ℕ) → (j : ℕ) × ((n ≡ folded n + 0xffff * j) × (folded n ≤ 0xffff))
folded_parts n =
    ⊎_elim
    (λ (some : 0 < n). let f = folded_some n some in ((n - 1) / 0xffff, (omega arith, omega arith)))
    (λ (none : n ≤ 0). let z : n ≡ 0 = omega arith in (0, subst (λ (m : ℕ). (m ≡ folded m + 0xffff * 0) × (folded m ≤ 0xffff)) (sym z) (refl, lit≤ tt)))
    (cases_lt 0 n)

core : (hc a k d b times f j c s : ℕ) → hc ≤ 0xffff → f ≤ 0xffff → s ≡ (0xffff - hc) + d → s ≡ f + 0xffff * j → d + a ≡ b + 0xffff * times → hc + (a + k) ≡ 0xffff * c → (0xffff - f) + (b + k) ≡ 0xffff * (j + c - times)
core hc a k d b times f j c s small low is_s is_f is_d right = omega arith

-- a checksum that was right over some words is right over the new ones, with others that stay
pub adjusted_right : (checksum other : ℕ) (old new : List ℕ) → checksum ≤ 0xffff → length old ≡ length new → AllWords old → folded (checksum + (sum old + other)) ≡ 0xffff → (c : ℕ) × (adjusted checksum old new + (sum new + other) ≡ 0xffff * c)
adjusted_right checksum other old new small same all right =
    let r = right_tells (checksum + (sum old + other)) right in
    ⊎_elim
    (λ (changed : is_changed old new ≡ true).
    let s = (0xffff - checksum) + change_sum old new in
    let f = folded_parts s in
    let d = differs old new same all in
    let is = cond-true (is_changed old new) (0xffff - folded s) checksum changed in
    (f.0 + r.0 - d.times, ap (λ (n : ℕ). n + (sum new + other)) is ∙ core checksum (sum old) other (change_sum old new) (sum new) d.times (folded s) f.0 r.0 s small f.1.1 refl f.1.0 d.is r.1))
    (λ (none : is_changed old new ≡ false).
    let e = unchanged old new same none in
    let is = cond-false (is_changed old new) (0xffff - folded ((0xffff - checksum) + change_sum old new)) checksum none in
    (r.0, omega (arith, e, is, r.1)))
    (cases_Bool (is_changed old new))
