-- The sum of a TCP segment or UDP datagram in its parts, and that a right checksum stays right.
use Rattle.std.proofs.Common.{lit<, ◌≡◌, ◌≤◌, ◌<◌, ◌+◌, ◌-◌, ◌*◌, ◌%◌, ◌∙◌, ℕ, List, [], ◌∷◌, ◌++◌, sum, length, take, drop, length-append, Bool, true, false, ◌&&◌, ◌||◌, min, sym, ap, refl, arith, subst, ⊎_elim, ◌⊎◌, inl, inr}
use Rattle.std.specs.Prelude.{Option, Some, None, if◌then◌else◌, nat_le, nat_lt, ◌==◌}
use Rattle.std.proofs.lemmas.Bool.{and_parts, or_cases, cases_Bool, cases_eq, leb-true, eqb-true, ne_eqb, eq-eqb, cond-true, cond-false, cond_both, false≢true}
use Rattle.std.proofs.lemmas.List.{drop-drop, append-nil}
use Rattle.packet_fields.specs.Frames.{word}
use Rattle.packet_fields.specs.Packets.{in_header, header_byte, has_transport, address_len, source_at, protocol_at, is_tcp, is_udp, segment_at, data_offset, data_at, has_data, udp_len, has_udp_len, datagram_end, summed_end, summed_span, checksum_at, segment_sum_at}
use Rattle.packet_fields.specs.Fields.{bytes_at}
use Rattle.packet_fields.specs.Checksums.{words, word_bytes, folded, adjusted, udp_adjusted, addresses_of, data_of, segment_words, word_put, segment_checksum, segment_sealed, IsRight, IsBytes, segment_of, segment_len, pseudo_header}
use Rattle.packet_fields.specs.Writing.{overwritten}
use Rattle.packet_fields.specs.declared.plan.Span.{Span}
use Rattle.packet_fields.proofs.Overwriting.{cong2, cong3, bytes_before, bytes_behind}
use Rattle.packet_fields.proofs.Versions.{numbers, transport_parts}
use Rattle.packet_fields.proofs.Shapes.{SameShape, is_ipv6-same, same_header, segment_at-same, summed_end-same, summed_span-same, segment_len-same, segment_sum_at-same, is_udp-same}
use Rattle.packet_fields.proofs.Summed.{own_length, summed_found}
use Rattle.packet_fields.proofs.Sealed.{SameSegment, segment_keeps}
use Rattle.packet_fields.proofs.ChecksumSteps.{HasSum, has_sum, same_part, part_len, addresses_at-same}
use Rattle.packet_fields.proofs.WordSums.{same_words_len}
use Rattle.packet_fields.proofs.Rightness.{all_words, sum-cons, sum-append, adjusted_right, right_from}
use Rattle.packet_fields.proofs.RightSums.{cut_at, sum-even, sum-word, bytes-append, part_bytes, word_small, word_there, adjusted_small}

drop_to : (m n : ℕ) (xs : List ℕ) → m ≡ n → drop m xs ≡ drop n xs
drop_to m n xs is = ap (λ (k : ℕ). drop k xs) is

cut_from : (a b e : ℕ) (p : List ℕ) → a ≤ b → b ≤ e → take (e - a) (drop a p) ≡ take (b - a) (drop a p) ++ take (e - b) (drop b p)
cut_from a b e p low high =
    cut_at (b - a) (e - b) (e - a) (drop a p) (omega arith)
    ∙ ap (λ (zs : List ℕ). take (b - a) (drop a p) ++ take (e - b) zs) (drop-drop (b - a) a p ∙ drop_to (a + (b - a)) b p (omega arith))

-- where the transport header ends: at its data, or with the bytes under its checksum if there is none
abbrev pub head_end : List ℕ → Option Span → ℕ
head_end p None = summed_end p
head_end p (Some s) = s.at

pub record DataAt (p : List ℕ) (at : ℕ) (o : Option Span) : Type 0 where
  pub behind : at + 2 ≤ head_end p o
  pub ends : head_end p o ≤ summed_end p
  pub data_is : data_of p o ≡ take (summed_end p - head_end p o) (drop (head_end p o) p)
  pub even : ((head_end p o - (at + 2)) % 2 ≡ 0) ⊎ (data_of p o ≡ [])

nothing : (m : ℕ) (xs : List ℕ) → m ≡ 0 → [] ≡ take m xs
nothing m xs is = sym (ap (λ (k : ℕ). take k xs) is)

udp_data : (p : List ℕ) → is_udp p ≡ true → (checksum_at p ≡ segment_at p + 6) × (data_at p ≡ segment_at p + 8)
udp_data p udp = (cond-true (is_udp p) (segment_at p + 6) (segment_at p + 16) udp, cond-true (is_udp p) (segment_at p + 8) (4 * data_offset p + segment_at p) udp)

tcp_data : (p : List ℕ) → is_udp p ≡ false → (checksum_at p ≡ segment_at p + 16) × (data_at p ≡ 4 * data_offset p + segment_at p)
tcp_data p tcp = (cond-false (is_udp p) (segment_at p + 6) (segment_at p + 16) tcp, cond-false (is_udp p) (segment_at p + 8) (4 * data_offset p + segment_at p) tcp)

least_offset : (p : List ℕ) → has_data p ≡ true → is_udp p ≡ false → 5 ≤ data_offset p
least_offset p there tcp =
    let kind = (and_parts (has_transport p) (is_udp p || (nat_lt (segment_at p + 12) (datagram_end p) && nat_le 5 (data_offset p))) there).1 in
    ⊎_elim
    (λ (udp : is_udp p ≡ true). absurd (false≢true (sym tcp ∙ udp)))
    (λ (both : (nat_lt (segment_at p + 12) (datagram_end p) && nat_le 5 (data_offset p)) ≡ true). leb-true 5 (data_offset p) (and_parts (nat_lt (segment_at p + 12) (datagram_end p)) (nat_le 5 (data_offset p)) both).1)
    (or_cases (is_udp p) (nat_lt (segment_at p + 12) (datagram_end p) && nat_le 5 (data_offset p)) kind)

zero_of : (a b : ℕ) → a ≡ b → a - b ≡ 0
zero_of a b is = omega arith

even_of : (a b offset start : ℕ) → 5 ≤ offset → a ≡ 4 * offset + start → b ≡ start + 18 → (a - b) % 2 ≡ 0
even_of a b offset start least is_a is_b = omega arith

-- the bytes under a checksum end with the datagram, or with UDP's own length, and so behind the checksum
summed_end-behind : (p : List ℕ) (at : ℕ) → HasSum p at → at + 2 ≤ summed_end p
summed_end-behind p at s =
    let place = s.place in
    cond_both (has_udp_len p) (min (datagram_end p) (segment_at p + udp_len p)) (datagram_end p) (λ (n : ℕ). at + 2 ≤ n)
    (λ own. let u = own_length p own in let k = (udp_data p u.0).0 in omega (arith, s.inside, u.1, place, k))
    (λ _. s.inside)

pub summed_end-inside : (p : List ℕ) → summed_end p ≤ datagram_end p
summed_end-inside p = cond_both (has_udp_len p) (min (datagram_end p) (segment_at p + udp_len p)) (datagram_end p) (λ (n : ℕ). n ≤ datagram_end p) (λ _. omega arith) (λ _. omega arith)

-- the data begins where the checksum covers it, even if the covered part is empty
data_at-summed : (p : List ℕ) → data_at p ≤ datagram_end p → data_at p ≤ summed_end p
data_at-summed p inside =
    cond_both (has_udp_len p) (min (datagram_end p) (segment_at p + udp_len p)) (datagram_end p) (λ (n : ℕ). data_at p ≤ n)
    (λ own. let u = own_length p own in let k = (udp_data p u.0).1 in omega (arith, inside, u.1, k))
    (λ _. inside)

pub data_at_sum : (p : List ℕ) (at : ℕ) (o : Option Span) → HasSum p at → summed_span p ≡ o → DataAt p at o
data_at_sum p at None s is = record {
  behind = summed_end-behind p at s;
  ends = omega arith;
  data_is = nothing (summed_end p - summed_end p) (drop (summed_end p) p) (omega arith);
  even = inr refl;
}
data_at_sum p at (Some d) s is =
    let f = summed_found p d is in
    let both = f.test in
    let inside = data_at-summed p f.inside in
    let at_is = f.at_is in
    let len_is = f.len_is in
    let place = s.place in
    let numbers : (at + 2 ≤ d.at) × ((d.at - (at + 2)) % 2 ≡ 0) =
    ⊎_elim
    (λ (udp : is_udp p ≡ true). let k = udp_data p udp in let k0 = k.0 in let k1 = k.1 in (omega (arith, at_is, place, k0, k1), ap (λ (n : ℕ). n % 2) (zero_of d.at (at + 2) (omega (arith, at_is, place, k0, k1)))))
    (λ (tcp : is_udp p ≡ false). let k = tcp_data p tcp in let k0 = k.0 in let k1 = k.1 in let least = least_offset p both tcp in (omega (arith, at_is, place, k0, k1, least), even_of d.at (at + 2) (data_offset p) (segment_at p) least (at_is ∙ k1) (omega (arith, place, k0))))
    (cases_Bool (is_udp p)) in
    record {
      behind = numbers.0;
      ends = omega (arith, at_is, inside);
      data_is = ap (λ (n : ℕ). take n (drop d.at p)) len_is;
      even = inl numbers.1;
    }

-- the sum of a segment: its checksum, what a network function can write, and the rest
abbrev others : List ℕ → ℕ → Option Span → ℕ
others p at o = header_byte p (protocol_at p) + (segment_len p + (sum (words (take (at - (segment_at p + 4)) (drop (segment_at p + 4) p))) + sum (words (take (head_end p o - (at + 2)) (drop (at + 2) p)))))

plus_none : (n : ℕ) → n ≡ n + sum (words [])
unfolding words
plus_none n = omega arith

sum_last : (xs ys : List ℕ) → (length xs % 2 ≡ 0) ⊎ (ys ≡ []) → sum (words (xs ++ ys)) ≡ sum (words xs) + sum (words ys)
sum_last xs ys (inl even) = sum-even xs ys even
sum_last xs ys (inr none) = ap (λ (zs : List ℕ). sum (words (xs ++ zs))) none ∙ (ap (λ (zs : List ℕ). sum (words zs)) (append-nil xs) ∙ (plus_none (sum (words xs)) ∙ sym (ap (λ (zs : List ℕ). sum (words xs) + sum (words zs)) none)))

two_of : (n : ℕ) → (n + 6 - (n + 4)) % 2 ≡ 0
two_of n = let e : n + 6 - (n + 4) ≡ 2 = omega arith in ap (λ (k : ℕ). k % 2) e

twelve_of : (n : ℕ) → (n + 16 - (n + 4)) % 2 ≡ 0
twelve_of n = let e : n + 16 - (n + 4) ≡ 12 = omega arith in ap (λ (k : ℕ). k % 2) e

four_of : (n : ℕ) → n + 4 - n ≡ 4
four_of n = omega arith

two_from : (n : ℕ) → n + 2 - n ≡ 2
two_from n = omega arith

last_even : (m n : ℕ) (ys zs : List ℕ) → m ≡ n → zs ≡ ys → (n % 2 ≡ 0) ⊎ (zs ≡ []) → (m % 2 ≡ 0) ⊎ (ys ≡ [])
last_even m n ys zs is same (inl even) = inl (ap (λ (k : ℕ). k % 2) is ∙ even)
last_even m n ys zs is same (inr none) = inr (sym same ∙ none)

data_kept : (q : List ℕ) (at n : ℕ) (o : Option Span) → at + 2 ≤ length q → at + 2 ≤ head_end q o → data_of (overwritten at (word_bytes n) q) o ≡ data_of q o
data_kept q at n None inside behind = refl
data_kept q at n (Some s) inside behind = bytes_behind at (word_bytes n) q s.at s.len inside behind

head_end_kept : (p q : List ℕ) (o : Option Span) → SameShape p q → head_end q o ≡ head_end p o
head_end_kept p q None shape = summed_end-same p q shape
head_end_kept p q (Some s) shape = refl

even_first : (p : List ℕ) (at : ℕ) → at ≡ checksum_at p → (at - (segment_at p + 4)) % 2 ≡ 0
even_first p at is =
    ap (λ (n : ℕ). (n - (segment_at p + 4)) % 2) is
    ∙ cond_both (is_udp p) (segment_at p + 6) (segment_at p + 16) (λ (n : ℕ). (n - (segment_at p + 4)) % 2 ≡ 0) (λ _. two_of (segment_at p)) (λ _. twelve_of (segment_at p))

even_twice : (n : ℕ) → (2 * n) % 2 ≡ 0
even_twice n = omega arith

segment_total : (p : List ℕ) (at : ℕ) (o : Option Span) → HasSum p at → summed_span p ≡ o → sum (pseudo_header p ++ words (segment_of p)) ≡ word p at + (sum (segment_words o p) + others p at o)
segment_total p at o s is =
    let d = data_at_sum p at o s is in
    let start = segment_at p in
    let end = summed_end p in
    let he = head_end p o in
    let far = s.far in
    let behind = s.behind in
    let inside = summed_end-behind p at s in
    let below : end ≤ length p = omega (arith, summed_end-inside p) in
    let n = numbers p in
    let ends = s.ends in
    let both = addresses_of p in
    let p4 = take 4 (drop start p) in
    let f = take (at - (start + 4)) (drop (start + 4) p) in
    let w = take 2 (drop at p) in
    let s2 = take (he - (at + 2)) (drop (at + 2) p) in
    let d2 = take (end - he) (drop he p) in
    let cut1 : take (end - start) (drop start p) ≡ p4 ++ take (end - (start + 4)) (drop (start + 4) p) = cut_from start (start + 4) end p (omega arith) (omega arith) ∙ ap (λ (n : ℕ). take n (drop start p) ++ take (end - (start + 4)) (drop (start + 4) p)) (four_of start) in
    let cut2 : take (end - (start + 4)) (drop (start + 4) p) ≡ f ++ take (end - at) (drop at p) = cut_from (start + 4) at end p (omega arith) (omega arith) in
    let cut3 : take (end - at) (drop at p) ≡ w ++ take (end - (at + 2)) (drop (at + 2) p) = cut_from at (at + 2) end p (omega arith) (omega arith) ∙ ap (λ (n : ℕ). take n (drop at p) ++ take (end - (at + 2)) (drop (at + 2) p)) (two_from at) in
    let cut4 : take (end - (at + 2)) (drop (at + 2) p) ≡ s2 ++ d2 = cut_from (at + 2) he end p d.behind d.ends in
    let split : segment_of p ≡ p4 ++ (f ++ (w ++ (s2 ++ d2))) = cut1 ∙ ap (λ (xs : List ℕ). p4 ++ xs) (cut2 ∙ ap (λ (xs : List ℕ). f ++ xs) (cut3 ∙ ap (λ (xs : List ℕ). w ++ xs) cut4)) in
    let four : length p4 ≡ 4 = part_len 4 start p (omega arith) in
    let whole_words : length both % 2 ≡ 0 = ap (λ (n : ℕ). n % 2) (part_len (2 * address_len p) (in_header (source_at p)) p (omega arith)) ∙ even_twice (address_len p) in
    let f_len : length f ≡ at - (start + 4) = part_len (at - (start + 4)) (start + 4) p (omega arith) in
    let s_len : length s2 ≡ he - (at + 2) = part_len (he - (at + 2)) (at + 2) p (omega (arith, d.behind, d.ends)) in
    let e1 = sum-even p4 (f ++ (w ++ (s2 ++ d2))) (ap (λ (n : ℕ). n % 2) four) in
    let e2 = sum-even f (w ++ (s2 ++ d2)) (ap (λ (n : ℕ). n % 2) f_len ∙ even_first p at s.place) in
    let e3 = sum-word p at (s2 ++ d2) (omega arith) in
    let e4 = sum_last s2 d2 (last_even (length s2) (he - (at + 2)) d2 (data_of p o) s_len d.data_is d.even) in
    let seg = ap (λ (xs : List ℕ). sum (words xs)) split in
    let ps = sum-cons (header_byte p (protocol_at p)) (segment_len p ∷ words both) in
    let ps2 = sum-cons (segment_len p) (words both) in
    let whole = sum-append (pseudo_header p) (words (segment_of p)) in
    let written = sum-even both (p4 ++ data_of p o) whole_words in
    let written2 = sum-even p4 (data_of p o) (ap (λ (n : ℕ). n % 2) four) in
    let payload = ap (λ (xs : List ℕ). sum (words xs)) d.data_is in
    omega (arith, whole, ps, ps2, seg, e1, e2, e3, e4, written, written2, payload)

-- a segment in which only its checksum was written
segment_words_kept : (q : List ℕ) (at n : ℕ) (o : Option Span) → HasSum q at → summed_span q ≡ o → SameShape q (overwritten at (word_bytes n) q) → segment_words o (overwritten at (word_bytes n) q) ≡ segment_words o q
segment_words_kept q at n o s is shape =
    let d = data_at_sum q at o s is in
    let far = s.far in
    let behind = s.behind in
    let inside : at + 2 ≤ length q = let i = s.inside in omega arith in
    let r = overwritten at (word_bytes n) q in
    let ports : take 4 (drop (segment_at r) r) ≡ take 4 (drop (segment_at q) q) = ap (λ (k : ℕ). take 4 (drop k r)) (segment_at-same q r shape) ∙ bytes_before at (word_bytes n) q (segment_at q) 4 inside (omega arith) in
    let k = numbers q in
    let ends = s.ends in
    let addresses : addresses_of r ≡ addresses_of q = ap (λ (x : Span). bytes_at r x) (addresses_at-same r q (is_ipv6-same q r shape)) ∙ bytes_before at (word_bytes n) q (in_header (source_at q)) (2 * address_len q) inside (omega arith) in
    cong3 (λ (a b c : List ℕ). words (a ++ (b ++ c))) addresses ports (data_kept q at n o inside d.behind)

others_kept : (q : List ℕ) (at n : ℕ) (o : Option Span) → HasSum q at → summed_span q ≡ o → SameShape q (overwritten at (word_bytes n) q) → others (overwritten at (word_bytes n) q) at o ≡ others q at o
others_kept q at n o s is shape =
    let d = data_at_sum q at o s is in
    let far = s.far in
    let behind = s.behind in
    let inside : at + 2 ≤ length q = let i = s.inside in omega arith in
    let r = overwritten at (word_bytes n) q in
    let first : take (at - (segment_at r + 4)) (drop (segment_at r + 4) r) ≡ take (at - (segment_at q + 4)) (drop (segment_at q + 4) q) =
    ap (λ (k : ℕ). take (at - (k + 4)) (drop (k + 4) r)) (segment_at-same q r shape) ∙ bytes_before at (word_bytes n) q (segment_at q + 4) (at - (segment_at q + 4)) inside (omega arith) in
    let second : take (head_end r o - (at + 2)) (drop (at + 2) r) ≡ take (head_end q o - (at + 2)) (drop (at + 2) q) =
    ap (λ (k : ℕ). take (k - (at + 2)) (drop (at + 2) r)) (head_end_kept q r o shape) ∙ bytes_behind at (word_bytes n) q (at + 2) (head_end q o - (at + 2)) inside (omega arith) in
    let h = same_header q r shape in
    cong2 (λ (a b : ℕ). a + b) h.kind (cong2 (λ (a b : ℕ). a + b) (segment_len-same q r shape) (cong2 (λ (xs ys : List ℕ). sum (words xs) + sum (words ys)) first second))

-- two packets whose transport headers differ in their ports and checksums alone
pub record SameHead (p q : List ℕ) (at : ℕ) (o : Option Span) : Type 0 where
  pub kind : header_byte q (protocol_at q) ≡ header_byte p (protocol_at p)
  pub len : segment_len q ≡ segment_len p
  pub ends : summed_end q ≡ summed_end p
  pub covered : summed_span q ≡ summed_span p
  pub first : take (at - (segment_at p + 4)) (drop (segment_at p + 4) q) ≡ take (at - (segment_at p + 4)) (drop (segment_at p + 4) p)
  pub second : take (head_end p o - (at + 2)) (drop (at + 2) q) ≡ take (head_end p o - (at + 2)) (drop (at + 2) p)

abbrev pub IsRightSegment : List ℕ → ℕ → Type 0
IsRightSegment p at = ((is_udp p ≡ true) × (word p at ≡ 0)) ⊎ IsRight (pseudo_header p ++ words (segment_of p))

new_sum : (udp : Bool) (w adj x c : ℕ) → (udp ≡ true → w ≡ 0 → ⊥) → adj + x ≡ 0xffff * c → (k : ℕ) × ((if udp then (if w == 0 then 0 else (if adj == 0 then 0xffff else adj)) else adj) + x ≡ 0xffff * k)
new_sum false w adj x c some is = (c, is)
new_sum true w adj x c some is =
    let there = cond-false (w == 0) 0 (if adj == 0 then 0xffff else adj) (ne_eqb w 0 (some refl)) in
    ⊎_elim
    (λ (zero : adj ≡ 0). (c + 1, ap (λ (n : ℕ). n + x) (there ∙ cond-true (adj == 0) 0xffff adj (eq-eqb adj 0 zero)) ∙ omega arith))
    (λ (other : adj ≡ 0 → ⊥). (c, ap (λ (n : ℕ). n + x) (there ∙ cond-false (adj == 0) 0xffff adj (ne_eqb adj 0 other)) ∙ is))
    (cases_eq adj 0)

new_small : (udp : Bool) (w adj : ℕ) → adj ≤ 0xffff → (if udp then (if w == 0 then 0 else (if adj == 0 then 0xffff else adj)) else adj) ≤ 0xffff
new_small false w adj small = small
new_small true w adj small = cond_both (w == 0) 0 (if adj == 0 then 0xffff else adj) (λ (n : ℕ). n ≤ 0xffff) (λ _. omega arith) (λ _. cond_both (adj == 0) 0xffff adj (λ (n : ℕ). n ≤ 0xffff) (λ _. omega arith) (λ _. small))

proto_some : (p : List ℕ) → has_transport p ≡ true → 0 < header_byte p (protocol_at p)
proto_some p there =
    ⊎_elim
    (λ (tcp : is_tcp p ≡ true). let k = eqb-true (header_byte p (protocol_at p)) 6 tcp in omega arith)
    (λ (udp : is_udp p ≡ true). let k = eqb-true (header_byte p (protocol_at p)) 17 udp in omega arith)
    (or_cases (is_tcp p) (is_udp p) (transport_parts p there).kind)

data_len : (p q : List ℕ) (o : Option Span) → length p ≡ length q → length (data_of p o) ≡ length (data_of q o)
data_len p q None same = refl
data_len p q (Some s) same = same_part s.len s.at p q same

data_bytes : (p : List ℕ) (o : Option Span) → IsBytes p → IsBytes (data_of p o)
data_bytes p None bytes = λ i. lit< tt
data_bytes p (Some s) bytes = part_bytes s.len s.at p bytes

-- the bytes of the words that a network function can write
abbrev written_bytes : Option Span → List ℕ → List ℕ
written_bytes o p = addresses_of p ++ (take 4 (drop (segment_at p) p) ++ data_of p o)

written_len : (p q : List ℕ) (o : Option Span) → SameSegment p q → length (written_bytes o p) ≡ length (written_bytes o q)
written_len p q o same =
    let start : segment_at p ≡ segment_at q = ap (λ (n : ℕ). n + 2) same.header in
    let a : length (addresses_of p) ≡ length (addresses_of q) = same_part (2 * address_len p) (in_header (source_at p)) p q same.len ∙ ap (λ (x : Span). length (bytes_at q x)) (addresses_at-same p q same.version.six) in
    let b = same_part 4 (segment_at p) p q same.len ∙ ap (λ (n : ℕ). length (take 4 (drop n q))) start in
    let c = data_len p q o same.len in
    length-append (addresses_of p) (take 4 (drop (segment_at p) p) ++ data_of p o)
    ∙ (cong2 (λ (m n : ℕ). m + n) a (length-append (take 4 (drop (segment_at p) p)) (data_of p o) ∙ (cong2 (λ (m n : ℕ). m + n) b c ∙ sym (length-append (take 4 (drop (segment_at q) q)) (data_of q o))))
    ∙ sym (length-append (addresses_of q) (take 4 (drop (segment_at q) q) ++ data_of q o)))

head_end_same : (p q : List ℕ) (o : Option Span) → summed_end q ≡ summed_end p → head_end q o ≡ head_end p o
head_end_same p q None ends = ends
head_end_same p q (Some s) ends = refl

others_same : (p q : List ℕ) (at : ℕ) (o : Option Span) → SameSegment p q → SameHead p q at o → others q at o ≡ others p at o
others_same p q at o same head =
    let start : segment_at q ≡ segment_at p = ap (λ (n : ℕ). n + 2) (sym same.header) in
    let first : take (at - (segment_at q + 4)) (drop (segment_at q + 4) q) ≡ take (at - (segment_at p + 4)) (drop (segment_at p + 4) p) = ap (λ (k : ℕ). take (at - (k + 4)) (drop (k + 4) q)) start ∙ head.first in
    let second : take (head_end q o - (at + 2)) (drop (at + 2) q) ≡ take (head_end p o - (at + 2)) (drop (at + 2) p) = ap (λ (k : ℕ). take (k - (at + 2)) (drop (at + 2) q)) (head_end_same p q o head.ends) ∙ head.second in
    cong2 (λ (a b : ℕ). a + b) head.kind (cong2 (λ (a b : ℕ). a + b) head.len (cong2 (λ (xs ys : List ℕ). sum (words xs) + sum (words ys)) first second))

-- in UDP a missing checksum stays missing
none_stays : (p q : List ℕ) → segment_sum_at p ≡ Some (checksum_at p) → SameSegment p q → header_byte q (protocol_at q) ≡ header_byte p (protocol_at p) → is_udp p ≡ true → word p (checksum_at p) ≡ 0 → IsRightSegment (segment_sealed p q) (checksum_at p)
none_stays p q is_at same kind udp zero =
    let at = checksum_at p in
    let s = has_sum p at is_at in
    let inside : at + 2 ≤ length q = let i = s.inside in let l = same.len in omega arith in
    let adj = adjusted (word p at) (segment_words (summed_span p) p) (segment_words (summed_span p) q) in
    let n_is : segment_checksum p q ≡ 0 =
    cond-true (is_udp p) (udp_adjusted (word p at) (segment_words (summed_span p) p) (segment_words (summed_span p) q)) adj udp
    ∙ cond-true (word p at == 0) 0 (if adj == 0 then 0xffff else adj) (eq-eqb (word p at) 0 zero) in
    let is : segment_sealed p q ≡ overwritten at (word_bytes 0) q = ap (λ (o : Option ℕ). word_put o (segment_checksum p q) q) is_at ∙ ap (λ (n : ℕ). overwritten at (word_bytes n) q) n_is in
    let shape = (segment_keeps p q same.segment_sum).shape in
    inl (is_udp-same q (segment_sealed p q) shape ∙ (ap (λ (n : ℕ). n == 17) kind ∙ udp), ap (λ (xs : List ℕ). word xs at) is ∙ word_there at 0 q (omega arith) inside)

right_total : (total n : ℕ) → total ≡ n → (k : ℕ) × (n ≡ 0xffff * k) → 0 < total → folded total ≡ 0xffff
right_total total n is k some = right_from total k.0 (is ∙ k.1) some

some_stays : (p q : List ℕ) → segment_sum_at p ≡ Some (checksum_at p) → SameSegment p q → IsBytes p → SameHead p q (checksum_at p) (summed_span p) → (is_udp p ≡ true → word p (checksum_at p) ≡ 0 → ⊥) → IsRight (pseudo_header p ++ words (segment_of p)) → IsRightSegment (segment_sealed p q) (checksum_at p)
some_stays p q is_at same bytes head some right =
    let at = checksum_at p in
    let o = summed_span p in
    let w = word p at in
    let s = has_sum p at is_at in
    let sq = has_sum q at (sym same.segment_sum ∙ is_at) in
    let adj = adjusted w (segment_words o p) (segment_words o q) in
    let n = segment_checksum p q in
    let inside : at + 2 ≤ length q = let i = s.inside in let l = same.len in omega arith in
    let is : segment_sealed p q ≡ overwritten at (word_bytes n) q = ap (λ (o : Option ℕ). word_put o n q) is_at in
    let shape : SameShape q (overwritten at (word_bytes n) q) = subst (λ (r : List ℕ). SameShape q r) is (segment_keeps p q same.segment_sum).shape in
    let r = overwritten at (word_bytes n) q in
    let sr = has_sum r at (segment_sum_at-same q r shape ∙ (sym same.segment_sum ∙ is_at)) in
    let total_p = segment_total p at o s refl in
    let total_r = segment_total r at o sr (summed_span-same q r shape ∙ head.covered) in
    let small = word_small p at bytes in
    let c = adjusted_right w (others p at o) (segment_words o p) (segment_words o q) small (same_words_len (written_bytes o p) (written_bytes o q) (written_len p q o same))
    (all_words (written_bytes o p) (bytes-append (addresses_of p) (take 4 (drop (segment_at p) p) ++ data_of p o) (part_bytes (2 * address_len p) (in_header (source_at p)) p bytes) (bytes-append (take 4 (drop (segment_at p) p)) (data_of p o) (part_bytes 4 (segment_at p) p bytes) (data_bytes p o bytes))))
    (ap (λ (k : ℕ). folded k) (sym total_p) ∙ right) in
    let k = new_sum (is_udp p) w adj (sum (segment_words o q) + others p at o) c.0 some c.1 in
    let n_small = new_small (is_udp p) w adj (adjusted_small w (segment_words o p) (segment_words o q) small) in
    let there = word_there at n q n_small inside in
    let kept = segment_words_kept q at n o sq head.covered shape in
    let rest = others_kept q at n o sq head.covered shape ∙ others_same p q at o same head in
    let total : sum (pseudo_header r ++ words (segment_of r)) ≡ n + (sum (segment_words o q) + others p at o) = total_r ∙ cong3 (λ (a b d : ℕ). a + (b + d)) there (ap (λ (ws : List ℕ). sum ws) kept) rest in
    let proto = proto_some p s.transport in
    inr (ap (λ (xs : List ℕ). folded (sum (pseudo_header xs ++ words (segment_of xs)))) is ∙ right_total (sum (pseudo_header r ++ words (segment_of r))) (n + (sum (segment_words o q) + others p at o)) total k (omega (arith, total, proto)))

pub segment_stays_right : (p q : List ℕ) → segment_sum_at p ≡ Some (checksum_at p) → SameSegment p q → IsBytes p → SameHead p q (checksum_at p) (summed_span p) → IsRightSegment p (checksum_at p) → IsRightSegment (segment_sealed p q) (checksum_at p)
segment_stays_right p q is_at same bytes head (inl none) = none_stays p q is_at same head.kind none.0 none.1
segment_stays_right p q is_at same bytes head (inr right) =
    ⊎_elim
    (λ (udp : is_udp p ≡ true). ⊎_elim
    (λ (zero : word p (checksum_at p) ≡ 0). none_stays p q is_at same head.kind udp zero)
    (λ (some : word p (checksum_at p) ≡ 0 → ⊥). some_stays p q is_at same bytes head (λ _ z. some z) right)
    (cases_eq (word p (checksum_at p)) 0))
    (λ (tcp : is_udp p ≡ false). some_stays p q is_at same bytes head (λ udp _. false≢true (sym tcp ∙ udp)) right)
    (cases_Bool (is_udp p))
