-- A packet whose checksums are adjusted.
use Rattle.std.proofs.Common.{◌≡◌, ◌≤◌, ◌<◌, ◌+◌, ◌-◌, ◌*◌, ◌%◌, ◌^◌, ◌∙◌, ℕ, List, [], ◌++◌, length, take, drop, length-take, length-drop, length-append, length-take-le, Bool, true, false, ◌&&◌, ◌||◌, min, sym, ap, arith, subst, ⊎_elim}
use Rattle.std.specs.Prelude.{Option, Some, None, if◌then◌else◌, nat_le, ◌==◌}
use Rattle.std.proofs.lemmas.Bool.{and_parts, cond_both, cases_lt, leb-true}
use Rattle.std.proofs.lemmas.List.{take_all, append_assoc, append-nil}
use Rattle.std.proofs.lemmas.Option.{cond_some}
use Rattle.packet_fields.specs.Frames.{word}
use Rattle.packet_fields.specs.Packets.{in_header, is_ipv4, is_ipv6, header_len, has_transport, is_udp, segment_at, datagram_end, summed_span, header_sum_at, checksum_at, segment_sum_at}
use Rattle.packet_fields.specs.Fields.{bytes_at}
use Rattle.packet_fields.specs.Checksums.{words, word_bytes, folded, is_changed, change_sum, adjusted, header_words, segment_words, word_put, header_sealed, segment_checksum, segment_sealed}
use Rattle.packet_fields.specs.Changes.{IsChange, header_bytes, segment_bytes, applied, checksum_after}
use Rattle.packet_fields.specs.Writing.{overwritten}
use Rattle.packet_fields.specs.declared.plan.Span.{Span}
use Rattle.packet_fields.specs.declared.packet.HeaderFormat.{HeaderFormat}
use Rattle.packet_fields.specs.declared.sums.Change.{Change}
use Rattle.packet_fields.proofs.Overwriting.{cong2, cong3}
use Rattle.packet_fields.proofs.Versions.{header_len-ipv4, fields_end, numbers, segment_at-transport}
use Rattle.packet_fields.proofs.WordSums.{joins}

-- one step of a change from another
pub record IsStep (old new : List ℕ) (first last : Change) : Type 0 where
  pub total : last.sum ≡ first.sum + change_sum (words old) (words new)
  pub some_word : last.is_some ≡ (first.is_some || is_changed (words old) (words new))
  pub small : last.sum < 2 ^ 40

pub step_at : (old new a b : List ℕ) (first last : Change) → a ≡ old → b ≡ new → last.sum ≡ first.sum + change_sum (words a) (words b) → last.is_some ≡ (first.is_some || is_changed (words a) (words b)) → last.sum < 2 ^ 40 → IsStep old new first last
step_at old new a b first last is_old is_new total some small = record {
  total = total ∙ cong2 (λ (xs ys : List ℕ). first.sum + change_sum (words xs) (words ys)) is_old is_new;
  some_word = some ∙ cong2 (λ (xs ys : List ℕ). first.is_some || is_changed (words xs) (words ys)) is_old is_new;
  small = small;
}

pub begins : (old new : List ℕ) (first last : Change) → first ≡ record { sum = 0; is_some = false } → IsStep old new first last → IsChange old new last
begins old new first last none step = record {
  total = step.total ∙ (ap (λ (c : Change). c.sum + change_sum (words old) (words new)) none ∙ omega arith);
  some_word = step.some_word ∙ ap (λ (c : Change). c.is_some || is_changed (words old) (words new)) none;
  small = step.small;
}

pub extends : (a b c d : List ℕ) (first last : Change) → length a ≡ length c → length a % 2 ≡ 0 → IsChange a c first → IsStep b d first last → IsChange (a ++ b) (c ++ d) last
extends a b c d first last same even before step =
    let j = joins a b c d same even in
    record {
      total = step.total ∙ (ap (λ (n : ℕ). n + change_sum (words b) (words d)) before.total ∙ sym j.sums);
      some_word = step.some_word ∙ (ap (λ (x : Bool). x || is_changed (words b) (words d)) before.some_word ∙ sym j.some);
      small = step.small;
    }

pub same_part : (n k : ℕ) (p q : List ℕ) → length p ≡ length q → length (take n (drop k p)) ≡ length (take n (drop k q))
same_part n k p q same = length-take n (drop k p) ∙ (ap (λ (m : ℕ). min n m) (length-drop k p ∙ (ap (λ (m : ℕ). m - k) same ∙ sym (length-drop k q))) ∙ sym (length-take n (drop k q)))

pub part_len : (n k : ℕ) (p : List ℕ) → k + n ≤ length p → length (take n (drop k p)) ≡ n
part_len n k p inside = length-take-le n (drop k p) (omega (arith, length-drop k p))

pub header_changed : (end : ℕ) (p q : List ℕ) (none first last : Change) → length p ≡ length q → 14 ≤ length p → none ≡ record { sum = 0; is_some = false }
    → IsStep (take 10 (drop 2 p)) (take 10 (drop 2 q)) none first → IsStep (take (end - 14) (drop 14 p)) (take (end - 14) (drop 14 q)) first last
    → IsChange (header_bytes end p) (header_bytes end q) last
header_changed end p q none first last same long is_none one two =
    let ten = part_len 10 2 p (omega arith) in
    extends (take 10 (drop 2 p)) (take (end - 14) (drop 14 p)) (take 10 (drop 2 q)) (take (end - 14) (drop 14 q)) first last (same_part 10 2 p q same) (omega (arith, ten)) (begins (take 10 (drop 2 p)) (take 10 (drop 2 q)) none first is_none one) two

ports_changed : (s : Span) (start : ℕ) (p q : List ℕ) (none first second : Change) → length p ≡ length q → s.at + s.len ≤ length p → s.len % 2 ≡ 0 → none ≡ record { sum = 0; is_some = false }
    → IsStep (bytes_at p s) (bytes_at q s) none first → IsStep (take 4 (drop start p)) (take 4 (drop start q)) first second
    → IsChange (bytes_at p s ++ take 4 (drop start p)) (bytes_at q s ++ take 4 (drop start q)) second
ports_changed s start p q none first second same inside even is_none one two =
    let len = part_len s.len s.at p inside in
    extends (bytes_at p s) (take 4 (drop start p)) (bytes_at q s) (take 4 (drop start q)) first second (same_part s.len s.at p q same) (ap (λ (n : ℕ). n % 2) len ∙ even) (begins (bytes_at p s) (bytes_at q s) none first is_none one) two

-- an even number of bytes and four more are an even number
even_more : (m n : ℕ) → m % 2 ≡ 0 → n ≡ 4 → (m + n) % 2 ≡ 0
even_more m n even four = omega arith

pub segment_changed_some : (addresses : Span) (start : ℕ) (s : Span) (p q : List ℕ) (none first second last : Change) → length p ≡ length q → addresses.at + addresses.len ≤ start → addresses.len % 2 ≡ 0 → start + 4 ≤ length p → none ≡ record { sum = 0; is_some = false }
    → IsStep (bytes_at p addresses) (bytes_at q addresses) none first → IsStep (take 4 (drop start p)) (take 4 (drop start q)) first second → IsStep (take s.len (drop s.at p)) (take s.len (drop s.at q)) second last
    → IsChange (segment_bytes addresses start (Some s) p) (segment_bytes addresses start (Some s) q) last
segment_changed_some addresses start s p q none first second last same far even inside is_none one two three =
    let a = bytes_at p addresses in
    let b = take 4 (drop start p) in
    let c = bytes_at q addresses in
    let d = take 4 (drop start q) in
    let e = take s.len (drop s.at p) in
    let f = take s.len (drop s.at q) in
    let len = part_len addresses.len addresses.at p (omega arith) in
    let four = part_len 4 start p inside in
    let same_ab : length (a ++ b) ≡ length (c ++ d) = omega (arith, length-append a b, length-append c d, same_part addresses.len addresses.at p q same, same_part 4 start p q same) in
    let even_ab : length (a ++ b) % 2 ≡ 0 = ap (λ (n : ℕ). n % 2) (length-append a b) ∙ even_more (length a) (length b) (ap (λ (n : ℕ). n % 2) len ∙ even) four in
    let whole = extends (a ++ b) e (c ++ d) f second last same_ab even_ab (ports_changed addresses start p q none first second same (omega arith) even is_none one two) three in
    subst (λ (xs : List ℕ). IsChange xs (c ++ (d ++ f)) last) (append_assoc a b e) (subst (λ (ys : List ℕ). IsChange ((a ++ b) ++ e) ys last) (append_assoc c d f) whole)

pub segment_changed_none : (addresses : Span) (start : ℕ) (p q : List ℕ) (none first second : Change) → length p ≡ length q → addresses.at + addresses.len ≤ start → addresses.len % 2 ≡ 0 → start + 4 ≤ length p → none ≡ record { sum = 0; is_some = false }
    → IsStep (bytes_at p addresses) (bytes_at q addresses) none first → IsStep (take 4 (drop start p)) (take 4 (drop start q)) first second
    → IsChange (segment_bytes addresses start None p) (segment_bytes addresses start None q) second
segment_changed_none addresses start p q none first second same far even inside is_none one two =
    let a = bytes_at p addresses in
    let b = take 4 (drop start p) in
    let c = bytes_at q addresses in
    let d = take 4 (drop start q) in
    let both = ports_changed addresses start p q none first second same (omega arith) even is_none one two in
    subst (λ (xs : List ℕ). IsChange (a ++ xs) (c ++ (d ++ [])) second) (sym (append-nil b)) (subst (λ (ys : List ℕ). IsChange (a ++ b) (c ++ ys) second) (sym (append-nil d)) both)

pub applied-adjusted : (old new : List ℕ) (change : Change) (checksum : ℕ) → IsChange old new change → applied checksum change ≡ adjusted checksum (words old) (words new)
applied-adjusted old new change checksum is = cong2 (λ (b : Bool) (n : ℕ). if b then 0xffff - folded ((0xffff - checksum) + n) else checksum) is.some_word is.total

-- the header's bytes up to the header's end or the capture's
header_tail : (p : List ℕ) (h end : ℕ) → 20 ≤ h → end ≡ min (h + 2) (length p) → take (end - 14) (drop 14 p) ≡ take (h - 12) (drop 14 p)
header_tail p h end least is =
    ⊎_elim
    (λ (cut : length p < h + 2).
    let len = length-drop 14 p in
    take_all (end - 14) (drop 14 p) (omega (arith, len)) ∙ sym (take_all (h - 12) (drop 14 p) (omega (arith, len))))
    (λ (whole : h + 2 ≤ length p). ap (λ (n : ℕ). take n (drop 14 p)) (omega arith))
    (cases_lt (length p) (h + 2))

pub header_words-bytes : (p : List ℕ) (h end : ℕ) → h ≡ header_len p → 20 ≤ h → end ≡ min (h + 2) (length p) → words (header_bytes end p) ≡ header_words p
header_words-bytes p h end is_h least is = ap (λ (xs : List ℕ). words (take 10 (drop 2 p) ++ xs)) (header_tail p h end least is ∙ ap (λ (n : ℕ). take (n - 12) (drop 14 p)) is_h)

-- the header checksum is IPv4's
pub header_sum_is : (p : List ℕ) (at : ℕ) → header_sum_at p ≡ Some at → (at ≡ 12) × (14 ≤ length p) × (is_ipv4 p ≡ true)
header_sum_is p at is =
    let test = cond_some (is_ipv4 p && nat_le 14 (length p)) 12 at is in
    let both = and_parts (is_ipv4 p) (nat_le 14 (length p)) test.0 in
    (sym test.1, leb-true 14 (length p) both.1, both.0)

pub header_is_sealed : (p q after : List ℕ) (at h end checksum : ℕ) (change : Change) → header_sum_at p ≡ Some at → length p ≡ length q → header_len p ≡ header_len q
    → h ≡ header_len p → end ≡ min (h + 2) (length p) → IsChange (header_bytes end p) (header_bytes end q) change
    → checksum ≡ applied (word p at) change → after ≡ overwritten at (word_bytes checksum) q → after ≡ header_sealed p q
header_is_sealed p q after at h end checksum change is_at same same_h is_h is_end changed is_sum is_after =
    let s = header_sum_is p at is_at in
    let least : 20 ≤ h = let l = (header_len-ipv4 p s.2).1 in omega arith in
    let sum_is : checksum ≡ adjusted (word p 12) (header_words p) (header_words q) =
    is_sum ∙ (ap (λ (n : ℕ). applied (word p n) change) s.0 ∙ (applied-adjusted (header_bytes end p) (header_bytes end q) change (word p 12) changed
    ∙ cong2 (λ (ms ns : List ℕ). adjusted (word p 12) ms ns) (header_words-bytes p h end is_h least is_end) (header_words-bytes q h end (is_h ∙ same_h) least (is_end ∙ ap (λ (n : ℕ). min (h + 2) n) same)))) in
    is_after ∙ (ap (λ (n : ℕ). overwritten at (word_bytes n) q) sum_is ∙ sym (ap (λ (o : Option ℕ). word_put o (adjusted (word p 12) (header_words p) (header_words q)) q) is_at))

-- where a segment has its checksum
pub record HasSum (p : List ℕ) (at : ℕ) : Type 0 where
  pub transport : has_transport p ≡ true
  pub place : at ≡ checksum_at p
  pub far : 22 ≤ segment_at p
  pub ends : fields_end p ≤ segment_at p
  pub behind : segment_at p + 6 ≤ at
  pub inside : at + 2 ≤ datagram_end p

checksum_at-behind : (p : List ℕ) → segment_at p + 6 ≤ checksum_at p
checksum_at-behind p = cond_both (is_udp p) (segment_at p + 6) (segment_at p + 16) (λ n. segment_at p + 6 ≤ n) (λ _. omega arith) (λ _. omega arith)

pub has_sum : (p : List ℕ) (at : ℕ) → segment_sum_at p ≡ Some at → HasSum p at
has_sum p at is =
    let test = cond_some (has_transport p && nat_le (checksum_at p + 2) (datagram_end p)) (checksum_at p) at is in
    let both = and_parts (has_transport p) (nat_le (checksum_at p + 2) (datagram_end p)) test.0 in
    let inside = leb-true (checksum_at p + 2) (datagram_end p) both.1 in
    let behind = checksum_at-behind p in
    let ends = segment_at-transport p both.0 in
    let n = numbers p in
    record { transport = both.0; place = sym test.1; far = omega arith; ends = ends; behind = omega (arith, test.1); inside = omega (arith, test.1) }

-- where both addresses lie in the packet
abbrev addresses_by : Bool → Span
addresses_by b = record { at = in_header (if b then 8 else 12); len = 2 * (if b then 16 else 4) }

abbrev pub addresses_at : List ℕ → Span
addresses_at p = addresses_by (is_ipv6 p)

pub addresses_at-same : (p q : List ℕ) → is_ipv6 p ≡ is_ipv6 q → addresses_at p ≡ addresses_at q
addresses_at-same p q six = ap (λ (b : Bool). addresses_by b) six

-- the same from the format of the header
abbrev pub addresses_in : HeaderFormat → Span
addresses_in f = record { at = f.src_ip; len = 2 * f.address_len }

pub segment_is_sealed : (p q after : List ℕ) (at checksum : ℕ) (change : Change) (addresses : Span) (payload : Option Span) (start : ℕ) → segment_sum_at p ≡ Some at → is_ipv6 p ≡ is_ipv6 q → header_len p ≡ header_len q
    → start ≡ segment_at p → addresses ≡ addresses_at p → payload ≡ summed_span p → IsChange (segment_bytes addresses start payload p) (segment_bytes addresses start payload q) change
    → checksum ≡ checksum_after (is_udp p) (word p at) change → after ≡ overwritten at (word_bytes checksum) q → after ≡ segment_sealed p q
segment_is_sealed p q after at checksum change addresses payload start is_at six same_h is_start is_addresses is_payload changed is_sum is_after =
    let s = has_sum p at is_at in
    let old : words (segment_bytes addresses start payload p) ≡ segment_words (summed_span p) p = cong3 (λ (a : Span) (n : ℕ) (o : Option Span). words (segment_bytes a n o p)) is_addresses is_start is_payload in
    let new : words (segment_bytes addresses start payload q) ≡ segment_words (summed_span p) q = cong3 (λ (a : Span) (n : ℕ) (o : Option Span). words (segment_bytes a n o q)) (is_addresses ∙ addresses_at-same p q six) (is_start ∙ ap (λ (n : ℕ). n + 2) same_h) is_payload in
    let app : applied (word p at) change ≡ adjusted (word p (checksum_at p)) (segment_words (summed_span p) p) (segment_words (summed_span p) q) =
    applied-adjusted (segment_bytes addresses start payload p) (segment_bytes addresses start payload q) change (word p at) changed ∙ cong3 (λ (n : ℕ) (ms ns : List ℕ). adjusted (word p n) ms ns) s.place old new in
    let sum_is : checksum ≡ segment_checksum p q =
    is_sum ∙ cong2 (λ (w n : ℕ). if is_udp p then (if w == 0 then 0 else (if n == 0 then 0xffff else n)) else n) (ap (λ (n : ℕ). word p n) s.place) app in
    is_after ∙ (ap (λ (n : ℕ). overwritten at (word_bytes n) q) sum_is ∙ sym (ap (λ (o : Option ℕ). word_put o (segment_checksum p q) q) is_at))
