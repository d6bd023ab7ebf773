-- The lengths of a payload, a segment and a frame, and one more letter.
use Rattle.std.proofs.Common.{append_assoc, sym, ◌≡◌, ◌≤◌, ◌+◌, ◌-◌, ◌∙◌, ℕ, List, [], ◌∷◌, ◌++◌, length, length-append, Bool, true, false, ap, refl, arith}
use Rattle.std.specs.Prelude.{codes, if◌then◌else◌, ◌==◌, ◌/◌, ◌%◌, nat_le}
use Rattle.std.proofs.lemmas.Bool.{and_parts, leb-true, cond-true}
use Rattle.std.proofs.lemmas.List.{append-nil}
use Rattle.std.proofs.lemmas.List.FromFn.{length-map-range_with_len, map-range_with_len_more}
use Rattle.demo_capture.specs.declared.draws.Draws.{Draws}
use Rattle.demo_capture.specs.Draws.{has_secret, is_tcp, letter_at, letters, payload_len, payload_of}
use Rattle.demo_capture.specs.DemoFrames.{frame_with, ip_header, segment_len, segment_with, tcp_header, udp_header}

pub length_letters : (r : Draws) (from n : ℕ) → length (letters r from n) ≡ n
unfolding letters
length_letters r from n = length-map-range_with_len (letter_at r) from n

pub letters_more : (r : Draws) (from n place : ℕ) → from + n ≡ place → letters r from (n + 1) ≡ letters r from n ++ letter_at r place ∷ []
unfolding letters
letters_more r from n place is = map-range_with_len_more (letter_at r) from n place is

pub letters_none : (r : Draws) (from : ℕ) → letters r from 0 ≡ []
unfolding letters
letters_none r from = refl

-- no letters yet
pub letters_begin : (r : Draws) (from : ℕ) (xs : List ℕ) → xs ≡ xs ++ letters r from (from - from)
letters_begin r from xs =
    let none : from - from ≡ 0 = omega arith in
    sym (ap (λ (ys : List ℕ). xs ++ ys) (ap (λ (n : ℕ). letters r from n) none ∙ letters_none r from) ∙ append-nil xs)

-- one more letter
pub letters_step : (r : Draws) (from place letter : ℕ) (xs before after : List ℕ) → from ≤ place → before ≡ xs ++ letters r from (place - from) → letter ≡ letter_at r place → after ≡ before ++ letter ∷ []
    → after ≡ xs ++ letters r from (place + 1 - from)
letters_step r from place letter xs before after far is_before is_letter is_after =
    let count : place - from + 1 ≡ place + 1 - from = omega arith in
    let more : letters r from (place - from) ++ letter ∷ [] ≡ letters r from (place + 1 - from) =
    ap (λ (n : ℕ). letters r from (place - from) ++ n ∷ []) is_letter ∙ (sym (letters_more r from (place - from) place (omega arith)) ∙ ap (λ (n : ℕ). letters r from n) count) in
    is_after ∙ (ap (λ (ys : List ℕ). ys ++ letter ∷ []) is_before ∙ (append_assoc xs (letters r from (place - from)) (letter ∷ []) ∙ ap (λ (ys : List ℕ). xs ++ ys) more))

-- a loop over places has ended
pub all_letters : (from place end len : ℕ) → from ≤ place → (from ≤ end → place ≤ end) → end ≤ place → end ≡ len → from ≤ len → place - from ≡ len - from
all_letters from place end len far within past is some = let w : place ≤ end = within (omega arith) in omega arith

pub secret_fits : (r : Draws) → has_secret r ≡ true → 6 ≤ payload_len r
secret_fits r e = leb-true 6 (payload_len r) (and_parts ((r.d / 128) % 4 == 0) (nat_le 6 (payload_len r)) e).1

payload_by : (b : Bool) (r : Draws) → (b ≡ true → 6 ≤ payload_len r) → length (if b then codes "secret" ++ letters r 6 (payload_len r - 6) else letters r 0 (payload_len r)) ≡ payload_len r
payload_by true r long = let l = long refl in omega (arith, length_letters r 6 (payload_len r - 6), l)
payload_by false r long = length_letters r 0 (payload_len r)

pub length_payload : (r : Draws) → length (payload_of r) ≡ payload_len r
length_payload r = payload_by (has_secret r) r (secret_fits r)

segment_by : (b : Bool) (t u xs : List ℕ) → length t ≡ 20 → length u ≡ 8 → length ((if b then t else u) ++ xs) ≡ (if b then 20 else 8) + length xs
segment_by true t u xs is_t is_u = length-append t xs ∙ ap (λ n. n + length xs) is_t
segment_by false t u xs is_t is_u = length-append u xs ∙ ap (λ n. n + length xs) is_u

-- the same whatever the checksum is
pub length_segment_with : (c : ℕ) (r : Draws) → length (segment_with c r) ≡ (if is_tcp r then 20 else 8) + payload_len r
unfolding segment_with
length_segment_with c r = segment_by (is_tcp r) (tcp_header c r) (udp_header c r) (payload_of r) refl refl ∙ ap (λ n. (if is_tcp r then 20 else 8) + n) (length_payload r)

pub length_segment : (r : Draws) → segment_len r ≡ (if is_tcp r then 20 else 8) + payload_len r
length_segment r = length_segment_with 0 r

header_by : (b : Bool) → (if b then 20 else 8) ≤ 20
header_by true = omega arith
header_by false = omega arith

header_from : (b : Bool) → 8 ≤ (if b then 20 else 8)
header_from true = omega arith
header_from false = omega arith

pub segment_short : (c : ℕ) (r : Draws) → length (segment_with c r) ≤ 83
segment_short c r = omega (arith, length_segment_with c r, header_by (is_tcp r))

pub segment_long : (c : ℕ) (r : Draws) → 8 ≤ length (segment_with c r)
segment_long c r = omega (arith, length_segment_with c r, header_from (is_tcp r))

pub segment_long_tcp : (c : ℕ) (r : Draws) → is_tcp r ≡ true → 20 ≤ length (segment_with c r)
segment_long_tcp c r tcp = omega (arith, length_segment_with c r, cond-true {A = ℕ} (is_tcp r) 20 8 tcp)

pub length_frame : (c : ℕ) (r : Draws) → length (frame_with c r) ≡ 34 + length (segment_with c r)
unfolding frame_with ip_header
length_frame c r = omega arith

pub frame_short : (c : ℕ) (r : Draws) → length (frame_with c r) ≤ 117
frame_short c r = omega (arith, length_frame c r, segment_short c r)

pub frame_long : (c : ℕ) (r : Draws) → 34 ≤ length (frame_with c r)
frame_long c r = omega (arith, length_frame c r)
