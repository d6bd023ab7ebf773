-- Bytes that are read are spelled as they would be written.
use Rattle.std.proofs.Common.{◌≡◌, ◌≢◌, ◌≤◌, ◌<◌, ◌+◌, ◌^◌, ◌∙◌, ℕ, List, [], ◌∷◌, ◌++◌, length, take, drop, refl, ap, sym, append_assoc, length-drop, subst, arith, Bool, true, false}
use Rattle.std.specs.Prelude.{Option, Some, None, Result, Ok, Err, nat_lt, ◌==◌, ◌&&◌}
use Rattle.std.specs.Result.{result_ok}
use Rattle.std.specs.List.{flat_map, AllByRecursion}
use Rattle.std.proofs.Math.Seq.{take-add}
use Rattle.std.proofs.lemmas.Bool.{ltb-false, eqb-true, eqb-false}
use Rattle.std.proofs.lemmas.List.{take-append-drop, drop-drop, length-take-le}
use Rattle.std.proofs.lemmas.List.Concat.{flat_map-cons}
use Rattle.std.proofs.lemmas.List.Elements.{All-from_recursion}
use Rattle.std.proofs.lemmas.Option.{some_pair_parts}
use Rattle.capture_bytes.specs.declared.packet.PcapRecord.{PcapRecord}
use Rattle.pcap_io.specs.declared.capture.CaptureHead.{CaptureHead}
use Rattle.pcap_io.specs.declared.capture.CaptureFault.{CaptureFault}
use Rattle.capture_bytes.specs.declared.order.Endian.{Endian}
use Rattle.capture_bytes.specs.declared.order.Endian.TheVariants.{Big, Little}
use Rattle.capture_bytes.specs.declared.packet.Unit.{Unit as TimeUnit}
use Rattle.capture_bytes.specs.declared.packet.Unit.TheVariants.{Micro, Nano}
use Rattle.pcap_io.specs.Capture.{Body, magic_of, kind_of, head_of_kind, number_at, captured_of, record_of, head_of, next_of, and_rest, body_of, with_body, capture_of}
use Rattle.pcap_io.specs.Written.{IsBytes, bytes_of, head_bytes, record_head, record_bytes, FitsRecord, IsCapture, ending_of}
use Rattle.capture_bytes.specs.NumberLaws.{spelled_2, spelled_4, fits_4, bytes_behind}
use Rattle.pcap_io.proofs.Records.{both, body_next}

joined_4 : (a a' b b' c c' d d' : List ℕ) → a ≡ a' → b ≡ b' → c ≡ c' → d ≡ d' → a ++ b ++ c ++ d ≡ a' ++ b' ++ c' ++ d'
joined_4 a a' b b' c c' d d' p q r s = cc

-- four pieces of four bytes
sixteen : (xs : List ℕ) → take 4 xs ++ take 4 (drop 4 xs) ++ take 4 (drop 8 xs) ++ take 4 (drop 12 xs) ≡ take 16 xs
sixteen xs =
    ap (λ l. l ++ take 4 (drop 8 xs) ++ take 4 (drop 12 xs)) (sym (take-add 4 4 xs))
    ∙ ap (λ l. l ++ take 4 (drop 12 xs)) (sym (take-add 8 4 xs)) ∙ sym (take-add 12 4 xs)

-- a record and what follows it, spelled, with numbers that fit
pub record IsSpelled (order : Endian) (bytes : List ℕ) (r : PcapRecord) (rest : List ℕ) : Type 0 where
  pub whole : bytes ≡ record_bytes order r ++ rest
  pub fits : FitsRecord r
  pub behind : IsBytes rest

front_spelled : (order : Endian) (bytes : List ℕ) → IsBytes bytes → 16 ≤ length bytes → captured_of order bytes ≤ 262144 → 16 + captured_of order bytes ≤ length bytes →
    IsSpelled order bytes (record_of order bytes) (drop (16 + captured_of order bytes) bytes)
unfolding record_head
front_spelled order bytes small long short fits =
    let captured : ℕ = captured_of order bytes in
    let frame : List ℕ = take captured (drop 16 bytes) in
    let size : length frame ≡ captured = length-take-le captured (drop 16 bytes) (omega (arith, length-drop 16 bytes)) in
    let head : record_head order (record_of order bytes) ≡ take 16 bytes =
    ap (λ n. bytes_of order 4 (number_at order 4 0 bytes) ++ bytes_of order 4 (number_at order 4 4 bytes) ++ bytes_of order 4 n ++ bytes_of order 4 (number_at order 4 12 bytes)) size
    ∙ joined_4 _ _ _ _ _ _ _ _ (spelled_4 order 0 bytes (omega arith) small) (spelled_4 order 4 bytes (omega arith) small) (spelled_4 order 8 bytes (omega arith) small) (spelled_4 order 12 bytes (omega arith) small)
    ∙ sixteen bytes in
    record {
      whole = sym (ap (λ h. (h ++ frame) ++ drop (16 + captured) bytes) head
          ∙ append_assoc (take 16 bytes) frame (drop (16 + captured) bytes)
          ∙ ap (λ t. take 16 bytes ++ (frame ++ t)) (sym (drop-drop captured 16 bytes))
          ∙ ap (λ t. take 16 bytes ++ t) (take-append-drop captured (drop 16 bytes))
          ∙ take-append-drop 16 bytes);
      fits = record { seconds = fits_4 order 0 bytes small; fraction = fits_4 order 4 bytes small; wire = fits_4 order 12 bytes small; short = omega (arith, size) };
      behind = bytes_behind (16 + captured) bytes small;
    }

-- a record that was read is spelled so, and there was room in the count
pub next_spelled : (order : Endian) (given : ℕ) (bytes : List ℕ) (r : PcapRecord) (rest : List ℕ) → IsBytes bytes → next_of order given bytes ≡ Ok (Some (r, rest)) → IsSpelled order bytes r rest × (given ≢ 4294967295)
next_spelled order given bytes r rest small =
    let P : Result (Option (PcapRecord × List ℕ)) CaptureFault → Type 0 = λ n. n ≡ Ok (Some (r, rest)) → IsSpelled order bytes r rest × (given ≢ 4294967295) in
    both P (length bytes == 0) _ _ (λ h is. absurd cc) (λ some.
    both P (given == 4294967295) _ _ (λ h is. absurd cc) (λ few.
    both P (nat_lt (length bytes) 16) _ _ (λ h is. absurd cc) (λ long.
    both P (nat_lt 262144 (captured_of order bytes)) _ _ (λ h is. absurd cc) (λ short.
    both P (nat_lt (length bytes) (16 + captured_of order bytes)) _ _ (λ h is. absurd cc) (λ fits is.
    let some_is : ◌≡◌ {A = Option (PcapRecord × List ℕ)} (Some (record_of order bytes, drop (16 + captured_of order bytes) bytes)) (Some (r, rest)) = cc in
    let parts = some_pair_parts (record_of order bytes) r (drop (16 + captured_of order bytes) bytes) rest some_is in
    let front = front_spelled order bytes small (ltb-false (length bytes) 16 long) (ltb-false 262144 (captured_of order bytes) short) (ltb-false (length bytes) (16 + captured_of order bytes) fits) in
    (subst (λ x. IsSpelled order bytes x rest) parts.0 (subst (λ x. IsSpelled order bytes (record_of order bytes) x) parts.1 front), eqb-false given 4294967295 few))))))

no_records : (next : Result (Option (PcapRecord × List ℕ)) CaptureFault) (rest : List ℕ → Body) (fault : Option CaptureFault) → and_rest rest next ≡ record { records = []; fault = fault } → next ≡ ending_of fault
no_records (Ok None) rest fault is = let e : ◌≡◌ {A = Option CaptureFault} None fault = ap (λ b. b.fault) is in ap ending_of e
no_records (Ok (Some (r, bytes))) rest fault is = let e : r ∷ (rest bytes).records ≡ [] = ap (λ b. b.records) is in absurd cc
no_records (Err f) rest fault is = let e : Some f ≡ fault = ap (λ b. b.fault) is in ap ending_of e

-- a record, and what follows it
record Follows (rest : List ℕ → Body) (next : Result (Option (PcapRecord × List ℕ)) CaptureFault) (r : PcapRecord) (others : Body) : Type 0 where
  bytes : List ℕ
  first : next ≡ Ok (Some (r, bytes))
  behind : rest bytes ≡ others

some_record : (next : Result (Option (PcapRecord × List ℕ)) CaptureFault) (rest : List ℕ → Body) (r : PcapRecord) (rs : List PcapRecord) (fault : Option CaptureFault) → and_rest rest next ≡ record { records = r ∷ rs; fault = fault } →
    Follows rest next r (record { records = rs; fault = fault })
some_record (Ok None) rest r rs fault is = let e : ◌≡◌ {A = List PcapRecord} [] (r ∷ rs) = ap (λ b. b.records) is in absurd cc
some_record (Ok (Some (r', bytes))) rest r rs fault is =
    let records_are : r' ∷ (rest bytes).records ≡ r ∷ rs = ap (λ b. b.records) is in
    let first : r' ≡ r = cc in
    let others : (rest bytes).records ≡ rs = cc in
    let same_fault : (rest bytes).fault ≡ fault = ap (λ b. b.fault) is in
    record { bytes = bytes; first = ap (λ x. Ok (Some (x, bytes))) first; behind = ap (λ rs'. record { records = rs'; fault = (rest bytes).fault }) others ∙ ap (λ f. record { records = rs; fault = f }) same_fault }
some_record (Err f) rest r rs fault is = let e : ◌≡◌ {A = List PcapRecord} [] (r ∷ rs) = ap (λ b. b.records) is in absurd cc

-- all bytes of a body are its records, and the tail at which they end
pub record IsBodySpelled (order : Endian) (given : ℕ) (bytes : List ℕ) (records : List PcapRecord) (fault : Option CaptureFault) : Type 0 where
  pub tail : List ℕ
  pub whole : bytes ≡ flat_map (record_bytes order) records ++ tail
  pub fits : AllByRecursion FitsRecord records
  pub few : given + length records ≤ 4294967295
  pub ending : next_of order (given + length records) tail ≡ ending_of fault

pub body_spelled : (order : Endian) (given : ℕ) (bytes : List ℕ) (records : List PcapRecord) (fault : Option CaptureFault) → IsBytes bytes → given ≤ 4294967295 →
    body_of order given bytes ≡ record { records = records; fault = fault } → IsBodySpelled order given bytes records fault
body_spelled order given bytes [] fault small few is =
    let none : given + length {A = PcapRecord} [] ≡ given = omega arith in
    record {
      tail = bytes;
      whole = refl;
      fits = tt;
      few = omega arith;
      ending = ap (λ n. next_of order n bytes) none ∙ no_records (next_of order given bytes) (body_of order (given + 1)) fault (sym (body_next order given bytes) ∙ is);
    }
body_spelled order given bytes (r ∷ rs) fault small few is =
    let follows = some_record (next_of order given bytes) (body_of order (given + 1)) r rs fault (sym (body_next order given bytes) ∙ is) in
    let front = next_spelled order given bytes r follows.bytes small follows.first in
    let room : given + 1 ≤ 4294967295 = omega (arith, front.1) in
    let others = body_spelled order (given + 1) follows.bytes rs fault front.0.behind room follows.behind in
    let count : given + length (r ∷ rs) ≡ given + 1 + length rs = omega arith in
    record {
      tail = others.tail;
      whole = front.0.whole ∙ ap (λ l. record_bytes order r ++ l) others.whole ∙ sym (append_assoc (record_bytes order r) (flat_map (record_bytes order) rs) others.tail)
          ∙ ap (λ l. l ++ others.tail) (sym (flat_map-cons (record_bytes order) r rs));
      fits = (front.0.fits, others.fits);
      few = omega (arith, others.few, count);
      ending = ap (λ n. next_of order n others.tail) count ∙ others.ending;
    }

-- a magic number that was found is there
kind_known : (bytes : List ℕ) (order : Endian) (unit : TimeUnit) → kind_of bytes ≡ Some (order, unit) → number_at order 4 0 bytes ≡ magic_of unit
kind_known bytes order unit =
    let P : Option (Endian × TimeUnit) → Type 0 = λ k. k ≡ Some (order, unit) → number_at order 4 0 bytes ≡ magic_of unit in
    both P (number_at Little 4 0 bytes == 0xa1b2c3d4) _ _ (λ h. known Little Micro (eqb-true (number_at Little 4 0 bytes) 0xa1b2c3d4 h)) (λ no.
    both P (number_at Little 4 0 bytes == 0xa1b23c4d) _ _ (λ h. known Little Nano (eqb-true (number_at Little 4 0 bytes) 0xa1b23c4d h)) (λ no'.
    both P (number_at Big 4 0 bytes == 0xa1b2c3d4) _ _ (λ h. known Big Micro (eqb-true (number_at Big 4 0 bytes) 0xa1b2c3d4 h)) (λ no''.
    both P (number_at Big 4 0 bytes == 0xa1b23c4d) _ _ (λ h. known Big Nano (eqb-true (number_at Big 4 0 bytes) 0xa1b23c4d h)) (λ no3 is. absurd cc))))
  where
    known : (o : Endian) (u : TimeUnit) → number_at o 4 0 bytes ≡ magic_of u → ◌≡◌ {A = Option (Endian × TimeUnit)} (Some (o, u)) (Some (order, unit)) → number_at order 4 0 bytes ≡ magic_of unit
    known o u is same = let parts = some_pair_parts o order u unit same in subst (λ x. number_at x 4 0 bytes ≡ magic_of unit) parts.0 (is ∙ ap magic_of parts.1)

-- an accepted head, spelled, with numbers that fit
pub record IsHeadSpelled (bytes : List ℕ) (head : CaptureHead) : Type 0 where
  pub whole : head_bytes head ≡ take 24 bytes
  pub zone : head.zone < 2 ^ 32
  pub sigfigs : head.sigfigs < 2 ^ 32
  pub snaplen : head.snaplen < 2 ^ 32

joined_7 : (a a' b b' c c' d d' e e' f f' g g' : List ℕ) → a ≡ a' → b ≡ b' → c ≡ c' → d ≡ d' → e ≡ e' → f ≡ f' → g ≡ g' → a ++ b ++ c ++ d ++ e ++ f ++ g ≡ a' ++ b' ++ c' ++ d' ++ e' ++ f' ++ g'
joined_7 a a' b b' c c' d d' e e' f f' g g' p q r s t u v = cc

-- the pieces of a head
twenty_four : (xs : List ℕ) → take 4 xs ++ take 2 (drop 4 xs) ++ take 2 (drop 6 xs) ++ take 4 (drop 8 xs) ++ take 4 (drop 12 xs) ++ take 4 (drop 16 xs) ++ take 4 (drop 20 xs) ≡ take 24 xs
twenty_four xs =
    ap (λ l. l ++ take 2 (drop 6 xs) ++ take 4 (drop 8 xs) ++ take 4 (drop 12 xs) ++ take 4 (drop 16 xs) ++ take 4 (drop 20 xs)) (sym (take-add 4 2 xs))
    ∙ ap (λ l. l ++ take 4 (drop 8 xs) ++ take 4 (drop 12 xs) ++ take 4 (drop 16 xs) ++ take 4 (drop 20 xs)) (sym (take-add 6 2 xs))
    ∙ ap (λ l. l ++ take 4 (drop 12 xs) ++ take 4 (drop 16 xs) ++ take 4 (drop 20 xs)) (sym (take-add 8 4 xs))
    ∙ ap (λ l. l ++ take 4 (drop 16 xs) ++ take 4 (drop 20 xs)) (sym (take-add 12 4 xs))
    ∙ ap (λ l. l ++ take 4 (drop 20 xs)) (sym (take-add 16 4 xs)) ∙ sym (take-add 20 4 xs)

abbrev head_at : Endian → TimeUnit → List ℕ → CaptureHead
head_at order unit bytes = record { order = order; unit = unit; zone = number_at order 4 8 bytes; sigfigs = number_at order 4 12 bytes; snaplen = number_at order 4 16 bytes }

head_at_spelled : (bytes : List ℕ) (order : Endian) (unit : TimeUnit) → IsBytes bytes → 24 ≤ length bytes → number_at order 4 0 bytes ≡ magic_of unit →
    number_at order 2 4 bytes ≡ 2 → number_at order 2 6 bytes ≡ 4 → number_at order 4 20 bytes ≡ 1 → IsHeadSpelled bytes (head_at order unit bytes)
unfolding head_bytes
head_at_spelled bytes order unit small long magic major minor link = record {
  whole = joined_7 _ _ _ _ _ _ _ _ _ _ _ _ _ _
      (ap (bytes_of order 4) (sym magic) ∙ spelled_4 order 0 bytes (omega arith) small) (ap (bytes_of order 2) (sym major) ∙ spelled_2 order 4 bytes (omega arith) small)
      (ap (bytes_of order 2) (sym minor) ∙ spelled_2 order 6 bytes (omega arith) small) (spelled_4 order 8 bytes (omega arith) small) (spelled_4 order 12 bytes (omega arith) small)
      (spelled_4 order 16 bytes (omega arith) small) (ap (bytes_of order 4) (sym link) ∙ spelled_4 order 20 bytes (omega arith) small) ∙ twenty_four bytes;
  zone = fits_4 order 8 bytes small;
  sigfigs = fits_4 order 12 bytes small;
  snaplen = fits_4 order 16 bytes small;
}

both_true : (a b : Bool) → a && b ≡ true → (a ≡ true) × (b ≡ true)
both_true true b h = (refl, h)
both_true false b h = absurd cc

of_kind_spelled : (bytes : List ℕ) (kind : Option (Endian × TimeUnit)) (head : CaptureHead) → IsBytes bytes → 24 ≤ length bytes → kind_of bytes ≡ kind → head_of_kind bytes kind ≡ Ok head → IsHeadSpelled bytes head
of_kind_spelled bytes None head small long kind = λ is. absurd cc
of_kind_spelled bytes (Some (order, unit)) head small long kind =
    let P : Result CaptureHead CaptureFault → Type 0 = λ h. h ≡ Ok head → IsHeadSpelled bytes head in
    both P ((number_at order 2 4 bytes == 2) && (number_at order 2 6 bytes == 4)) _ _ (λ version.
    both P (number_at order 4 20 bytes == 1) _ _ (λ link is.
    let versions = both_true (number_at order 2 4 bytes == 2) (number_at order 2 6 bytes == 4) version in
    let same : head_at order unit bytes ≡ head = cc in
    subst (IsHeadSpelled bytes) same (head_at_spelled bytes order unit small long (kind_known bytes order unit kind)
    (eqb-true (number_at order 2 4 bytes) 2 versions.0) (eqb-true (number_at order 2 6 bytes) 4 versions.1) (eqb-true (number_at order 4 20 bytes) 1 link)))
    (λ no is. absurd cc)) (λ no is. absurd cc)

pub head_spelled : (bytes : List ℕ) (head : CaptureHead) → IsBytes bytes → head_of bytes ≡ Ok head → IsHeadSpelled bytes head
head_spelled bytes head small =
    let P : Result CaptureHead CaptureFault → Type 0 = λ h. h ≡ Ok head → IsHeadSpelled bytes head in
    both P (nat_lt (length bytes) 24) _ _ (λ h is. absurd cc) (λ long is. of_kind_spelled bytes (kind_of bytes) head small (ltb-false (length bytes) 24 long) refl is)

with_body_parts : (bytes : List ℕ) (result : Result CaptureHead CaptureFault) (head : CaptureHead) (body : Body) → with_body bytes result ≡ Ok (head, body) → (result ≡ Ok head) × (body_of head.order 0 bytes ≡ body)
with_body_parts bytes (Ok h) head body is =
    let parts = some_pair_parts h head (body_of h.order 0 bytes) body (ap result_ok is) in
    (ap (λ x. Ok x) parts.0, ap (λ x. body_of x.order 0 bytes) (sym parts.0) ∙ parts.1)
with_body_parts bytes (Err fault) head body is = absurd cc

-- a capture that was read is its head, its records and a tail, as they are written
pub capture_spelled : (bytes : List ℕ) (head : CaptureHead) (body : Body) → IsBytes bytes → capture_of bytes ≡ Ok (head, body) → IsCapture bytes head body
capture_spelled bytes head body small is =
    let parts = with_body_parts (drop 24 bytes) (head_of bytes) head body is in
    let front = head_spelled bytes head small parts.0 in
    let behind = body_spelled head.order 0 (drop 24 bytes) body.records body.fault (bytes_behind 24 bytes small) (omega arith) parts.1 in
    let count : 0 + length body.records ≡ length body.records = omega arith in
    record {
      tail = behind.tail;
      whole = sym (take-append-drop 24 bytes) ∙ ap (λ l. l ++ drop 24 bytes) (sym front.whole) ∙ ap (λ l. head_bytes head ++ l) behind.whole
          ∙ sym (append_assoc (head_bytes head) (flat_map (record_bytes head.order) body.records) behind.tail);
      head_fits = record { zone = front.zone; sigfigs = front.sigfigs; snaplen = front.snaplen };
      records_fit = All-from_recursion FitsRecord body.records behind.fits;
      few = omega (arith, behind.few, count);
      ending = ap (λ n. next_of head.order n behind.tail) (sym count) ∙ behind.ending;
    }
