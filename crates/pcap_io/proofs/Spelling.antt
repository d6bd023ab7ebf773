-- What is written is read again, and what is read is spelled as it would be written.
use Rattle.std.proofs.Common.{◌≡◌, ◌≤◌, ◌<◌, ◌+◌, ◌^◌, ◌∙◌, ℕ, List, [], ◌∷◌, ◌++◌, length, take, drop, refl, ap, sym, append_assoc, length-append, arith}
use Rattle.std.specs.Prelude.{Option, Some, None, Ok, nat_lt}
use Rattle.std.specs.List.{flat_map, AllByRecursion}
use Rattle.std.proofs.Math.Seq.{take-append_seam, drop-append_seam}
use Rattle.std.proofs.lemmas.Bool.{le-ltb}
use Rattle.std.proofs.lemmas.List.{drop-drop}
use Rattle.std.proofs.lemmas.List.Concat.{flat_map-cons}
use Rattle.std.proofs.lemmas.List.Elements.{recursion_from_All}
use Rattle.byteorder.specs.Numbers.{big_number-reads_back, little_number-reads_back}
use Rattle.capture_bytes.specs.declared.packet.PcapRecord.{PcapRecord}
use Rattle.pcap_io.specs.declared.capture.CaptureHead.{CaptureHead}
use Rattle.pcap_io.specs.declared.capture.CaptureFault.{CaptureFault}
use Rattle.capture_bytes.specs.declared.order.Endian.{Endian}
use Rattle.capture_bytes.specs.declared.order.Endian.TheVariants.{Big, Little}
use Rattle.capture_bytes.specs.declared.packet.Unit.{Unit as TimeUnit}
use Rattle.capture_bytes.specs.declared.packet.Unit.TheVariants.{Micro, Nano}
use Rattle.pcap_io.specs.Capture.{Body, number_at, captured_of, record_of, head_of, next_of, and_rest, with_record, body_of, with_body, capture_of}
use Rattle.pcap_io.specs.Written.{head_bytes, record_head, record_bytes, FitsRecord, IsCapture, ending_of}
use Rattle.pcap_io.proofs.Records.{otherwise, next_whole, body_next}

-- the numbers of a head, one by one
abbrev head_with : Endian → TimeUnit → ℕ → ℕ → ℕ → CaptureHead
head_with order unit zone sigfigs snaplen = record { order = order; unit = unit; zone = zone; sigfigs = sigfigs; snaplen = snaplen }

same_head : (order : Endian) (unit : TimeUnit) (z z' s s' n n' : ℕ) → z ≡ z' → s ≡ s' → n ≡ n' → head_with order unit z s n ≡ head_with order unit z' s' n'
same_head order unit z z' s s' n n' p q r = ap (λ x. head_with order unit x s n) p ∙ ap (λ x. head_with order unit z' x n) q ∙ ap (λ x. head_with order unit z' s' x) r

head_read : (order : Endian) (unit : TimeUnit) (zone sigfigs snaplen : ℕ) (tail : List ℕ) → zone < 2 ^ 32 → sigfigs < 2 ^ 32 → snaplen < 2 ^ 32 →
    head_of (head_bytes (head_with order unit zone sigfigs snaplen) ++ tail) ≡ Ok (head_with order unit zone sigfigs snaplen)
unfolding head_bytes
head_read Little Micro z s n tail p q r = otherwise (nat_lt (length (head_bytes (head_with Little Micro z s n) ++ tail)) 24) _ _ (le-ltb (length (head_bytes (head_with Little Micro z s n) ++ tail)) 24 (omega arith))
    ∙ ap (λ h. Ok h) (same_head Little Micro _ z _ s _ n (little_number-reads_back 4 z [] p) (little_number-reads_back 4 s [] q) (little_number-reads_back 4 n [] r))
head_read Little Nano z s n tail p q r = otherwise (nat_lt (length (head_bytes (head_with Little Nano z s n) ++ tail)) 24) _ _ (le-ltb (length (head_bytes (head_with Little Nano z s n) ++ tail)) 24 (omega arith))
    ∙ ap (λ h. Ok h) (same_head Little Nano _ z _ s _ n (little_number-reads_back 4 z [] p) (little_number-reads_back 4 s [] q) (little_number-reads_back 4 n [] r))
head_read Big Micro z s n tail p q r = otherwise (nat_lt (length (head_bytes (head_with Big Micro z s n) ++ tail)) 24) _ _ (le-ltb (length (head_bytes (head_with Big Micro z s n) ++ tail)) 24 (omega arith))
    ∙ ap (λ h. Ok h) (same_head Big Micro _ z _ s _ n (big_number-reads_back 4 z [] p) (big_number-reads_back 4 s [] q) (big_number-reads_back 4 n [] r))
head_read Big Nano z s n tail p q r = otherwise (nat_lt (length (head_bytes (head_with Big Nano z s n) ++ tail)) 24) _ _ (le-ltb (length (head_bytes (head_with Big Nano z s n) ++ tail)) 24 (omega arith))
    ∙ ap (λ h. Ok h) (same_head Big Nano _ z _ s _ n (big_number-reads_back 4 z [] p) (big_number-reads_back 4 s [] q) (big_number-reads_back 4 n [] r))

pub head_again : (head : CaptureHead) (tail : List ℕ) → head.zone < 2 ^ 32 → head.sigfigs < 2 ^ 32 → head.snaplen < 2 ^ 32 → head_of (head_bytes head ++ tail) ≡ Ok head
head_again head tail p q r = head_read head.order head.unit head.zone head.sigfigs head.snaplen tail p q r

-- a record by its numbers and its frame
abbrev record_with : ℕ → ℕ → ℕ → List ℕ → PcapRecord
record_with seconds fraction wire frame = record { seconds = seconds; fraction = fraction; wire = wire; frame = frame }

pub same_record : (s s' f f' w w' : ℕ) (x x' : List ℕ) → s ≡ s' → f ≡ f' → w ≡ w' → x ≡ x' → record_with s f w x ≡ record_with s' f' w' x'
same_record s s' f f' w w' x x' p q r t =
    ap (λ y. record_with y f w x) p ∙ ap (λ y. record_with s' y w x) q ∙ ap (λ y. record_with s' f' y x) r ∙ ap (λ y. record_with s' f' w' y) t

-- what a written record holds
record IsThere (order : Endian) (r : PcapRecord) (tail bytes : List ℕ) : Type 0 where
  seconds : number_at order 4 0 bytes ≡ r.seconds
  fraction : number_at order 4 4 bytes ≡ r.fraction
  captured : captured_of order bytes ≡ length r.frame
  wire : number_at order 4 12 bytes ≡ r.wire
  behind : drop 16 bytes ≡ r.frame ++ tail
  size : length bytes ≡ 16 + length r.frame + length tail

is_there : (order : Endian) (r : PcapRecord) (tail : List ℕ) → FitsRecord r → IsThere order r tail (record_bytes order r ++ tail)
unfolding record_head
is_there Big r tail fits = record {
  seconds = big_number-reads_back 4 r.seconds [] fits.seconds;
  fraction = big_number-reads_back 4 r.fraction [] fits.fraction;
  captured = big_number-reads_back 4 (length r.frame) [] (let short : length r.frame ≤ 262144 = fits.short in omega arith);
  wire = big_number-reads_back 4 r.wire [] fits.wire;
  behind = refl;
  size = omega (arith, length-append r.frame tail);
}
is_there Little r tail fits = record {
  seconds = little_number-reads_back 4 r.seconds [] fits.seconds;
  fraction = little_number-reads_back 4 r.fraction [] fits.fraction;
  captured = little_number-reads_back 4 (length r.frame) [] (let short : length r.frame ≤ 262144 = fits.short in omega arith);
  wire = little_number-reads_back 4 r.wire [] fits.wire;
  behind = refl;
  size = omega (arith, length-append r.frame tail);
}

-- a written record is the next one
pub record_again : (order : Endian) (given : ℕ) (r : PcapRecord) (tail : List ℕ) → given < 4294967295 → FitsRecord r → next_of order given (record_bytes order r ++ tail) ≡ Ok (Some (r, tail))
record_again order given r tail few fits =
    let bytes : List ℕ = record_bytes order r ++ tail in
    let there = is_there order r tail fits in
    let short : length r.frame ≤ 262144 = fits.short in
    let frame : take (captured_of order bytes) (drop 16 bytes) ≡ r.frame = ap (λ n. take n (drop 16 bytes)) there.captured ∙ ap (take (length r.frame)) there.behind ∙ take-append_seam r.frame tail in
    let rest : drop (16 + captured_of order bytes) bytes ≡ tail =
    ap (λ n. drop (16 + n) bytes) there.captured ∙ sym (drop-drop (length r.frame) 16 bytes) ∙ ap (drop (length r.frame)) there.behind ∙ drop-append_seam r.frame tail in
    let same : record_of order bytes ≡ r = same_record _ r.seconds _ r.fraction _ r.wire _ r.frame there.seconds there.fraction there.wire frame in
    next_whole order given bytes few (omega (arith, there.size)) (omega (arith, there.captured)) (omega (arith, there.captured, there.size))
    ∙ ap (λ x. Ok (Some (x, drop (16 + captured_of order bytes) bytes))) same ∙ ap (λ x. Ok (Some (r, x))) rest

ending_alone : (rest : List ℕ → Body) (fault : Option CaptureFault) → and_rest rest (ending_of fault) ≡ record { records = []; fault = fault }
ending_alone rest None = refl
ending_alone rest (Some fault) = refl

-- written records are the body, up to what ends them
pub body_again : (order : Endian) (given : ℕ) (records : List PcapRecord) (fault : Option CaptureFault) (tail : List ℕ) → AllByRecursion FitsRecord records → given + length records ≤ 4294967295 →
    next_of order (given + length records) tail ≡ ending_of fault → body_of order given (flat_map (record_bytes order) records ++ tail) ≡ record { records = records; fault = fault }
body_again order given [] fault tail fits few ending =
    let none : given ≡ given + length {A = PcapRecord} [] = omega arith in
    body_next order given tail ∙ ap (and_rest (body_of order (given + 1))) (ap (λ n. next_of order n tail) none ∙ ending) ∙ ending_alone (body_of order (given + 1)) fault
body_again order given (r ∷ rs) fault tail fits few ending =
    let others : List ℕ = flat_map (record_bytes order) rs ++ tail in
    let count : given + 1 + length rs ≡ given + length (r ∷ rs) = omega arith in
    let parts : flat_map (record_bytes order) (r ∷ rs) ++ tail ≡ record_bytes order r ++ others =
    ap (λ l. l ++ tail) (flat_map-cons (record_bytes order) r rs) ∙ append_assoc (record_bytes order r) (flat_map (record_bytes order) rs) tail in
    ap (body_of order given) parts ∙ body_next order given (record_bytes order r ++ others)
    ∙ ap (and_rest (body_of order (given + 1))) (record_again order given r others (omega (arith, few)) fits.0)
    ∙ ap (with_record r) (body_again order (given + 1) rs fault tail fits.1 (omega (arith, count, few)) (ap (λ n. next_of order n tail) count ∙ ending))

pub length_head : (head : CaptureHead) → length (head_bytes head) ≡ 24
unfolding head_bytes
length_head head = length_of head.order head.unit head.zone head.sigfigs head.snaplen
  where
    length_of : (order : Endian) (unit : TimeUnit) (z s n : ℕ) → length (head_bytes (head_with order unit z s n)) ≡ 24
    length_of Big unit z s n = refl
    length_of Little unit z s n = refl

-- a written capture is read as it was written
pub capture_again : (bytes : List ℕ) (head : CaptureHead) (body : Body) → IsCapture bytes head body → capture_of bytes ≡ Ok (head, body)
capture_again bytes head body written =
    let behind_head : List ℕ = flat_map (record_bytes head.order) body.records ++ written.tail in
    let whole : bytes ≡ head_bytes head ++ behind_head = written.whole ∙ append_assoc (head_bytes head) (flat_map (record_bytes head.order) body.records) written.tail in
    let accepted : head_of bytes ≡ Ok head = ap head_of whole ∙ head_again head behind_head written.head_fits.zone written.head_fits.sigfigs written.head_fits.snaplen in
    let behind : drop 24 bytes ≡ behind_head = ap (drop 24) whole ∙ ap (λ n. drop n (head_bytes head ++ behind_head)) (sym (length_head head)) ∙ drop-append_seam (head_bytes head) behind_head in
    let read : body_of head.order 0 (drop 24 bytes) ≡ body = ap (body_of head.order 0) behind
    ∙ body_again head.order 0 body.records body.fault written.tail (recursion_from_All FitsRecord body.records written.records_fit) (omega (arith, written.few))
    (ap (λ n. next_of head.order n written.tail) (let e : 0 + length body.records ≡ length body.records = omega arith in e) ∙ written.ending) in
    ap (with_body (drop 24 bytes)) accepted ∙ ap (λ b. Ok (head, b)) read
