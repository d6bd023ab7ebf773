-- What a record's head and its frame say about the bytes that remained.
use Rattle.std.proofs.Common.{◌≡◌, ◌≤◌, ◌<◌, ◌+◌, ◌∙◌, ℕ, List, [], length, take, drop, refl, ap, sym, subst, length-drop, arith}
use Rattle.std.specs.Prelude.{Some, None, IfSome, Ok, Err, IsErrOf, ◌==◌, nat_lt}
use Rattle.std.specs.Option.{option_map}
use Rattle.std.proofs.Math.Seq.{take-length}
use Rattle.std.proofs.lemmas.Bool.{le-ltb, lt-ltb, eq-eqb}
use Rattle.std.proofs.lemmas.List.{drop-drop}
use Rattle.nfp_outside.specs.Outside.{SlotView, TakesFront}
use Rattle.capture_bytes.specs.declared.order.Endian.{Endian}
use Rattle.capture_bytes.specs.declared.packet.PcapRecord.{PcapRecord}
use Rattle.pcap_io.specs.declared.capture.CaptureFault.{CaptureFault}
use Rattle.pcap_io.specs.declared.capture.CaptureFault.TheVariants.{CutRecord, FrameTooLong, TooManyRecords}
use Rattle.pcap_io.specs.declared.fault.PcapFault.TheVariants.{Capture}
use Rattle.pcap_io.specs.Capture.{number_at, captured_of, record_of, next_of, and_rest, with_record, body_of}
use Rattle.capture_bytes.specs.Filling.{Fills, FillsFrom}
use Rattle.capture_bytes.specs.FillingLaws.{fills_taken, taken_twice, taken_less, told_some, told_none, if_some, if_told}
use Rattle.capture_bytes.specs.NumberLaws.{same_number}
use Rattle.pcap_io.specs.Filling.{EndsWithin}
use Rattle.pcap_io.specs.Reader.{reader_at, ReadsRecord, IsAtEnd, RefusesRecord, IsRecordFault}
use Rattle.pcap_io.proofs.Records.{otherwise, chosen, not_equal, empty, next_whole, body_next, body_end}

-- the one fault of an answer
pub only_fault : {T : Type 0} (P : CaptureFault → Type 0) (f : CaptureFault) → P f → (fault : CaptureFault) → IsErrOf {T = T} (Err (Capture f)) (Capture fault) → P fault
only_fault P f holds fault is = let same : f ≡ fault = cc in subst P same holds

-- the same record by its parts
abbrev record_with : ℕ → ℕ → ℕ → List ℕ → PcapRecord
record_with seconds fraction wire frame = record { seconds = seconds; fraction = fraction; wire = wire; frame = frame }

-- the table, row by row
many : (order : Endian) (given : ℕ) (bytes : List ℕ) → 0 < length bytes → given ≡ 4294967295 → next_of order given bytes ≡ Err TooManyRecords
many order given bytes some all =
    otherwise (length bytes == 0) _ _ (not_equal (length bytes) 0 (λ h. omega arith)) ∙ chosen (given == 4294967295) _ _ (eq-eqb given 4294967295 all)

cut_head : (order : Endian) (given : ℕ) (bytes : List ℕ) → 0 < length bytes → given < 4294967295 → length bytes < 16 → next_of order given bytes ≡ Err (CutRecord (given + 1))
cut_head order given bytes some few short =
    otherwise (length bytes == 0) _ _ (not_equal (length bytes) 0 (λ h. omega arith)) ∙ otherwise (given == 4294967295) _ _ (not_equal given 4294967295 (λ h. omega arith))
    ∙ chosen (nat_lt (length bytes) 16) _ _ (lt-ltb (length bytes) 16 short)

long_frame : (order : Endian) (given : ℕ) (bytes : List ℕ) → given < 4294967295 → 16 ≤ length bytes → 262144 < captured_of order bytes → next_of order given bytes ≡ Err (FrameTooLong (given + 1) (captured_of order bytes))
long_frame order given bytes few long claimed =
    otherwise (length bytes == 0) _ _ (not_equal (length bytes) 0 (λ h. omega arith)) ∙ otherwise (given == 4294967295) _ _ (not_equal given 4294967295 (λ h. omega arith))
    ∙ otherwise (nat_lt (length bytes) 16) _ _ (le-ltb (length bytes) 16 long) ∙ chosen (nat_lt 262144 (captured_of order bytes)) _ _ (lt-ltb 262144 (captured_of order bytes) claimed)

cut_frame : (order : Endian) (given : ℕ) (bytes : List ℕ) → given < 4294967295 → 16 ≤ length bytes → captured_of order bytes ≤ 262144 → length bytes < 16 + captured_of order bytes → next_of order given bytes ≡ Err (CutRecord (given + 1))
cut_frame order given bytes few long short cut =
    otherwise (length bytes == 0) _ _ (not_equal (length bytes) 0 (λ h. omega arith)) ∙ otherwise (given == 4294967295) _ _ (not_equal given 4294967295 (λ h. omega arith))
    ∙ otherwise (nat_lt (length bytes) 16) _ _ (le-ltb (length bytes) 16 long) ∙ otherwise (nat_lt 262144 (captured_of order bytes)) _ _ (le-ltb 262144 (captured_of order bytes) short)
    ∙ chosen (nat_lt (length bytes) (16 + captured_of order bytes)) _ _ (lt-ltb (length bytes) (16 + captured_of order bytes) cut)

-- a refusal, from what comes next if the desk shows it
refusal : (fault : CaptureFault) (order : Endian) (given : ℕ) (old : SlotView) → IsRecordFault given fault → ((bytes : List ℕ) → old.bytes ≡ Some bytes → next_of order given bytes ≡ Err fault) →
    RefusesRecord fault (reader_at order given) old
refusal fault order given old kind next = record {
  kind = kind;
  next = if_told (λ o. IfSome (option_map (next_of order given) o) (λ n. n ≡ Err fault)) old.bytes (λ none. tt) next;
  whole = if_told (λ o. IfSome (option_map (body_of order given) o) (λ body. body ≡ record { records = []; fault = Some fault })) old.bytes (λ none. tt)
      (λ (bytes : List ℕ) (is : old.bytes ≡ Some bytes). body_next order given bytes ∙ ap (and_rest (body_of order (given + 1))) (next bytes is));
}

pub at_end : (order : Endian) (given : ℕ) (buffer : List ℕ) (old new : SlotView) → length buffer ≡ 16 → Fills 0 buffer old new → IsAtEnd (reader_at order given) (reader_at order given) old new
at_end order given buffer old new size fills =
    let nothing : (bytes : List ℕ) → old.bytes ≡ Some bytes → bytes ≡ [] = λ bytes is. empty bytes ((told_some 0 buffer bytes old new fills is).end_only (omega arith)) in
    record {
      same = refl;
      left = if_told (λ o. new.bytes ≡ o) old.bytes (told_none 0 buffer old new fills) (λ (bytes : List ℕ) (is : old.bytes ≡ Some bytes). (told_some 0 buffer bytes old new fills is).rest);
      empty = if_some (λ bytes. bytes ≡ []) old.bytes nothing;
      whole = if_told (λ o. IfSome (option_map (body_of order given) o) (λ body. body ≡ record { records = []; fault = None })) old.bytes (λ none. tt)
          (λ (bytes : List ℕ) (is : old.bytes ≡ Some bytes). ap (body_of order given) (nothing bytes is) ∙ body_end order given);
    }

pub too_many : (k : ℕ) (order : Endian) (given : ℕ) (buffer : List ℕ) (old new : SlotView) → Fills k buffer old new → 0 < k → given ≡ 4294967295 → RefusesRecord TooManyRecords (reader_at order given) old
too_many k order given buffer old new fills some all = refusal TooManyRecords order given old all
    (λ (bytes : List ℕ) (is : old.bytes ≡ Some bytes). many order given bytes (omega (arith, (told_some k buffer bytes old new fills is).some_left)) all)

pub ends_in_head : (k : ℕ) (order : Endian) (given : ℕ) (buffer : List ℕ) (old new : SlotView) → length buffer ≡ 16 → Fills k buffer old new → 0 < k → k < 16 → given < 4294967295 →
    RefusesRecord (CutRecord (given + 1)) (reader_at order given) old
ends_in_head k order given buffer old new size fills some short few = refusal (CutRecord (given + 1)) order given old (few, refl)
    (λ (bytes : List ℕ) (is : old.bytes ≡ Some bytes).
    let all : length bytes ≡ k = (told_some k buffer bytes old new fills is).end_only (omega arith) in
    cut_head order given bytes (omega (arith, all)) few (omega (arith, all)))

-- a number of a whole head
came : (order : Endian) (at : ℕ) (head bytes : List ℕ) (new : SlotView) → FillsFrom 16 bytes head new → at + 4 ≤ 16 → number_at order 4 at head ≡ number_at order 4 at bytes
came order at head bytes new fills within = same_number order 4 at 16 head bytes within fills.front

pub claims_more : (order : Endian) (given : ℕ) (head : List ℕ) (captured : ℕ) (old new : SlotView) → Fills 16 head old new → captured ≡ number_at order 4 8 head → 262144 < captured → given < 4294967295 →
    RefusesRecord (FrameTooLong (given + 1) captured) (reader_at order given) old
claims_more order given head captured old new fills is_captured more few = refusal (FrameTooLong (given + 1) captured) order given old (few, refl, more)
    (λ (bytes : List ℕ) (is : old.bytes ≡ Some bytes).
    let told = told_some 16 head bytes old new fills is in
    let same : captured ≡ captured_of order bytes = is_captured ∙ came order 8 head bytes new told (omega arith) in
    long_frame order given bytes few told.some_left (omega (arith, same)) ∙ ap (λ n. Err (FrameTooLong (given + 1) n)) (sym same))

pub ends_in_frame : (order : Endian) (given : ℕ) (head : List ℕ) (captured : ℕ) (old mid new : SlotView) → Fills 16 head old mid → captured ≡ number_at order 4 8 head → captured ≤ 262144 → given < 4294967295 →
    EndsWithin captured mid new → RefusesRecord (CutRecord (given + 1)) (reader_at order given) old
ends_in_frame order given head captured old mid new fills is_captured short few ends = refusal (CutRecord (given + 1)) order given old (few, refl)
    (λ (bytes : List ℕ) (is : old.bytes ≡ Some bytes).
    let told = told_some 16 head bytes old mid fills is in
    let same : captured ≡ captured_of order bytes = is_captured ∙ came order 8 head bytes mid told (omega arith) in
    let rest : length (drop 16 bytes) < captured = subst (λ o. IfSome o (λ left. length left < captured)) told.rest ends.short in
    cut_frame order given bytes few told.some_left (omega (arith, same)) (omega (arith, same, rest, length-drop 16 bytes)))

pub same_record : (s s' f f' w w' : ℕ) (x x' : List ℕ) → s ≡ s' → f ≡ f' → w ≡ w' → x ≡ x' → record_with s f w x ≡ record_with s' f' w' x'
same_record s s' f f' w w' x x' p q r t =
    ap (λ y. record_with y f w x) p ∙ ap (λ y. record_with s' y w x) q ∙ ap (λ y. record_with s' f' y x) r ∙ ap (λ y. record_with s' f' w' y) t

-- a record whose head and frame are complete
record_came : (order : Endian) (given : ℕ) (head frame bytes : List ℕ) (captured : ℕ) (mid new : SlotView) → FillsFrom 16 bytes head mid → FillsFrom captured (drop 16 bytes) frame new →
    length frame ≡ captured → captured ≡ number_at order 4 8 head → captured ≤ 262144 → given < 4294967295 →
    next_of order given bytes ≡ Ok (Some (record_with (number_at order 4 0 head) (number_at order 4 4 head) (number_at order 4 12 head) frame, drop captured (drop 16 bytes)))
record_came order given head frame bytes captured mid new first second size is_captured short few =
    let same : captured_of order bytes ≡ captured = sym (is_captured ∙ came order 8 head bytes mid first (omega arith)) in
    let body : take (captured_of order bytes) (drop 16 bytes) ≡ frame = ap (λ n. take n (drop 16 bytes)) same ∙ sym second.front ∙ ap (λ n. take n frame) (sym size) ∙ take-length frame in
    let read : record_of order bytes ≡ record_with (number_at order 4 0 head) (number_at order 4 4 head) (number_at order 4 12 head) frame =
    same_record _ (number_at order 4 0 head) _ (number_at order 4 4 head) _ (number_at order 4 12 head) _ frame
    (sym (came order 0 head bytes mid first (omega arith))) (sym (came order 4 head bytes mid first (omega arith))) (sym (came order 12 head bytes mid first (omega arith))) body in
    let rest : drop (16 + captured_of order bytes) bytes ≡ drop captured (drop 16 bytes) = ap (λ n. drop (16 + n) bytes) same ∙ sym (drop-drop captured 16 bytes) in
    next_whole order given bytes few first.some_left (omega (arith, same)) (omega (arith, same, first.some_left, second.some_left, length-drop 16 bytes))
    ∙ ap (λ r. Ok (Some (r, drop (16 + captured_of order bytes) bytes))) read
    ∙ ap (λ l. Ok (Some (record_with (number_at order 4 0 head) (number_at order 4 4 head) (number_at order 4 12 head) frame, l))) rest

pub record_read : (order : Endian) (given : ℕ) (head frame : List ℕ) (captured : ℕ) (r : PcapRecord) (old mid new : SlotView) → Fills 16 head old mid → Fills captured frame mid new →
    length frame ≡ captured → captured ≡ number_at order 4 8 head → captured ≤ 262144 → given < 4294967295 →
    r ≡ record_with (number_at order 4 0 head) (number_at order 4 4 head) (number_at order 4 12 head) frame → ReadsRecord r (reader_at order given) (reader_at order (given + 1)) old new
record_read order given head frame captured r old mid new first second size is_captured short few read =
    let next : (bytes : List ℕ) → old.bytes ≡ Some bytes → next_of order given bytes ≡ Ok (Some (r, drop captured (drop 16 bytes))) = λ bytes is.
    let told = told_some 16 head bytes old mid first is in
    record_came order given head frame bytes captured mid new told (told_some captured frame (drop 16 bytes) mid new second told.rest) size is_captured short few
    ∙ ap (λ x. Ok (Some (x, drop captured (drop 16 bytes)))) (sym read) in
    let rest : (bytes : List ℕ) → old.bytes ≡ Some bytes → new.bytes ≡ Some (drop captured (drop 16 bytes)) = λ bytes is.
    (told_some captured frame (drop 16 bytes) mid new second (told_some 16 head bytes old mid first is).rest).rest in
    let none : old.bytes ≡ None → new.bytes ≡ None = λ is. told_none captured frame mid new second (told_none 16 head old mid first is) in
    record {
      counted = refl;
      few = few;
      short = omega (arith, ap (λ x. length x.frame) read);
      next = if_told (λ o. option_map (next_of order given) o ≡ option_map (λ l. Ok (Some (r, l))) new.bytes) old.bytes
          (λ is. ap (option_map (λ l. Ok (Some (r, l)))) (sym (none is)))
          (λ (bytes : List ℕ) (is : old.bytes ≡ Some bytes). ap (λ n. Some n) (next bytes is) ∙ ap (option_map (λ l. Ok (Some (r, l)))) (sym (rest bytes is)));
      whole = if_told (λ o. option_map (body_of order given) o ≡ option_map (with_record r) (option_map (body_of order (given + 1)) new.bytes)) old.bytes
          (λ is. ap (λ o. option_map (with_record r) (option_map (body_of order (given + 1)) o)) (sym (none is)))
          (λ (bytes : List ℕ) (is : old.bytes ≡ Some bytes). ap (λ b. Some b) (body_next order given bytes ∙ ap (and_rest (body_of order (given + 1))) (next bytes is))
          ∙ ap (λ o. option_map (with_record r) (option_map (body_of order (given + 1)) o)) (sym (rest bytes is)));
    }

-- a buffer that was filled is full
pub whole_count : (k : ℕ) (buffer : List ℕ) (old new : SlotView) → length buffer ≡ 16 → 16 ≤ k → Fills k buffer old new → Fills 16 buffer old new
whole_count k buffer old new size long fills = subst (λ n. Fills n buffer old new) (let e : k ≡ 16 = omega (arith, fills.within, size) in e) fills

-- a head and at most a frame were taken
pub taken_both : (k : ℕ) (buffer : List ℕ) (captured : ℕ) (old mid new : SlotView) → length buffer ≡ 16 → Fills k buffer old mid → captured ≤ 262144 → TakesFront captured mid new → TakesFront 262160 old new
taken_both k buffer captured old mid new size fills short more =
    taken_less (length buffer + captured) 262160 old new (omega (arith, size, short)) (taken_twice (length buffer) captured old mid new (fills_taken k buffer old mid fills) more)
